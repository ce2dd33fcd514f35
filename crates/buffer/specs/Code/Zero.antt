-- Bytes that are all zero.
use Rattle.std.specs.Prelude.{ℕ, List, [], ◌∷◌, Bool, true, ◌&&◌, eqb}

-- "Bytes not in use are zero"
unfoldable pub zeros : List ℕ → Bool
zeros [] = true
zeros (a ∷ s) = eqb a 0 && zeros s
