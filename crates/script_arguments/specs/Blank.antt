-- The script format: "An empty line, and a line whose first byte is `#`, print nothing and do nothing."
use Rattle.std.specs.Prelude.{ℕ, Bool, true, List, [], ◌∷◌, eqb}

abbrev pub blank : List ℕ → Bool
blank [] = true
blank (c ∷ s) = eqb c 35
