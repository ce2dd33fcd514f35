-- A buffer with some bytes of it replaced, its other bytes as before.
use Rattle.std.specs.Prelude.{ℕ, ◌+◌, ◌≡◌, List, ◌++◌, length, take, drop}

-- a list with the elements from a place on replaced by those given
unfoldable pub patch : List ℕ → ℕ → List ℕ → List ℕ
patch l at v = take at l ++ (v ++ drop (at + length v) l)

-- some bytes put at a place of a buffer, its other bytes as before, and the place after them
pub record Put (v : List ℕ) (at : ℕ) (before after : List ℕ) (end : ℕ) : Type 0 where
  pub placed : after ≡ patch before at v
  pub ends : end ≡ at + length v
