-- The script format: three areas "of 32,768 bytes each", and bytes arguments of at most 2,048 bytes.
use Rattle.std.specs.Prelude.{ℕ, min, ◌≤◌, ◌≡◌, List, length, take}

-- the areas
pub record Areas (s v l : List ℕ) : Type 0 where
  pub server : length s ≡ 32768
  pub view : length v ≡ 32768
  pub log : length l ≡ 32768

-- a buffer for each of two bytes arguments
pub record Room (first second : List ℕ) : Type 0 where
  pub bytes : length first ≡ 2048
  pub more : length second ≡ 2048

-- so many of a list's first elements, or as many as there are
pub record Front (asked n : ℕ) (xs : List ℕ) : Type 0 where
  pub least : n ≡ min asked (length xs)
  pub small : n ≤ asked
  pub within : n ≤ length xs
  pub counted : n ≡ length (take n xs)
