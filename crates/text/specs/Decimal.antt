-- Document 01: "All numbers are decimal". A number as its decimal digits, with no zeros in front.
use Rattle.std.specs.Prelude.{ℕ, zero, suc, ◌+◌, ◌/◌, ◌%◌, List, [], ◌∷◌, ◌++◌, Bool, true, false, ltb}

-- the byte of a digit: "0" is 48
abbrev pub digit : ℕ → ℕ
digit d = 48 + d

-- the digits of a number, told whether it is below 10; the first argument bounds how many there are
unfoldable pub digits : ℕ → Bool → ℕ → List ℕ
digits zero small v = []
digits (suc f) true v = digit v ∷ []
digits (suc f) false v = digits f (ltb (v / 10) 10) (v / 10) ++ (digit (v % 10) ∷ [])

-- a number has no more digits than itself and one
unfoldable pub decimal : ℕ → List ℕ
decimal v = digits (suc v) (ltb v 10) v
