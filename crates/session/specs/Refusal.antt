-- Document 01, "Returned numbers": "The lowest number wins." A call's refusals are a table: conditions, each with its number.
use Rattle.std.specs.Prelude.{ℕ, List, [], ◌∷◌, Bool, cond, leb, eqb}
use Rattle.returned.specs.Returned.{rank_of}

pub record Row : Type 0 where
  pub holds : Bool
  pub number : ℕ

abbrev pub row : ℕ → Bool → Row
row n b = record { holds = b; number = n }

-- of two numbers, of which 0 is none, the one of the lower rank
abbrev pub lower : ℕ → ℕ → ℕ
lower a b = cond (eqb a 0) b (cond (eqb b 0) a (cond (leb (rank_of a) (rank_of b)) a b))

-- the number of the lowest rank among the rows that hold; 0 where none does
unfoldable pub lowest_number : List Row → ℕ
lowest_number [] = 0
lowest_number (r ∷ l) = cond r.holds (lower r.number (lowest_number l)) (lowest_number l)
