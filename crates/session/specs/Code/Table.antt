-- A table of refusals as the code goes through it: one row after the other, up to the first that holds.
use Rattle.std.specs.Prelude.{ℕ, List, [], ◌∷◌, Bool, true, ◌&&◌, cond, ltb}
use Rattle.returned.specs.Returned.{rank_of}
use Rattle.session.specs.Refusal.{Row}

-- the number of the first row that holds; 0 where none does
unfoldable pub first_number : List Row → ℕ
first_number [] = 0
first_number (r ∷ l) = cond r.holds r.number (first_number l)

-- the ranks of the rows' numbers rise, from above k
abbrev pub rising : ℕ → List Row → Bool
rising k [] = true
rising k (r ∷ l) = ltb k (rank_of r.number) && rising (rank_of r.number) l
