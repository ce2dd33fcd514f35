-- Document 02, K5, "A longest wait for each size of file": the rows that teachers edit, and when they are as they should be.
use Rattle.std.specs.Prelude.{ℕ, suc, ◌+◌, ◌≤◌, ◌≡◌, List, [], ◌∷◌, Bool, false, not, ◌&&◌, ◌||◌, cond, leb, ltb, eqb}
use Rattle.rows.specs.declared.Row.{Row}

-- a length lies in a row; "A row whose shortest is above its longest holds no length."
abbrev pub in_row : ℕ → Row → Bool
in_row n r = leb r.shortest n && leb n r.longest

-- in how many rows a length lies
unfoldable pub rows_with : ℕ → List Row → ℕ
rows_with n [] = 0
rows_with n (r ∷ l) = cond (in_row n r) (suc (rows_with n l)) (rows_with n l)

-- the longest length that lies in a row
abbrev pub last_length : ℕ
last_length = 65536

-- "Each length from 0 to 65,536 lies in exactly one row."
abbrev pub EachInOne : List Row → Type 0
EachInOne l = (n : ℕ) → n ≤ last_length → rows_with n l ≡ 1

-- some row passes a test
unfoldable pub any_row : (Row → Bool) → List Row → Bool
any_row f [] = false
any_row f (r ∷ l) = f r || any_row f l

-- a length up to 65,536 lies in no row, and in more than one
abbrev pub is_left_out : List Row → ℕ → Bool
is_left_out l n = leb n last_length && eqb (rows_with n l) 0

abbrev pub is_doubled : List Row → ℕ → Bool
is_doubled l n = leb n last_length && ltb 1 (rows_with n l)

-- "a length up to 65,536 in no row": if there is one, 0 is one or the length behind some row's longest
unfoldable pub has_gap : List Row → Bool
has_gap l = is_left_out l 0 || any_row (λ r. is_left_out l (r.longest + 1)) l

-- "one in more than one row": if there is one, the shortest of some row is one
unfoldable pub has_overlap : List Row → Bool
has_overlap l = any_row (λ r. is_doubled l r.shortest) l

-- "seconds out of range": in any row, one that holds no length too
abbrev pub good_seconds : Row → Bool
good_seconds r = leb 1 r.seconds && leb r.seconds 3600

unfoldable pub has_bad_seconds : List Row → Bool
has_bad_seconds l = any_row (λ r. not (good_seconds r)) l
