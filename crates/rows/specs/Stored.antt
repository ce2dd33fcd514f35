-- Document 02, K5: rows in bytes, "12 bytes a row, in that order": "shortest length, longest length, seconds", each number in 4 bytes.
use Rattle.std.specs.Prelude.{ℕ, zero, suc, ◌^◌, ◌/◌, ◌%◌, List, [], ◌∷◌, ◌++◌, Bool, true, ◌&&◌, length, take, drop, replicate, leb, ltb, eqb}
use Rattle.buffer.specs.Numeral.{bytes, numeral}
use Rattle.rows.specs.declared.Row.{Row}

abbrev pub row_bytes : ℕ
row_bytes = 12

-- "up to 16 rows"
abbrev pub most_rows : ℕ
most_rows = 16

abbrev pub encode_row : Row → List ℕ
encode_row r = bytes 4 r.shortest ++ (bytes 4 r.longest ++ bytes 4 r.seconds)

-- the bytes of so many rows, zeros where none is left: "unused rows zero"
unfoldable pub encode_rows : ℕ → List Row → List ℕ
encode_rows zero l = []
encode_rows (suc k) [] = replicate row_bytes 0 ++ encode_rows k []
encode_rows (suc k) (r ∷ l) = encode_row r ++ encode_rows k l

-- the row that bytes begin with, and so many rows
abbrev pub read_row : List ℕ → Row
read_row s = record { shortest = numeral (take 4 s); longest = numeral (take 4 (drop 4 s)); seconds = numeral (take 4 (drop 8 s)) }

unfoldable pub read_rows : ℕ → List ℕ → List Row
read_rows zero s = []
read_rows (suc k) s = read_row s ∷ read_rows k (drop row_bytes s)

-- rows as they are lent
abbrev pub rows_in : List ℕ → List Row
rows_in s = read_rows (length s / row_bytes) s

-- "over 16 rows, or a part of one, are refusal 1"
abbrev pub rows_fit : List ℕ → Bool
rows_fit s = eqb (length s % row_bytes) 0 && leb (length s / row_bytes) most_rows

-- each number of a row fits its 4 bytes: "A row's ends have no upper limit but their 4 bytes"
abbrev pub fits_four : Row → Bool
fits_four r = ltb r.shortest (2 ^ 32) && (ltb r.longest (2 ^ 32) && ltb r.seconds (2 ^ 32))

unfoldable pub all_fit_four : List Row → Bool
all_fit_four [] = true
all_fit_four (r ∷ l) = fits_four r && all_fit_four l

-- rows as they should be lent: of bytes each number has 4, so this asks no more than `rows_fit`; what is no bytes is lent by no entry
abbrev pub rows_lent : List ℕ → Bool
rows_lent s = rows_fit s && all_fit_four (rows_in s)
