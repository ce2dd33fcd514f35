-- Rows, from row to row: the row that stands at a place of the bytes, and what a loop over rows may use. Assumes nothing.
use Rattle.std.specs.Prelude.{ℕ, zero, suc, ◌+◌, ◌*◌, ◌/◌, ◌≤◌, ◌<◌, ◌≡◌, refl, List, [], ◌∷◌, Bool, true, false, length, drop, None, Some}
use Rattle.std.specs.List.{slice_get}
use Rattle.std.proofs.Common.{add-one, arith, ap, ◌∙◌, drop_of_length-le, drop-drop, drop-cons}
use Rattle.std.proofs.lemmas.Option.{slice_get_within, get_or_from_slice_get}
use Rattle.rows.specs.declared.Row.{Row}
use Rattle.rows.specs.Rows.{in_row, rows_with, any_row}
use Rattle.rows.specs.Stored.{row_bytes, read_row, read_rows, rows_in}
use Rattle.rows.specs.Due.{seconds_for}
use Rattle.rows.proofs.Laws.Stored.{rows-length}

rows-at : (k i : ℕ) (s : List ℕ) → i < k → slice_get (read_rows k s) i ≡ Some (read_row (drop (i * row_bytes) s))
unfolding read_rows
rows-at zero i s h = absurd (omega arith)
rows-at (suc k) zero s h = refl
rows-at (suc k) (suc i) s h =
    let d : row_bytes + i * row_bytes ≡ suc i * row_bytes = omega arith in
    rows-at k i (drop row_bytes s) (omega arith)
    ∙ ap (λ (t : List ℕ). Some (read_row t)) (drop-drop (i * row_bytes) row_bytes s ∙ ap (λ (n : ℕ). drop n s) d)

-- The row at a position of the bytes.
pub row_at : (s : List ℕ) (i : ℕ) → i < length s / row_bytes → slice_get (rows_in s) i ≡ Some (read_row (drop (i * row_bytes) s))
row_at s i h = rows-at (length s / row_bytes) i s h

module _ (l : List Row) (i : ℕ) (r : Row) (h : slice_get l i ≡ Some r) where
  -- The row at a position, and those behind it.
  pub row_here : drop i l ≡ r ∷ drop (i + 1) l
  row_here =
      drop-cons l i r (slice_get_within l i r h)
      ∙ rw (get_or_from_slice_get l i r r h, add-one i) refl

  -- A count goes on.
  pub with_in : (n : ℕ) → in_row n r ≡ true → rows_with n (drop i l) ≡ suc (rows_with n (drop (i + 1) l))
  unfolding rows_with
  with_in n e = rw (row_here, e)

  pub with_out : (n : ℕ) → in_row n r ≡ false → rows_with n (drop i l) ≡ rows_with n (drop (i + 1) l)
  unfolding rows_with
  with_out n e = rw (row_here, e)

  -- A search for a row that passes a test ends at one, and goes on past one that does not.
  pub any_here : (f : Row → Bool) → f r ≡ true → any_row f (drop i l) ≡ true
  unfolding any_row
  any_here f e = rw (row_here, e)

  pub any-on : (f : Row → Bool) → f r ≡ false → any_row f (drop i l) ≡ any_row f (drop (i + 1) l)
  unfolding any_row
  any-on f e = rw (row_here, e)

  -- So does the search for the row that holds a length.
  pub seconds-here : (n : ℕ) → in_row n r ≡ true → seconds_for n (drop i l) ≡ Some r.seconds
  unfolding seconds_for
  seconds-here n e = rw (row_here, e)

  pub seconds-on : (n : ℕ) → in_row n r ≡ false → seconds_for n (drop i l) ≡ seconds_for n (drop (i + 1) l)
  unfolding seconds_for
  seconds-on n e = rw (row_here, e)

module _ (l : List Row) (i : ℕ) (h : length l ≤ i) where
  -- Behind the last row is none.
  row-end : drop i l ≡ []
  row-end = drop_of_length-le l {i = i} h

  pub with-end : (n : ℕ) → rows_with n (drop i l) ≡ 0
  unfolding rows_with
  with-end n = rw row-end

  pub any-end : (f : Row → Bool) → any_row f (drop i l) ≡ false
  unfolding any_row
  any-end f = rw row-end

  pub seconds-end : (n : ℕ) → seconds_for n (drop i l) ≡ None
  unfolding seconds_for
  seconds-end n = rw row-end

-- for the functions that read rows of bytes, and for the loops over rows
pub ruleset rows_read = (rows-length, row_at)

pub ruleset tests = (any_here, any-on, any-end)

pub ruleset walks = (with_in, with_out, with-end, seconds-here, seconds-on, seconds-end)
