-- Document 02, K5: what the definitions say of some rows, and when an operation is due by them: one table, proved through one statement.
use Rattle.std.specs.Prelude.{ℕ, ◌≡◌, refl, List, [], ◌∷◌, map, Bool, true, false}
use Rattle.std.proofs.Common.{arith}
use Rattle.rows.specs.declared.Row.{Row}
use Rattle.rows.specs.Rows.{rows_with, any_row, has_gap, has_overlap, has_bad_seconds}
use Rattle.rows.specs.Due.{time_now, seconds_for, due_time}

abbrev pub row : ℕ → ℕ → ℕ → Row
row s l t = record { shortest = s; longest = l; seconds = t }

-- what is asked of rows
pub data Question : Type 0 where
  gap : List Row → Question
  overlap : List Row → Question
  bad_seconds : List Row → Question
  -- in how many rows a length lies
  count : ℕ → List Row → Question
  -- when an operation of a time and a length is due
  due : ℕ → ℕ → List Row → Question
  -- the time now, of a clock and the latest time seen
  time : ℕ → ℕ → Question

pub data Answer : Type 0 where
  says : Bool → Answer
  is : ℕ → Answer

unfoldable pub answer_to : Question → Answer
answer_to (gap l) = says (has_gap l)
answer_to (overlap l) = says (has_overlap l)
answer_to (bad_seconds l) = says (has_bad_seconds l)
answer_to (count n l) = is (rows_with n l)
answer_to (due t n l) = is (due_time t n l)
answer_to (time c p) = is (time_now c p)

pub record Case : Type 0 where
  pub asked : Question
  pub told : Answer

abbrev pub case : Question → Answer → Case
case q a = record { asked = q; told = a }

-- two rows that touch; with one length between them left out; with one length in both; and with a row that holds nothing
abbrev pub touching : List Row
touching = row 0 1023 10 ∷ row 1024 65536 60 ∷ []

abbrev pub gapped : List Row
gapped = row 0 1023 10 ∷ row 1025 65536 60 ∷ []

abbrev pub overlapping : List Row
overlapping = row 0 1024 10 ∷ row 1024 65536 60 ∷ []

abbrev pub with_empty : List Row
with_empty = row 5 4 0 ∷ touching

-- one row up to the last number of 4 bytes
abbrev pub whole : List Row
whole = row 0 4294967295 3600 ∷ []

abbrev pub cases : List Case
cases =
    -- "Each length from 0 to 65,536 lies in exactly one row."
    case (gap touching) (says false)
    ∷ case (overlap touching) (says false)
    ∷ case (bad_seconds touching) (says false)
    ∷ case (count 1023 touching) (is 1)
    ∷ case (count 1024 touching) (is 1)
    -- "a length up to 65,536 in no row, one in more than one row"
    ∷ case (gap gapped) (says true)
    ∷ case (overlap gapped) (says false)
    ∷ case (gap overlapping) (says false)
    ∷ case (overlap overlapping) (says true)
    ∷ case (gap []) (says true)
    -- "A row's ends have no upper limit but their 4 bytes"
    ∷ case (gap whole) (says false)
    ∷ case (overlap whole) (says false)
    ∷ case (bad_seconds whole) (says false)
    -- "A row whose shortest is above its longest holds no length."; its seconds are tested all the same
    ∷ case (count 5 with_empty) (is 1)
    ∷ case (gap with_empty) (says false)
    ∷ case (overlap with_empty) (says false)
    ∷ case (bad_seconds with_empty) (says true)
    -- "its issue time plus the seconds for the length"
    ∷ case (due 5 1023 touching) (is 15)
    ∷ case (due 5 1024 touching) (is 65)
    -- "It stops at 4,294,967,295, and is that before rows are loaded."
    ∷ case (due 4294967290 0 touching) (is 4294967295)
    ∷ case (due 5 1024 []) (is 4294967295)
    -- "an earlier time than one already seen counts as the latest seen"
    ∷ case (time 7 9) (is 9)
    ∷ case (time 9 7) (is 9)
    ∷ []

pub cases-hold : map (λ c. answer_to c.asked) cases ≡ map (λ c. c.told) cases
unfolding answer_to has_gap has_overlap has_bad_seconds any_row rows_with due_time seconds_for time_now
cases-hold = refl

-- a due time neither goes on past the last time nor begins anew behind it
pub never-past : due_time 4294967290 0 touching ≡ 4294967300 → ⊥
unfolding due_time seconds_for
never-past e = omega arith

pub never-anew : due_time 4294967290 0 touching ≡ 4 → ⊥
unfolding due_time seconds_for
never-anew e = omega arith
