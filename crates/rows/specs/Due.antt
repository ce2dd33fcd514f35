-- Document 02, K5: the time now, and when an operation is due.
use Rattle.std.specs.Prelude.{ℕ, ◌+◌, min, max, List, [], ◌∷◌, cond}
use Rattle.std.specs.Prelude.{Option, None, Some}
use Rattle.rows.specs.declared.Row.{Row}
use Rattle.rows.specs.Rows.{in_row}

-- a time is a number of 4 bytes, in seconds: the last one
abbrev pub last_time : ℕ
last_time = 4294967295

-- "an earlier time than one already seen counts as the latest seen". A clock has 4 bytes; of a greater number, which no entry can be
-- given, the time is the last
unfoldable pub time_now : ℕ → ℕ → ℕ
time_now clock latest = min last_time (max clock latest)

-- the seconds of the row that holds a length
unfoldable pub seconds_for : ℕ → List Row → Option ℕ
seconds_for n [] = None
seconds_for n (r ∷ l) = cond (in_row n r) (Some r.seconds) (seconds_for n l)

-- "its issue time plus the seconds for the length"; "It stops at 4,294,967,295, and is that before rows are loaded."
abbrev pub due_after : ℕ → Option ℕ → ℕ
due_after time None = last_time
due_after time (Some s) = min last_time (time + s)

unfoldable pub due_time : ℕ → ℕ → List Row → ℕ
due_time time n l = due_after time (seconds_for n l)
