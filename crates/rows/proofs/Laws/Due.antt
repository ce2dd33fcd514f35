-- The time now never runs back, and a due time is never before the issue; both stop at the last time. Assumes nothing.
use Rattle.std.specs.Prelude.{ℕ, ◌≤◌, ◌≡◌, refl, List, []}
use Rattle.std.proofs.Common.{arith}
use Rattle.std.specs.Prelude.{Option, None, Some}
use Rattle.rows.specs.declared.Row.{Row}
use Rattle.rows.specs.Due.{last_time, time_now, seconds_for, due_after, due_time}

after_last : (time : ℕ) (o : Option ℕ) → due_after time o ≤ last_time
after_last time None = omega arith
after_last time (Some s) = omega arith

after-later : (time : ℕ) (o : Option ℕ) → time ≤ last_time → time ≤ due_after time o
after-later time None h = h
after-later time (Some s) h = omega arith

-- A due time is a time.
pub due-last : (time n : ℕ) (l : List Row) → due_time time n l ≤ last_time
unfolding due_time
due-last time n l = after_last time (seconds_for n l)

-- It is not before the issue.
pub due-later : (time n : ℕ) (l : List Row) → time ≤ last_time → time ≤ due_time time n l
unfolding due_time
due-later time n l h = after-later time (seconds_for n l) h

-- The time now is a time, and not before the latest seen and the clock.
pub now-last : (clock latest : ℕ) → time_now clock latest ≤ last_time
unfolding time_now
now-last clock latest = omega arith

pub now-latest : (clock latest : ℕ) → latest ≤ last_time → latest ≤ time_now clock latest
unfolding time_now
now-latest clock latest h = omega arith

pub now-clock : (clock latest : ℕ) → clock ≤ last_time → clock ≤ time_now clock latest
unfolding time_now
now-clock clock latest h = omega arith

-- "and is that before rows are loaded".
pub due-none : (time n : ℕ) → due_time time n [] ≡ last_time
unfolding due_time seconds_for
due-none time n = refl
