-- `rows::Rows::due_time` meets its contract. The loop's invariant: the rows from i on decide the seconds. Assumes nothing.
use mathlib.Core.Path.{◌≡◌}
use lib.ListN.{drop}
use Rattle.rows.specs.Due.{seconds_for}
use Rattle.rows.proofs.Rows.due_time.Given as goal

abbrev pub invariant-loop-i : goal.invariant-loop-i
invariant-loop-i l = seconds_for l.n l.self ≡ seconds_for l.n (drop l.i l.self)
