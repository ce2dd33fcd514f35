-- `rows::Rows::any_row` meets its contract. The loop's invariant: the rows from i on decide the answer. Assumes nothing.
use mathlib.Core.Path.{◌≡◌}
use mathlib.Core.Bool.{Bool}
use lib.ListN.{drop}
use Rattle.rows.specs.declared.Row.{Row}
use Rattle.rows.specs.Rows.{any_row}
use Rattle.rows.proofs.Rows.any_row.Given as goal

abbrev pub invariant-loop-i : goal.invariant-loop-i
invariant-loop-i g l =
    goal.F-IsAlwaysCallable g l.test
    × ((f : Row → Bool) → ((r : Row) (t : Bool) → goal.F-post g l.test r t → t ≡ f r) → any_row f l.self ≡ any_row f (drop l.i l.self))
