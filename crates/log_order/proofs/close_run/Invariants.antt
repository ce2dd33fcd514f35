-- `log_order::close_run` meets its contract. The loop's invariant: the pass has gone on to the place. Assumes nothing.
use Prim.Native.Nat.{◌≤◌}
use mathlib.Core.Path.{◌≡◌}
use lib.ListN.{length}
use Rattle.log_rules.specs.Code.Slots.{slots_in}
use Rattle.log_order.specs.Code.Closed.{ClosedMore}
use Rattle.log_order.proofs.close_run.Given as goal

abbrev pub invariant-loop-j : goal.invariant-loop-j
invariant-loop-j l =
    (l.from ≤ l.j) × (length l.found ≡ length l.initial.found) × ClosedMore (slots_in l.s) l.to l.j l.initial.found l.initial.all l.initial.others l.found l.all l.others l.count
