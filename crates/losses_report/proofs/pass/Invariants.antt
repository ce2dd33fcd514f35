-- `losses_report::pass` meets its contract. The loop's invariant: a pass from the present place on, with the text so far in front, is one from the start.
-- The measure is what is left of the bytes. Assumes nothing.
use Prim.Native.Nat.{◌-◌}
use lib.ListN.{length}
use Rattle.losses_report.specs.Laws.Pass.{Begun}
use Rattle.losses_report.proofs.pass.Given as goal

abbrev pub invariant-loop-place : goal.invariant-loop-place
invariant-loop-place l = Begun l.s l.base l.ended l.initial.out l.place.at l.to l.out

abbrev pub decreases-loop-place : goal.decreases-loop-place
decreases-loop-place l = length l.s - l.place.at
