-- `log_order::run_precedes` meets its contract. The loop's invariant: the candidates from the place on decide.
-- Assumes nothing.
use mathlib.Core.Path.{◌≡◌}
use lib.Seq.{slice}
use Rattle.record.specs.Operation.{Operation}
use Rattle.log_rules.specs.Code.Slots.{slots_in}
use Rattle.log_touch.specs.Code.Later.{Later}
use Rattle.log_order.specs.Code.Candidates.{some_before}
use Rattle.log_order.proofs.run_precedes.Given as goal

abbrev pub invariant-loop-j : goal.invariant-loop-j
invariant-loop-j l =
    (q : Operation) → Later q l.set l.overwrite l.offset l.len → some_before q (slice l.from l.to (slots_in l.s)) ≡ some_before q (slice l.j l.to (slots_in l.s))
