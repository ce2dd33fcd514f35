-- `log_order::precedes_found` meets its contract. The loop's invariant: those found from the place on decide. Assumes nothing.
use mathlib.Core.Path.{◌≡◌}
use Rattle.record.specs.Operation.{Operation}
use Rattle.log_rules.specs.Code.Slots.{slots_in}
use Rattle.log_operands.specs.Code.Ordering.{Ordering}
use Rattle.log_touch.specs.Code.Later.{Later}
use Rattle.log_order.specs.Laws.Close.{after}
use Rattle.log_order.proofs.precedes_found.Given as goal

abbrev pub invariant-loop-j : goal.invariant-loop-j
invariant-loop-j l =
    ((a : Operation) → Ordering l.rec a l.o → Later a l.set l.o.overwrite l.o.offset l.o.len)
    × ((a : Operation) → Ordering l.rec a l.o → after a l.found (slots_in l.s) l.j l.from ≡ after a l.found (slots_in l.s) l.j l.j)
