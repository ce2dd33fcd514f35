-- `log_discard::discard_slots` meets its contract. The loop's invariant: the slots from i on are discarded, and the programs that
-- depended on them are found. Assumes nothing.
use Rattle.log_rules.specs.Code.Slots.{slots_in}
use Rattle.log_discard.specs.Laws.Discard.{DoneFrom}
use Rattle.log_discard.proofs.discard_slots.Given as goal

abbrev pub invariant-loop-i : goal.invariant-loop-i
invariant-loop-i l = DoneFrom l.i (slots_in l.initial.s) l.s l.found
