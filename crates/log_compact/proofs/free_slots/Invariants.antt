-- `log_compact::free_slots` meets its contract. The loop's invariant: of the slots read those that are kept stand in front, and the
-- others are where they were. Assumes nothing.
use Rattle.log_compact.specs.Laws.Free.{Closing}
use Rattle.log_compact.proofs.free_slots.Given as goal

abbrev pub invariant-loop-read : goal.invariant-loop-read
invariant-loop-read l = Closing l.initial.s l.freed l.s l.read l.write
