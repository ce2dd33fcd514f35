-- `log_dependence::note_slot` meets its contract: the slot is noted if it is reached. Assumes nothing.
use mathlib.Core.Path.{ap, ◌∙◌}
use Prim.Native.Nat.{ℕ}
use lib.ListN.{set}
use Rattle.log_rules.specs.Programs.{with}
use Rattle.log_rules.specs.Slot.{with_dependents}
use Rattle.log_rules.specs.Stored.{encode_slots}
use Rattle.log_rules.specs.Code.Slots.{slots_in, slot_at}
use Rattle.log_dependence.specs.Laws.Noted.{noted-slot-of, passed-slot-of}
use Rattle.log_dependence.proofs.note_slot.Goals as goal

pub returns-then-reach_slot : goal.returns-then-reach_slot
returns-then-reach_slot c =
    let x = c.args in
    let s = slot_at (slots_in x.s.now) x.i in
    noted-slot-of x.program x.i x.s.now x.reached.now _ c.reach_slot.result c.reach_slot.ensures c.if-reach_slot.true c.set_dependents.new.s
    (c.set_dependents.ensures ∙ ap (λ (v : ℕ). encode_slots (set (slots_in x.s.now) x.i (with_dependents v s))) (c.with_program.ensures ∙ ap (λ (v : ℕ). with v x.program) c.dependents-d.ensures.0))

pub returns-else-reach_slot : goal.returns-else-reach_slot
returns-else-reach_slot c =
    let x = c.args in
    passed-slot-of x.program x.i x.s.now x.reached.now _ c.reach_slot.result c.reach_slot.ensures c.if-reach_slot.false c.requires.slotted
