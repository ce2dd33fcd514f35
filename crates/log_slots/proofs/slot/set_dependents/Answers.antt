-- `log_slots::slot::set_dependents` meets its contract: a put inside one slot. Assumes nothing.
use native.Mathlib.Omega.{arith}
use mathlib.Core.Path.{◌∙◌}
use Rattle.buffer.specs.Numeral.{bytes}
use Rattle.buffer.specs.Laws.Numeral.{length-bytes}
use Rattle.log_rules.specs.Slot.{with_dependents}
use Rattle.log_rules.specs.Stored.{dependents_at}
use Rattle.log_rules.specs.Code.Slots.{slots_in, slot_at}
use Rattle.log_slots.specs.Laws.Slot.{slot-room, slot-put, dependents-put, record-valid}
use Rattle.log_slots.proofs.slot.set_dependents.Goals as goal

pub put_four-requires : goal.put_four-requires
put_four-requires c = omega (arith, slot-room c.args.s.now c.requires.slotted c.args.i c.requires.i_in_bounds)

pub returns : goal.returns
returns c =
    let a = c.args in
    let x = slot_at (slots_in a.s.now) a.i in
    c.put_four.ensures.placed
    ∙ slot-put a.s.now c.requires.slotted a.i c.requires.i_in_bounds dependents_at (bytes 4 a.d) (with_dependents a.d x) (omega (arith, length-bytes 4 a.d))
    (record-valid a.s.now c.requires.slotted a.i c.requires.i_in_bounds) (dependents-put a.d x)
