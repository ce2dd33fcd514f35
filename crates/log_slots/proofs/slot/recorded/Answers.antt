-- Assumes nothing.
-- `log_slots::slot::recorded` meets its contract: the record and zeros stand behind the front of a slot.
use mathlib.Core.Path.{ap, ◌∙◌}
use native.Mathlib.Omega.{arith}
use lib.ListN.{length-take, length-drop}
use Rattle.log_rules.specs.Stored.{record_part}
use Rattle.log_rules.specs.Code.Slots.{slots_in, slot_at}
use Rattle.log_rules.proofs.Laws.Stored.{record-held}
use Rattle.log_slots.specs.Laws.Slot.{record-valid}
use Rattle.log_slots.proofs.slot.recorded.Goals as goal

pub slice_bounds-result-count : goal.slice_bounds-result-count
slice_bounds-result-count c = omega (arith, c.slot-e.ensures.1)

pub slice_bounds-result-start : goal.slice_bounds-result-start
slice_bounds-result-start c = omega (arith, c.slot-e.ensures.1)

pub returns : goal.returns
returns c =
    let a = c.args in
    (ap record_part c.slot-e.ensures.0 ∙ record-held (slot_at (slots_in a.s.now) a.i) (record-valid a.s.now c.requires.slotted a.i c.requires.i_in_bounds), simp (length-take, length-drop) (omega (arith, c.slot-e.ensures.1)))
