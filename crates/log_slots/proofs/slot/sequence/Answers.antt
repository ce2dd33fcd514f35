-- `log_slots::slot::sequence` meets its contract. Assumes nothing.
use Prim.Native.Nat.{ℕ, ◌+◌}
use mathlib.Core.Path.{ap, ◌∙◌}
use mathlib.Core.List.{List}
use lib.ListN.{take, drop}
use Rattle.buffer.specs.Numeral.{numeral}
use Rattle.log_rules.specs.Stored.{record_start}
use Rattle.log_rules.specs.Code.Slots.{slots_in, slot_at}
use Rattle.log_slots.specs.Laws.Slot.{sequence-held, record-valid}
use Rattle.log_slots.proofs.slot.sequence.Goals as goal

pub returns : goal.returns
returns c =
    let a = c.args in
    c.four_at.ensures.0 ∙ ap (λ (s : List ℕ). numeral (take 4 (drop (record_start + 2) s))) c.slot.ensures.0
    ∙ sequence-held (slot_at (slots_in a.s.now) a.i) (record-valid a.s.now c.requires.slotted a.i c.requires.i_in_bounds)
