-- `log_slots::slot::program` meets its contract. Assumes nothing.
use Prim.Native.Nat.{ℕ, ◌+◌}
use mathlib.Core.Path.{ap, ◌∙◌}
use mathlib.Core.List.{List}
use lib.ListN.{get_or}
use Rattle.log_rules.specs.Stored.{record_start}
use Rattle.log_rules.specs.Code.Slots.{slots_in, slot_at}
use Rattle.log_slots.specs.Laws.Slot.{program-held, record-valid}
use Rattle.log_slots.proofs.slot.program.Goals as goal

pub returns : goal.returns
returns c =
    let a = c.args in
    c.byte_at.ensures.0 ∙ ap (λ (s : List ℕ). get_or s (record_start + 6) 0) c.slot.ensures.0
    ∙ program-held (slot_at (slots_in a.s.now) a.i) (record-valid a.s.now c.requires.slotted a.i c.requires.i_in_bounds)
