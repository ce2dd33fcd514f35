-- `log_slots::slot::waits` meets its contract. Assumes nothing.
use Prim.Native.Nat.{ℕ}
use mathlib.Core.Path.{ap, ◌∙◌}
use mathlib.Core.List.{List}
use lib.ListN.{get_or}
use lib.Dec.{eqb}
use Rattle.log_rules.specs.Code.Slots.{slots_in, slot_at}
use Rattle.log_slots.specs.Laws.Slot.{state-held}
use Rattle.log_slots.proofs.slot.waits.Goals as goal

pub returns : goal.returns
returns c =
    let a = c.args in
    ap (λ (k : ℕ). eqb k 1) (c.byte_at.ensures.0 ∙ ap (λ (s : List ℕ). get_or s 0 0) c.slot-e.ensures.0) ∙ state-held (slot_at (slots_in a.s.now) a.i)
