-- Assumes nothing.
-- `log_slots::slot::slot` meets its contract: each used slot lies wholly in the bytes.
use Prim.Native.Nat.{ℕ, ◌*◌}
use mathlib.Core.Path.{ap, ◌∙◌}
use native.Mathlib.Nat.{add-sub_cancel_left}
use native.Mathlib.Omega.{arith}
use lib.ListN.{length, take, drop}
use Rattle.log_rules.specs.Stored.{slot_bytes}
use Rattle.log_rules.proofs.Laws.Geometry.{slot-stored}
use Rattle.log_slots.specs.Laws.Slot.{slot-room, slot-long}
use Rattle.log_slots.proofs.slot.slot.Goals as goal

pub slice_bounds-result-end : goal.slice_bounds-result-end
slice_bounds-result-end c = omega (arith, slot-room c.args.s.now c.requires.slotted c.args.i c.requires.i_in_bounds)

pub returns : goal.returns
returns c =
    let a = c.args in
    let e = ap (λ (k : ℕ). take k (drop (a.i * slot_bytes) a.s.now)) (add-sub_cancel_left (a.i * slot_bytes) slot_bytes) ∙ slot-stored a.s.now c.requires.slotted a.i c.requires.i_in_bounds in
    (e, ap length e ∙ slot-long a.s.now c.requires.slotted a.i c.requires.i_in_bounds)
