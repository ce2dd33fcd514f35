-- `log_slots::slot::set_lost` meets its contract: two puts, one behind the other, inside one slot. Assumes nothing.
use Prim.Native.Nat.{ℕ, ◌*◌}
use native.Mathlib.Omega.{arith}
use lib.ListN.{length-append}
use Rattle.buffer.specs.Patch.{patch}
use native.Mathlib.Nat.{add-zero}
use mathlib.Core.Path.{◌∙◌, ap, sym}
use mathlib.Core.List.{◌++◌}
use Rattle.buffer.specs.Numeral.{bytes}
use Rattle.buffer.specs.Laws.Numeral.{length-bytes}
use Rattle.buffer.specs.Laws.Patch.{put_then}
use Rattle.log_rules.specs.Slot.{lost, with_state, with_dependents}
use Rattle.log_rules.specs.Stored.{slot_bytes}
use Rattle.log_rules.specs.Code.Slots.{slots_in, slot_at}
use Rattle.log_slots.specs.Laws.Slot.{slot-room, slot-put, lost-put, record-valid}
use Rattle.log_slots.proofs.slot.set_lost.Goals as goal

pub put_four-next-requires : goal.put_four-next-requires
put_four-next-requires c = omega (arith, slot-room c.args.s.now c.requires.slotted c.args.i c.requires.i_in_bounds)

pub put_four-requires : goal.put_four-requires
put_four-requires c =
    omega (arith, slot-room c.args.s.now c.requires.slotted c.args.i c.requires.i_in_bounds, c.put_four-next.ensures.ends, length-bytes 4 2)

pub returns : goal.returns
returns c =
    let a = c.args in
    let x = slot_at (slots_in a.s.now) a.i in
    (put_then c.put_four-next.ensures c.put_four.ensures).placed
    ∙ ap (λ (k : ℕ). patch a.s.now k (bytes 4 2 ++ bytes 4 0)) (sym (add-zero (a.i * slot_bytes)))
    ∙ slot-put a.s.now c.requires.slotted a.i c.requires.i_in_bounds 0 (bytes 4 2 ++ bytes 4 0) (with_state lost (with_dependents 0 x)) (rw (length-append) (omega (arith, length-bytes 4 2, length-bytes 4 0)))
    (record-valid a.s.now c.requires.slotted a.i c.requires.i_in_bounds) (lost-put x)
