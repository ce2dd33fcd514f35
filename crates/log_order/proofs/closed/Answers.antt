-- `log_order::closed` meets its contract: before the first turn the sets have the given objects, and after the last the flags tell
-- those found. Assumes nothing.
use native.Mathlib.Omega.{arith}
use Prim.Native.Nat.{◌/◌}
use lib.ListN.{length}
use Rattle.log_rules.specs.Stored.{slot_bytes}
use Rattle.log_rules.proofs.Laws.Geometry.{slotted-length}
use Rattle.log_rules.specs.Code.Slots.{slots_in}
use Rattle.log_order.specs.Laws.Close.{closed-end}
use Rattle.log_order.proofs.closed.Goals as goal

pub close-requires : goal.close-requires
close-requires c =
    let k = slotted-length c.args.s.now c.requires.slotted in
    record {
      slotted = c.requires.slotted;
      i_in_bounds = (omega arith, c.requires.s_in_bounds);
      rising = c.requires.rising;
    }

pub returns : goal.returns
returns c =
    let a = c.args in
    let k = slotted-length a.s.now c.requires.slotted in
    λ pick ops held picks.
    closed-end pick ops (slots_in a.s.now) (length a.s.now / slot_bytes) (omega arith) a.found.now a.given _ _ _ c.close.result held picks c.close.ensures
