-- `log_compact::move_slot` meets its contract. The loop's invariant: the first i bytes of the slot are moved, and the others are as they
-- were. Assumes nothing.
use Prim.Native.Nat.{◌*◌}
use mathlib.Core.Path.{refl}
use native.Mathlib.Omega.{arith}
use lib.ListN.{drop, length-set}
use lib.Seq.{paste-zero}
use Rattle.log_rules.specs.Stored.{slot_bytes}
use Rattle.log_compact.specs.Laws.Move.{move-on, slot-moved, slot-stays}
use Rattle.log_compact.proofs.move_slot.Goals as goal

pub returns-then-to-from : goal.returns-then-to-from
returns-then-to-from c =
    let a = c.args in
    slot-stays a.s.now a.from a.to (omega arith) (omega arith)

pub loop-i-init : goal.loop-i-init
loop-i-init c =
    let a = c.args in
    (paste-zero a.s.now (a.to * slot_bytes) (drop (a.from * slot_bytes) a.s.now), refl)

pub loop-i-preserved : goal.loop-i-preserved
loop-i-preserved c =
    let a = c.args in (
      move-on a.s.now (a.to * slot_bytes) (a.from * slot_bytes) c.loop-i.s c.loop-i.i c.loop-i.invariant.0 (omega arith) (omega arith),
      simp length-set c.loop-i.invariant.1,
    )

pub returns : goal.returns
returns c =
    let a = c.args in
    slot-moved a.s.now a.from a.to c.loop-i.s c.loop-i.i c.loop-i.invariant.0 (omega arith) (omega arith)
