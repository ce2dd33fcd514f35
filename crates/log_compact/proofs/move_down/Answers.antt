-- `log_compact::move_down` meets its contract. The loop's invariant: the bytes behind the gap are moved down, up to the place that is
-- written next, and the others are as they were. Assumes nothing.
use Prim.Native.Nat.{◌+◌, ◌-◌}
use mathlib.Core.Path.{◌≡◌, refl}
use native.Mathlib.Omega.{arith}
use lib.ListN.{length, drop, length-set}
use lib.Seq.{paste-zero}
use Rattle.log_compact.specs.Laws.Move.{gap-on, moved_down}
use Rattle.log_compact.proofs.move_down.Goals as goal

pub loop-i-init : goal.loop-i-init
loop-i-init c =
    let a = c.args in
    let z : a.at - a.at ≡ 0 = omega arith in
    (rw z (paste-zero a.s.now a.at (drop (a.at + a.len) a.s.now)), refl)

pub loop-i-preserved : goal.loop-i-preserved
loop-i-preserved c =
    let a = c.args in
    (gap-on a.s.now a.at a.len c.loop-i.s c.loop-i.i c.loop-i.invariant.0 (omega arith) (omega arith), simp length-set c.loop-i.invariant.1)

pub returns : goal.returns
returns c =
    let a = c.args in
    let e : c.loop-i.i ≡ length a.s.now - a.len = omega arith in
    moved_down a.s.now a.at a.len c.loop-i.s (length a.s.now - a.len) c.clear.new.s
    (rw e at c.loop-i.invariant.0) c.loop-i.invariant.1 (omega arith) (omega arith) c.clear.ensures
