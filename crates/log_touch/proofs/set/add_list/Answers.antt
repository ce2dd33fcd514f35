-- `log_touch::set::add_list` meets its contract. The loop goes from the last object to the first; the invariant: those passed are in
-- the set. Assumes nothing.
use native.Mathlib.Omega.{arith}
use Prim.Native.Nat.{◌/◌, ◌-◌}
use mathlib.Core.Path.{◌≡◌}
use mathlib.Core.List.{◌++◌}
use lib.ListN.{length, drop, drop_of_length-le}
use Rattle.record.specs.Fields.{objects_of}
use Rattle.record.proofs.Laws.List.{count-objects}
use Rattle.log_touch.specs.Laws.Loop.{holds-from}
use Rattle.log_touch.proofs.set.add_list.Goals as goal

pub loop-i-init : goal.loop-i-init
loop-i-init c =
    let t = c.args in
    let l = objects_of t.list.now in
    let e = count-objects t.list.now in
    λ ops held. rw (drop_of_length-le l {i = length t.list.now / 2} (omega arith)) held

pub object_of-requires : goal.object_of-requires
object_of-requires c = omega (arith, count-objects c.args.list.now)

pub add_object-requires : goal.add_object-requires
add_object-requires c = rw c.object_of.ensures.0 (c.requires _)

pub loop-i-preserved : goal.loop-i-preserved
loop-i-preserved c =
    let l = objects_of c.args.list.now in
    let e = count-objects c.args.list.now in
    λ ops held. holds-from l (c.loop-i.i - 1) c.loop-i.i _ ops c.add_object.new.set (omega arith) c.object_of.ensures.0 (omega arith)
    (c.add_object.ensures (drop c.loop-i.i l ++ ops) (c.loop-i.invariant ops held))

pub returns : goal.returns
returns c =
    let z : c.loop-i.i ≡ 0 = omega arith in
    λ ops held. rw z at (c.loop-i.invariant ops held)
