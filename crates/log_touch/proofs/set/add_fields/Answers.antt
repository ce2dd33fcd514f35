-- `log_touch::set::add_fields` meets its contract. The loop goes from the last field to the first; the invariant: those passed are in
-- the set. Assumes nothing.
use native.Mathlib.Omega.{arith}
use Prim.Native.Nat.{◌-◌}
use mathlib.Core.Path.{◌≡◌, sym}
use mathlib.Core.List.{◌++◌}
use lib.ListN.{take, drop, drop_of_length-le}
use lib.Seq.{get_or-take, length-take-le}
use Rattle.log_operands.specs.Code.Ordering.{fields_of}
use Rattle.log_touch.specs.Laws.Loop.{holds-from}
use Rattle.log_touch.proofs.set.add_fields.Goals as goal

pub loop-i-init : goal.loop-i-init
loop-i-init c =
    let a = c.args in
    let l = length-take-le a.count (fields_of a.f) c.requires.0 in
    (l, λ ops held. rw (drop_of_length-le (take a.count (fields_of a.f)) {i = a.count} (omega arith)) held)

pub add_object-requires : goal.add_object-requires
add_object-requires c = c.requires.1 (c.loop-i.i - 1)

pub loop-i-preserved : goal.loop-i-preserved
loop-i-preserved c =
    let a = c.args in
    let l = take a.count (fields_of a.f) in (
      c.loop-i.invariant.0,
      λ ops held. holds-from l (c.loop-i.i - 1) c.loop-i.i _ ops c.add_object.new.set (omega arith) (sym (get_or-take a.count (fields_of a.f) (c.loop-i.i - 1) 0 (omega arith))) (omega arith)
          (c.add_object.ensures (drop c.loop-i.i l ++ ops) (c.loop-i.invariant.1 ops held)),
    )

pub returns : goal.returns
returns c =
    let z : c.loop-i.i ≡ 0 = omega arith in
    λ ops held. rw z at (c.loop-i.invariant.1 ops held)
