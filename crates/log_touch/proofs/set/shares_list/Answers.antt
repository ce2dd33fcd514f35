-- `log_touch::set::shares_list` meets its contract. The invariant: the objects that are left decide the answer.
-- Assumes nothing.
use native.Mathlib.Omega.{arith}
use mathlib.Core.Path.{refl, sym, ◌∙◌}
use Rattle.record.specs.Fields.{objects_of}
use Rattle.record.proofs.Laws.List.{count-objects}
use Rattle.log_touch.specs.Laws.Loop.{shares-here, shares-on, shares-end}
use Rattle.log_touch.proofs.set.shares_list.Goals as goal

pub loop-i-init : goal.loop-i-init
loop-i-init c = λ ops held. refl

pub object_of-requires : goal.object_of-requires
object_of-requires c = omega (arith, count-objects c.args.list.now)

pub has-requires : goal.has-requires
has-requires c = rw c.object_of.ensures.0 (c.requires _)

pub returns-then-has : goal.returns-then-has
returns-then-has c =
    let l = objects_of c.args.list.now in
    let e = count-objects c.args.list.now in
    λ ops held. sym (c.loop-i.invariant ops held ∙ shares-here l ops c.loop-i.i (omega arith) (rw (← c.object_of.ensures.0, ← c.has.ensures ops held) c.if-has.true))

pub loop-i-preserved : goal.loop-i-preserved
loop-i-preserved c =
    let l = objects_of c.args.list.now in
    let e = count-objects c.args.list.now in
    λ ops held. c.loop-i.invariant ops held ∙ shares-on l ops c.loop-i.i (omega arith) (rw (← c.object_of.ensures.0, ← c.has.ensures ops held) c.if-has.false)

pub returns : goal.returns
returns c =
    let e = count-objects c.args.list.now in
    λ ops held. sym (c.loop-i.invariant ops held ∙ shares-end (objects_of c.args.list.now) ops c.loop-i.i (omega arith))
