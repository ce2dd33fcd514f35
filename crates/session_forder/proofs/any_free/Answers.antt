-- `session_forder::any_free` meets its contract. The invariant: the objects from i on decide the answer.
-- Assumes nothing.
use native.Mathlib.Omega.{arith}
use mathlib.Core.Path.{refl, sym, ap, ◌∙◌}
use Rattle.record.specs.Fields.{objects_of}
use Rattle.record.proofs.Laws.List.{count-objects}
use Rattle.volume_tree.specs.Stored.{read_volume}
use Rattle.session.specs.Model.{is_free}
use Rattle.session_forder.specs.Laws.List.{any_here, any-on, any-end}
use Rattle.session_forder.proofs.any_free.Goals as goal

pub loop-i-init : goal.loop-i-init
loop-i-init c = refl

pub object_of-requires : goal.object_of-requires
object_of-requires c = omega (arith, count-objects c.args.list.now)

pub is_free-requires : goal.is_free-requires
is_free-requires c = c.requires

pub returns-then-is_free : goal.returns-then-is_free
returns-then-is_free c =
    let l = objects_of c.args.list.now in
    let v = read_volume c.args.n c.args.b c.args.view.now in
    let n = count-objects c.args.list.now in
    sym (c.loop-i.invariant ∙ any_here (is_free v) l c.loop-i.i (omega arith) (ap (is_free v) (sym c.object_of.ensures.0) ∙ sym c.is_free.ensures ∙ c.if-is_free.true))

pub loop-i-preserved : goal.loop-i-preserved
loop-i-preserved c =
    let l = objects_of c.args.list.now in
    let v = read_volume c.args.n c.args.b c.args.view.now in
    let n = count-objects c.args.list.now in
    c.loop-i.invariant ∙ any-on (is_free v) l c.loop-i.i (omega arith) (ap (is_free v) (sym c.object_of.ensures.0) ∙ sym c.is_free.ensures ∙ c.if-is_free.false)

pub returns : goal.returns
returns c =
    let n = count-objects c.args.list.now in
    sym (c.loop-i.invariant ∙ any-end (is_free (read_volume c.args.n c.args.b c.args.view.now)) (objects_of c.args.list.now) c.loop-i.i (omega arith))
