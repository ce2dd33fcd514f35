-- `log_operands::order_from` meets its contract: each kind has its operands among the fields that were read.
-- Assumes nothing.
use native.Mathlib.Omega.{arith}
use mathlib.Core.Path.{refl, sym, ◌∙◌}
use Rattle.std.proofs.Common.{inl, inr}
use Rattle.record.specs.Operation.{operands}
use Rattle.buffer.specs.Code.Span.{span}
use Rattle.record.specs.Fields.{objects_of}
use Rattle.log_operands.specs.Laws.Order.{small-fields, unlisted, plain-told}
use Rattle.log_operands.proofs.order_from.Goals as goal

pub returns-then-stands : goal.returns-then-stands
unfolding operands objects_of
returns-then-stands c =
    let a = c.args in
    let d = sym c.stands.ensures ∙ c.if-stands.true in
    let t = plain-told a.rec.now a.objects a.range c.requires a.head 4 (span 0 0) c.first-then-stands.result (omega arith) (unlisted a.rec.now) c.first-then-stands.ensures (λ n. rw (c.in-Rename.is, d) (record { objects = refl; stretch = refl })) in
    record { told = t.0; sized = t.1 }

pub returns-in-CreateFile : goal.returns-in-CreateFile
unfolding operands objects_of
returns-in-CreateFile c =
    let a = c.args in
    let t = plain-told a.rec.now a.objects a.range c.requires a.head 2 (span 0 0) c.first.result (omega arith) (unlisted a.rec.now) c.first.ensures (λ n. elim c.in-CreateFile.is [
      | inl e ↦ rw e (record { objects = refl; stretch = refl })
      | inr k ↦ elim k [ inl e ↦ rw e (record { objects = refl; stretch = refl }) | inr e ↦ rw e (record { objects = refl; stretch = refl }) ]
    ]) in
    record { told = t.0; sized = t.1 }

pub returns-else-stands : goal.returns-else-stands
unfolding operands objects_of
returns-else-stands c =
    let a = c.args in
    let d = sym c.stands.ensures ∙ c.if-stands.false in
    let t = plain-told a.rec.now a.objects a.range c.requires a.head 3 (span 0 0) c.first-in-Rename.result (omega arith) (unlisted a.rec.now) c.first-in-Rename.ensures (λ n. rw (c.in-Rename.is, d) (record { objects = refl; stretch = refl })) in
    record { told = t.0; sized = t.1 }

pub returns-in-Overwrite : goal.returns-in-Overwrite
unfolding operands objects_of
returns-in-Overwrite c =
    record {
      told = λ n. rw (c.first-in-Overwrite.ensures, c.in-Overwrite.is) (record { objects = refl; stretch = (refl, refl, sym c.requires.whole) });
      sized = rw c.first-in-Overwrite.ensures (record { few = omega arith; small = small-fields c.args.objects c.requires.object c.requires.parent c.requires.second c.requires.displaced; listed = unlisted c.args.rec.now; near = omega arith });
    }

pub returns-in-Append : goal.returns-in-Append
unfolding operands objects_of
returns-in-Append c =
    let a = c.args in
    let t = plain-told a.rec.now a.objects a.range c.requires a.head 1 (span 0 0) c.first-in-Append.result (omega arith) (unlisted a.rec.now) c.first-in-Append.ensures (λ n. elim c.in-Append.is [
      | inl e ↦ rw e (record { objects = refl; stretch = refl })
      | inr e ↦ rw e (record { objects = refl; stretch = refl })
    ]) in
    record { told = t.0; sized = t.1 }

pub returns-in-Forder : goal.returns-in-Forder
unfolding operands objects_of
returns-in-Forder c =
    let a = c.args in
    let t = plain-told a.rec.now a.objects a.range c.requires a.head 0 a.range.list c.first-in-Forder.result (omega arith) c.requires.list c.first-in-Forder.ensures (λ n. rw c.in-Forder.is (record { objects = refl; stretch = refl })) in
    record { told = t.0; sized = t.1 }
