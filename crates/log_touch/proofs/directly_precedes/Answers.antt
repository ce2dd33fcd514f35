-- `log_touch::directly_precedes` meets its contract: the tests are those of `precedes-told`.
-- Assumes nothing.
use mathlib.Core.Path.{sym, ◌∙◌}
use mathlib.Core.Bool.{not-not}
use borrow.Author.Tests.{lt-ltb, le-ltb}
use Rattle.record.specs.Operation.{operands}
use Rattle.log_touch.specs.Laws.Order.{precedes-told}
use Rattle.log_touch.proofs.directly_precedes.Goals as goal

pub returns-then-a-offset : goal.returns-then-a-offset
returns-then-a-offset c =
    λ p q e g.
    let a = c.args in
    sym (precedes-told a.rec.now p q a.a a.set.now a.overwrite a.offset a.len e g ∙ rw (sym (c.shares_any.ensures p (operands q) e g.objects) ∙ c.if-shares_any.true, c.if-a.true, c.if-overwrite.true, lt-ltb _ _ c.if-a-offset.true, not-not))

pub returns-then-overwrite : goal.returns-then-overwrite
returns-then-overwrite c =
    λ p q e g.
    let a = c.args in
    sym (precedes-told a.rec.now p q a.a a.set.now a.overwrite a.offset a.len e g ∙ rw (sym (c.shares_any.ensures p (operands q) e g.objects) ∙ c.if-shares_any.true, c.if-a.true, c.if-overwrite.true, le-ltb _ _ c.if-a-offset.false))

pub returns-else-overwrite : goal.returns-else-overwrite
returns-else-overwrite c =
    λ p q e g.
    let a = c.args in
    sym (precedes-told a.rec.now p q a.a a.set.now a.overwrite a.offset a.len e g ∙ rw (sym (c.shares_any.ensures p (operands q) e g.objects) ∙ c.if-shares_any.true, c.if-a.true, c.if-overwrite.false))

pub returns-else-a : goal.returns-else-a
returns-else-a c =
    λ p q e g.
    let a = c.args in
    sym (precedes-told a.rec.now p q a.a a.set.now a.overwrite a.offset a.len e g ∙ rw (sym (c.shares_any.ensures p (operands q) e g.objects) ∙ c.if-shares_any.true, c.if-a.false))

pub returns : goal.returns
returns c =
    λ p q e g.
    let a = c.args in
    sym (precedes-told a.rec.now p q a.a a.set.now a.overwrite a.offset a.len e g ∙ rw (sym (c.shares_any.ensures p (operands q) e g.objects) ∙ c.if-shares_any.false))
