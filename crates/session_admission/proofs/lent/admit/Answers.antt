-- `session_admission::lent::admit` meets its contract: where the lengths are right, the three forms decide. Assumes nothing.
use mathlib.Core.Path.{sym, ◌∙◌}
use Rattle.session_admission.specs.Laws.Admitted.{form-model, number-fine, number-damaged, number-wrong}
use Rattle.session_admission.proofs.lent.admit.Goals as goal

pub returns-then-all_formed : goal.returns-then-all_formed
returns-then-all_formed c =
    let a = c.args in
    let fit = sym c.lengths_fit.ensures ∙ c.if-lengths_fit.true in
    number-fine _ _ fit (sym (form-model a.n a.b a.m a.server.now a.view.now a.log.now fit) ∙ sym c.all_formed.ensures ∙ c.if-all_formed.true)

pub returns-then-lengths_fit : goal.returns-then-lengths_fit
returns-then-lengths_fit c =
    let a = c.args in
    let fit = sym c.lengths_fit.ensures ∙ c.if-lengths_fit.true in
    number-damaged _ _ fit (sym (form-model a.n a.b a.m a.server.now a.view.now a.log.now fit) ∙ sym c.all_formed.ensures ∙ c.if-all_formed.false)

pub returns : goal.returns
returns c = number-wrong _ _ (sym c.lengths_fit.ensures ∙ c.if-lengths_fit.false)
