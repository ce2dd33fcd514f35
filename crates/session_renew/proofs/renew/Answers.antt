-- `session_renew::renew` meets its contract. Assumes nothing.
use mathlib.Core.Path.{sym, ◌∙◌}
use Rattle.log_rules.proofs.Laws.Geometry.{logged-most}
use Rattle.returned.specs.Laws.Refusal.{refused-number, refused-some, not-refused}
use Rattle.session.specs.Call.{renew}
use Rattle.session_admission.specs.Laws.Admitted.{not-admitted, admitted}
use Rattle.session_losses.specs.Laws.Number.{number_small}
use Rattle.session_renew.specs.Laws.Renew.{renew-bad, renew-left, renew-clears}
use Rattle.session_renew.proofs.renew.Goals as goal

pub returns-in-Err : goal.returns-in-Err
returns-in-Err c =
    let a = c.args in
    rw (sym (refused-number c.in-Err.is)) (sym (not-admitted _ (renew a.program) _ _ (sym c.admit.ensures) (refused-some c.in-Err.is)))

pub returns-in-Err-number_refusal : goal.returns-in-Err-number_refusal
returns-in-Err-number_refusal c =
    let a = c.args in
    let h = admitted a.n a.b a.m a.server.now a.view.now a.log.now (sym c.admit.ensures ∙ not-refused _ c.in_default.not-Err) in
    rw (sym (refused-number c.in-Err-number_refusal.is)) (sym (renew-bad _ _ _ a.program _ _ _ h _ c.number_refusal.ensures (refused-some c.in-Err-number_refusal.is)))

pub loss_in-requires : goal.loss_in-requires
loss_in-requires c =
    let a = c.args in
    let h = admitted a.n a.b a.m a.server.now a.view.now a.log.now (sym c.admit.ensures ∙ not-refused _ c.in_default.not-Err) in
    logged-most a.n a.b a.m a.log.now h.log

pub renew-requires : goal.renew-requires
renew-requires c =
    let a = c.args in
    let h = admitted a.n a.b a.m a.server.now a.view.now a.log.now (sym c.admit.ensures ∙ not-refused _ c.in_default.not-Err) in
    let fine = sym (not-refused _ c.in_default-number_refusal.not-Err) ∙ c.number_refusal.ensures in
    record {
      logged = logged-most a.n a.b a.m a.log.now h.log;
      p_bound = number_small a.program fine;
    }

pub returns-in-Some : goal.returns-in-Some
returns-in-Some c =
    let a = c.args in
    let h = admitted a.n a.b a.m a.server.now a.view.now a.log.now (sym c.admit.ensures ∙ not-refused _ c.in_default.not-Err) in
    let fine = sym (not-refused _ c.in_default-number_refusal.not-Err) ∙ c.number_refusal.ensures in
    (renew-left _ _ _ a.program _ _ _ h fine c.in-Some.field-0 c.in-Some.ensures)

pub returns-in-None : goal.returns-in-None
returns-in-None c =
    let a = c.args in
    let h = admitted a.n a.b a.m a.server.now a.view.now a.log.now (sym c.admit.ensures ∙ not-refused _ c.in_default.not-Err) in
    let fine = sym (not-refused _ c.in_default-number_refusal.not-Err) ∙ c.number_refusal.ensures in
    (renew-clears _ _ _ a.program _ _ _ h fine c.in-None.ensures c.renew.new.log c.renew.ensures)
