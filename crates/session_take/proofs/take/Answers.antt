-- `session_take::take` meets its contract. Assumes nothing.
use mathlib.Core.Path.{sym, ◌∙◌}
use Rattle.log_rules.proofs.Laws.Geometry.{logged-most}
use Rattle.returned.specs.Laws.Refusal.{refused-number, refused-some, not-refused}
use Rattle.session.specs.Call.{take}
use Rattle.session_admission.specs.Laws.Admitted.{not-admitted, admitted}
use Rattle.session_take.specs.Laws.Take.{take-bad, take_none, take_short, take-writes}
use Rattle.session_take.proofs.take.Goals as goal

pub returns-in-Err : goal.returns-in-Err
returns-in-Err c =
    let a = c.args in
    rw (sym (refused-number c.in-Err.is)) (sym (not-admitted _ (take a.program a.buffer.now) _ _ (sym c.admit.ensures) (refused-some c.in-Err.is)))

pub returns-in-Err-number_refusal : goal.returns-in-Err-number_refusal
returns-in-Err-number_refusal c =
    let a = c.args in
    let h = admitted a.n a.b a.m a.server.now a.view.now a.log.now (sym c.admit.ensures ∙ not-refused _ c.in_default.not-Err) in
    rw (sym (refused-number c.in-Err-number_refusal.is)) (sym (take-bad _ _ _ a.program _ _ _ a.buffer.now h _ c.number_refusal.ensures (refused-some c.in-Err-number_refusal.is)))

pub loss_in-requires : goal.loss_in-requires
loss_in-requires c =
    let a = c.args in
    let h = admitted a.n a.b a.m a.server.now a.view.now a.log.now (sym c.admit.ensures ∙ not-refused _ c.in_default.not-Err) in
    logged-most a.n a.b a.m a.log.now h.log

pub returns-then-buffer-lt-LONGEST : goal.returns-then-buffer-lt-LONGEST
returns-then-buffer-lt-LONGEST c =
    let a = c.args in
    let h = admitted a.n a.b a.m a.server.now a.view.now a.log.now (sym c.admit.ensures ∙ not-refused _ c.in_default.not-Err) in
    let fine = sym (not-refused _ c.in_default-number_refusal.not-Err) ∙ c.number_refusal.ensures in
    take_short _ _ _ a.program _ _ _ a.buffer.now h fine c.in-Some.i c.in-Some.ensures c.if-buffer-lt-LONGEST.true

pub take-requires : goal.take-requires
take-requires c =
    let a = c.args in
    let h = admitted a.n a.b a.m a.server.now a.view.now a.log.now (sym c.admit.ensures ∙ not-refused _ c.in_default.not-Err) in
    record {
      logged = logged-most a.n a.b a.m a.log.now h.log;
      i_bound = c.in-Some.ensures.0;
      record_bytes_in_bounds = c.if-buffer-lt-LONGEST.false;
    }

pub returns-in-None : goal.returns-in-None
returns-in-None c =
    let a = c.args in
    let h = admitted a.n a.b a.m a.server.now a.view.now a.log.now (sym c.admit.ensures ∙ not-refused _ c.in_default.not-Err) in
    let fine = sym (not-refused _ c.in_default-number_refusal.not-Err) ∙ c.number_refusal.ensures in
    take_none _ _ _ a.program _ _ _ a.buffer.now h fine c.in-None.ensures

pub returns-else-buffer-lt-LONGEST : goal.returns-else-buffer-lt-LONGEST
returns-else-buffer-lt-LONGEST c =
    let a = c.args in
    let h = admitted a.n a.b a.m a.server.now a.view.now a.log.now (sym c.admit.ensures ∙ not-refused _ c.in_default.not-Err) in
    let fine = sym (not-refused _ c.in_default-number_refusal.not-Err) ∙ c.number_refusal.ensures in
    let k = c.take in
    (take-writes _ _ _ a.program _ _ _ a.buffer.now h fine c.in-Some.i c.in-Some.ensures c.if-buffer-lt-LONGEST.false
    k.new.own k.new.log k.result k.ensures.written k.ensures.log_after)
