-- `session_push::push` meets its contract. Assumes nothing.
use mathlib.Core.Path.{sym, ◌∙◌}
use mathlib.Core.Bool.{and-eq-true_iff}
use lib.Dec.{eqb}
use Rattle.log_rules.specs.Slot.{is_waiting, sequence_of}
use Rattle.log_rules.specs.Stored.{read_log}
use Rattle.log_rules.specs.Code.Slots.{slot_at}
use Rattle.returned.specs.Laws.Refusal.{refused-number, refused-some, not-refused}
use Rattle.session.specs.Call.{push}
use Rattle.session_admission.specs.Laws.Admitted.{not-admitted, admitted}
use Rattle.log_rules.proofs.Laws.Geometry.{logged-most}
use Rattle.session_push.specs.Laws.Push.{push-none, push-behind, push-sends, push-fails}
use Rattle.session_push.proofs.push.Goals as goal

pub returns-in-Err : goal.returns-in-Err
returns-in-Err c =
    let a = c.args in
    rw (sym (refused-number c.in-Err.is)) (sym (not-admitted _ (push a.sequence) _ _ (sym c.admit.ensures) (refused-some c.in-Err.is)))

pub waiting_in-requires : goal.waiting_in-requires
waiting_in-requires c =
    let a = c.args in
    let h = admitted a.n a.b a.m a.server.now a.view.now a.log.now (sym c.admit.ensures ∙ not-refused _ c.in_default.not-Err) in
    logged-most a.n a.b a.m a.log.now h.log

pub is_behind-requires : goal.is_behind-requires
is_behind-requires c =
    let a = c.args in
    let h = admitted a.n a.b a.m a.server.now a.view.now a.log.now (sym c.admit.ensures ∙ not-refused _ c.in_default.not-Err) in
    record { logged = logged-most a.n a.b a.m a.log.now h.log; i_bound = c.in-Some.ensures.0 }

pub returns-then-is_behind : goal.returns-then-is_behind
returns-then-is_behind c =
    let a = c.args in
    let h = admitted a.n a.b a.m a.server.now a.view.now a.log.now (sym c.admit.ensures ∙ not-refused _ c.in_default.not-Err) in
    push-behind _ _ _ a.sequence _ _ _ h c.in-Some.i c.in-Some.ensures (sym c.is_behind.ensures ∙ c.if-is_behind.true)

pub push-requires : goal.push-requires
push-requires c =
    let a = c.args in
    let h = admitted a.n a.b a.m a.server.now a.view.now a.log.now (sym c.admit.ensures ∙ not-refused _ c.in_default.not-Err) in
    let x = slot_at (read_log a.m a.log.now).slots c.in-Some.i in
    record {
      formed = h.server;
      logged = h.log;
      i_bound = (c.in-Some.ensures.0, ((and-eq-true_iff (is_waiting x) (eqb (sequence_of x) a.sequence)).0 c.in-Some.ensures.1).0);
    }

pub returns-then-push : goal.returns-then-push
returns-then-push c =
    let a = c.args in
    let h = admitted a.n a.b a.m a.server.now a.view.now a.log.now (sym c.admit.ensures ∙ not-refused _ c.in_default.not-Err) in
    let i = c.in-Some.i in
    let d = c.push in
    push-sends _ _ _ a.sequence _ _ _ h i c.in-Some.ensures (sym c.is_behind.ensures ∙ c.if-is_behind.false) d.new.server d.new.log
    c.if-push.ensures

pub returns-in-None : goal.returns-in-None
returns-in-None c =
    let a = c.args in
    let h = admitted a.n a.b a.m a.server.now a.view.now a.log.now (sym c.admit.ensures ∙ not-refused _ c.in_default.not-Err) in
    push-none _ _ _ a.sequence _ _ _ h c.in-None.ensures

pub returns-else-push : goal.returns-else-push
returns-else-push c =
    let a = c.args in
    let h = admitted a.n a.b a.m a.server.now a.view.now a.log.now (sym c.admit.ensures ∙ not-refused _ c.in_default.not-Err) in
    let i = c.in-Some.i in
    let d = c.push in
    push-fails _ _ _ a.sequence _ _ _ h i c.in-Some.ensures (sym c.is_behind.ensures ∙ c.if-is_behind.false) d.new.server d.new.log
    c.if-push.ensures
