-- `session_remove::remove` meets its contract. Assumes nothing.
use Rattle.returned.specs.Refusal.{number_of}
use Rattle.returned.specs.Laws.Refusal.{accepted-number, not-refused}
use native.Mathlib.Omega.{arith}
use mathlib.Core.Path.{refl, sym, ◌∙◌}
use Rattle.record.specs.Operation.{Operation}
use Rattle.log_rules.specs.Stored.{read_log}
use Rattle.session.specs.Model.{told_of}
use Rattle.session.specs.Call.{geometry, buffers, issuer}
use Rattle.session_admission.specs.Code.Admitted.{model_in}
use Rattle.session_admission.specs.Laws.Admitted.{admitted}
use Rattle.session_change.specs.Laws.Change.{lent-refuses, change-refuses, change-accepted}
use Rattle.session_change.specs.Laws.Issued.{issuing-room, issuing-able, issued-outcome}
use Rattle.session_remove.specs.Code.Remove.{remove_change}
use Rattle.session_remove.specs.Laws.Call.{remove-change, remove-issues, remove-issuing, remove-record}
use Rattle.session_remove.proofs.remove.Goals as goal

pub returns-in-Err : goal.returns-in-Err
returns-in-Err c =
    let a = c.args in
    lent-refuses (geometry a.n a.b a.m) (issuer a.program) (remove_change a.directory a.parent a.name.now) (buffers a.server.now a.view.now a.log.now)
    c.admit.result c.admit.ensures c.in-Err.refusal c.in-Err.is

pub removed_object-own-requires : goal.removed_object-own-requires
removed_object-own-requires c =
    let a = c.args in
    (admitted a.n a.b a.m a.server.now a.view.now a.log.now (sym c.admit.ensures ∙ not-refused _ c.in_default.not-Err)).view.lent

pub accept_change-requires : goal.accept_change-requires
accept_change-requires c =
    let a = c.args in
    record {
      logged = (admitted a.n a.b a.m a.server.now a.view.now a.log.now (sym c.admit.ensures ∙ not-refused _ c.in_default.not-Err)).log;
      count_bound = omega arith;
    }

pub returns-in-Err-accept_change : goal.returns-in-Err-accept_change
returns-in-Err-accept_change c =
    let a = c.args in
    let h = admitted a.n a.b a.m a.server.now a.view.now a.log.now (sym c.admit.ensures ∙ not-refused _ c.in_default.not-Err) in
    let ch = remove-change a.n a.b a.m (issuer a.program) a.server.now a.view.now a.log.now h a.directory a.parent a.name.now
    c.removed_object-own.result c.removed_object-own.ensures in
    change-refuses ch c.accept_change.result c.accept_change.ensures.number c.in-Err-accept_change.refusal c.in-Err-accept_change.is

pub issue_entry-next-requires : goal.issue_entry-next-requires
issue_entry-next-requires c =
    let a = c.args in
    let h = admitted a.n a.b a.m a.server.now a.view.now a.log.now (sym c.admit.ensures ∙ not-refused _ c.in_default.not-Err) in
    let ch = remove-change a.n a.b a.m (issuer a.program) a.server.now a.view.now a.log.now h a.directory a.parent a.name.now
    c.removed_object-own.result c.removed_object-own.ensures in
    let is = c.removed_object-own.ensures.found _ (c.accept_change.ensures.value _ c.in-Ok.is) in
    let i = remove-issuing a.n a.b a.m (issuer a.program) a.server.now a.view.now a.log.now h a.directory a.parent a.name.now
    c.in-Ok.object is (change-accepted ch (number_of c.accept_change.result) c.accept_change.ensures.number (accepted-number c.in-Ok.is)) in
    let r = remove-record (read_log a.m a.log.now).head.next a.program c.in-Ok.object a.parent a.name.now in
    record {
      logged = h.log;
      formed = h.view;
      room = issuing-room h i;
      kind_value = refl;
      issuable = issuing-able h i _ r;
    }

pub returns : goal.returns
returns c =
    let a = c.args in
    let h = admitted a.n a.b a.m a.server.now a.view.now a.log.now (sym c.admit.ensures ∙ not-refused _ c.in_default.not-Err) in
    let ch = remove-change a.n a.b a.m (issuer a.program) a.server.now a.view.now a.log.now h a.directory a.parent a.name.now
    c.removed_object-own.result c.removed_object-own.ensures in
    let is = c.removed_object-own.ensures.found _ (c.accept_change.ensures.value _ c.in-Ok.is) in
    let r = remove-record (read_log a.m a.log.now).head.next a.program c.in-Ok.object a.parent a.name.now in
    issued-outcome ch (number_of c.accept_change.result) c.accept_change.ensures.number (accepted-number c.in-Ok.is)
    (Operation.remove c.in-Ok.object a.parent a.name.now)
    (remove-issues a.directory (told_of (model_in a.n a.b a.m a.server.now a.view.now a.log.now)) (issuer a.program) a.parent a.name.now c.in-Ok.object is) _ r
    c.issue_entry-next.result
    c.issue_entry-next.new.log c.issue_entry-next.new.view c.issue_entry-next.ensures
