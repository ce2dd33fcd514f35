-- `session_make::make` meets its contract. Assumes nothing.
use Rattle.returned.specs.Refusal.{number_of}
use Rattle.returned.specs.Laws.Refusal.{not-refused}
use native.Mathlib.Omega.{arith}
use mathlib.Core.Path.{sym, ◌∙◌}
use Rattle.log_rules.specs.Stored.{read_log}
use Rattle.session.specs.Model.{told_of}
use Rattle.session.specs.Call.{geometry, buffers, issuer}
use Rattle.session_admission.specs.Code.Admitted.{model_in}
use Rattle.session_admission.specs.Laws.Admitted.{admitted}
use Rattle.session_change.specs.Laws.Change.{lent-refuses, change-refuses, change-accepted}
use Rattle.session_change.specs.Laws.Issued.{issuing-room, issuing-able, issued-outcome}
use Rattle.session_make.specs.Code.Make.{make_change}
use Rattle.session_make.specs.Laws.Call.{make_operation, make-issues, make-change, make-issuing, make-record}
use Rattle.session_make.proofs.make.Goals as goal

pub returns-in-Err : goal.returns-in-Err
returns-in-Err c =
    let a = c.args in
    lent-refuses (geometry a.n a.b a.m) (issuer a.program) (make_change a.directory a.parent a.name.now a.object)
    (buffers a.server.now a.view.now a.log.now) c.admit.result c.admit.ensures c.in-Err.refusal c.in-Err.is

pub make_refusal-own-requires : goal.make_refusal-own-requires
make_refusal-own-requires c =
    let a = c.args in
    (admitted a.n a.b a.m a.server.now a.view.now a.log.now (sym c.admit.ensures ∙ not-refused _ c.in_default.not-Err)).view.lent

pub accept_change-requires : goal.accept_change-requires
accept_change-requires c =
    let a = c.args in
    record {
      logged = (admitted a.n a.b a.m a.server.now a.view.now a.log.now (sym c.admit.ensures ∙ not-refused _ c.in_default.not-Err)).log;
      count_bound = omega arith;
    }

pub returns-in-Err-accept_change : goal.returns-in-Err-accept_change
returns-in-Err-accept_change c =
    let a = c.args in
    let h = admitted a.n a.b a.m a.server.now a.view.now a.log.now (sym c.admit.ensures ∙ not-refused _ c.in_default.not-Err) in
    let ch = make-change a.n a.b a.m (issuer a.program) a.server.now a.view.now a.log.now h a.directory a.parent a.name.now a.object
    (number_of c.make_refusal-own.result) c.make_refusal-own.ensures in
    change-refuses ch c.accept_change.result c.accept_change.ensures.number c.in-Err-accept_change.refusal c.in-Err-accept_change.is

pub issue_entry-next-requires : goal.issue_entry-next-requires
issue_entry-next-requires c =
    let a = c.args in
    let h = admitted a.n a.b a.m a.server.now a.view.now a.log.now (sym c.admit.ensures ∙ not-refused _ c.in_default.not-Err) in
    let ch = make-change a.n a.b a.m (issuer a.program) a.server.now a.view.now a.log.now h a.directory a.parent a.name.now a.object
    (number_of c.make_refusal-own.result) c.make_refusal-own.ensures in
    let i = make-issuing a.n a.b a.m (issuer a.program) a.server.now a.view.now a.log.now h a.directory a.parent a.name.now a.object
    (change-accepted ch (number_of c.accept_change.result) c.accept_change.ensures.number (not-refused _ c.in_default-accept_change.not-Err)) in
    let r = make-record a.directory c.kind_of-kind.result c.kind_of-kind.ensures (read_log a.m a.log.now).head.next a.program
    a.object a.parent a.name.now in
    record {
      logged = h.log;
      formed = h.view;
      room = issuing-room h i;
      kind_value = r.0;
      issuable = issuing-able h i _ r.1;
    }

pub returns : goal.returns
returns c =
    let a = c.args in
    let h = admitted a.n a.b a.m a.server.now a.view.now a.log.now (sym c.admit.ensures ∙ not-refused _ c.in_default.not-Err) in
    let ch = make-change a.n a.b a.m (issuer a.program) a.server.now a.view.now a.log.now h a.directory a.parent a.name.now a.object
    (number_of c.make_refusal-own.result) c.make_refusal-own.ensures in
    let r = make-record a.directory c.kind_of-kind.result c.kind_of-kind.ensures (read_log a.m a.log.now).head.next
    a.program a.object a.parent a.name.now in
    issued-outcome ch (number_of c.accept_change.result) c.accept_change.ensures.number (not-refused _ c.in_default-accept_change.not-Err)
    (make_operation a.directory a.object a.parent a.name.now)
    (make-issues a.directory (told_of (model_in a.n a.b a.m a.server.now a.view.now a.log.now)) (issuer a.program) a.parent a.name.now a.object) _ r.1 c.issue_entry-next.result
    c.issue_entry-next.new.log c.issue_entry-next.new.view c.issue_entry-next.ensures
