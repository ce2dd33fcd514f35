-- `session_rename::rename` meets its contract. Assumes nothing.
use Rattle.returned.specs.Refusal.{number_of}
use Rattle.returned.specs.Laws.Refusal.{accepted-number, not-refused}
use native.Mathlib.Omega.{arith}
use mathlib.Core.Path.{sym, ◌∙◌}
use Rattle.record.specs.Operation.{Operation}
use Rattle.log_rules.specs.Stored.{read_log}
use Rattle.session.specs.Class
use Rattle.session.specs.Call.{geometry, buffers, issuer}
use Rattle.session_admission.specs.Laws.Admitted.{admitted}
use Rattle.session_change.specs.Laws.Change.{lent-refuses, change-refuses, change-accepted}
use Rattle.session_change.specs.Laws.Issued.{issuing-room, issuing-able, issued-outcome}
use Rattle.session_rename.specs.Laws.Call.{rename-change, rename-issues, rename-issuing, rename-record}
use Rattle.session_rename.proofs.rename.Goals as goal

pub returns-in-Err : goal.returns-in-Err
returns-in-Err c =
    let a = c.args in
    lent-refuses (geometry a.n a.b a.m) (issuer a.program) (Class.rename a.parent a.name.now a.second_parent a.second_name.now)
    (buffers a.server.now a.view.now a.log.now) c.admit.result c.admit.ensures c.in-Err.refusal c.in-Err.is

pub renamed-own-requires : goal.renamed-own-requires
renamed-own-requires c =
    let a = c.args in
    (admitted a.n a.b a.m a.server.now a.view.now a.log.now (sym c.admit.ensures ∙ not-refused _ c.in_default.not-Err)).view.lent

pub accept_change-requires : goal.accept_change-requires
accept_change-requires c =
    let a = c.args in
    record {
      logged = (admitted a.n a.b a.m a.server.now a.view.now a.log.now (sym c.admit.ensures ∙ not-refused _ c.in_default.not-Err)).log;
      count_bound = omega arith;
    }

pub returns-in-Err-accept_change : goal.returns-in-Err-accept_change
returns-in-Err-accept_change c =
    let a = c.args in
    let h = admitted a.n a.b a.m a.server.now a.view.now a.log.now (sym c.admit.ensures ∙ not-refused _ c.in_default.not-Err) in
    let ch = rename-change a.n a.b a.m (issuer a.program) a.server.now a.view.now a.log.now h a.parent a.name.now a.second_parent
    a.second_name.now c.renamed-own.result c.renamed-own.ensures in
    change-refuses ch c.accept_change.result c.accept_change.ensures.number c.in-Err-accept_change.refusal c.in-Err-accept_change.is

pub issue_rename-next-requires : goal.issue_rename-next-requires
issue_rename-next-requires c =
    let a = c.args in
    let h = admitted a.n a.b a.m a.server.now a.view.now a.log.now (sym c.admit.ensures ∙ not-refused _ c.in_default.not-Err) in
    let ch = rename-change a.n a.b a.m (issuer a.program) a.server.now a.view.now a.log.now h a.parent a.name.now a.second_parent
    a.second_name.now c.renamed-own.result c.renamed-own.ensures in
    let own = c.accept_change.ensures.value _ c.in-Ok.is in
    let is = c.renamed-own.ensures.found _ own in
    let gone = c.renamed-own.ensures.displaces _ own in
    let i = rename-issuing a.n a.b a.m (issuer a.program) a.server.now a.view.now a.log.now h a.parent a.name.now a.second_parent
    a.second_name.now c.in-Ok.found.object c.in-Ok.found.displaced is gone
    (change-accepted ch (number_of c.accept_change.result) c.accept_change.ensures.number (accepted-number c.in-Ok.is)) in
    let r = rename-record (read_log a.m a.log.now).head.next a.program c.in-Ok.found.object a.parent a.second_parent
    c.in-Ok.found.displaced a.name.now a.second_name.now in
    record { logged = h.log; formed = h.view; room = issuing-room h i; issuable = issuing-able h i _ r }

pub returns : goal.returns
returns c =
    let a = c.args in
    let h = admitted a.n a.b a.m a.server.now a.view.now a.log.now (sym c.admit.ensures ∙ not-refused _ c.in_default.not-Err) in
    let ch = rename-change a.n a.b a.m (issuer a.program) a.server.now a.view.now a.log.now h a.parent a.name.now a.second_parent
    a.second_name.now c.renamed-own.result c.renamed-own.ensures in
    let own = c.accept_change.ensures.value _ c.in-Ok.is in
    let is = c.renamed-own.ensures.found _ own in
    let gone = c.renamed-own.ensures.displaces _ own in
    let r = rename-record (read_log a.m a.log.now).head.next a.program c.in-Ok.found.object a.parent a.second_parent
    c.in-Ok.found.displaced a.name.now a.second_name.now in
    issued-outcome ch (number_of c.accept_change.result) c.accept_change.ensures.number (accepted-number c.in-Ok.is)
    (Operation.rename c.in-Ok.found.object a.parent a.second_parent c.in-Ok.found.displaced a.name.now a.second_name.now)
    (rename-issues a.n a.b a.m (issuer a.program) a.server.now a.view.now a.log.now h a.parent a.name.now a.second_parent a.second_name.now c.in-Ok.found.object c.in-Ok.found.displaced is gone) _ r
    c.issue_rename-next.result
    c.issue_rename-next.new.log c.issue_rename-next.new.view c.issue_rename-next.ensures
