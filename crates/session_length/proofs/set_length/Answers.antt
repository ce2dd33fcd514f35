-- `session_length::set_length` meets its contract: refused for what it is lent, refused by its table, or issued. Assumes nothing.
use native.Mathlib.Omega.{arith}
use Rattle.returned.specs.Laws.Refusal.{not-refused}
use mathlib.Core.Path.{refl, sym, ◌∙◌}
use Rattle.record.specs.Operation.{Operation}
use Rattle.record_writer.specs.Code.Writer.{length_record}
use Rattle.log_rules.specs.Stored.{read_log}
use Rattle.session.specs.Class
use Rattle.session.specs.Call.{geometry, buffers, issuer}
use Rattle.session_admission.specs.Laws.Admitted.{admitted}
use Rattle.session_change.specs.Laws.Change.{lent-refuses, change-refuses}
use Rattle.session_change.specs.Laws.Issued.{issuing-room, issuing-able, issued-outcome}
use Rattle.session_length.specs.Laws.Call.{length-change, length-issuing}
use Rattle.session_length.proofs.set_length.Goals as goal

pub returns-in-Err : goal.returns-in-Err
returns-in-Err c =
    let a = c.args in
    lent-refuses (geometry a.n a.b a.m) (issuer a.program) (Class.set_length a.object a.length) (buffers a.server.now a.view.now a.log.now) _ c.admit.ensures _ c.in-Err.is

pub length_refusal-own-requires : goal.length_refusal-own-requires
length_refusal-own-requires c =
    let a = c.args in
    (admitted a.n a.b a.m a.server.now a.view.now a.log.now (sym c.admit.ensures ∙ not-refused _ c.in_default.not-Err)).view.lent

pub accept_change-requires : goal.accept_change-requires
accept_change-requires c =
    let a = c.args in
    let h = admitted a.n a.b a.m a.server.now a.view.now a.log.now (sym c.admit.ensures ∙ not-refused _ c.in_default.not-Err) in
    record { logged = h.log; count_bound = omega arith }

pub returns-in-Err-accept_change : goal.returns-in-Err-accept_change
returns-in-Err-accept_change c =
    let a = c.args in
    let h = admitted a.n a.b a.m a.server.now a.view.now a.log.now (sym c.admit.ensures ∙ not-refused _ c.in_default.not-Err) in
    let w = c.length_refusal-own in
    let ch = length-change h (issuer a.program) a.object a.length _ w.ensures in
    let r = c.accept_change in
    change-refuses ch _ r.ensures.number _ c.in-Err-accept_change.is

pub issue_length-number-requires : goal.issue_length-number-requires
unfolding length_record
issue_length-number-requires c =
    let a = c.args in
    let h = admitted a.n a.b a.m a.server.now a.view.now a.log.now (sym c.admit.ensures ∙ not-refused _ c.in_default.not-Err) in
    let w = c.length_refusal-own in
    let r = c.accept_change in
    let i = length-issuing h (issuer a.program) a.object a.length _ w.ensures _ r.ensures.number (not-refused _ c.in_default-accept_change.not-Err) in
    record {
      logged = h.log;
      formed = h.view;
      room = issuing-room h i;
      issuable = issuing-able h i (length_record (read_log a.m a.log.now).head.next a.program a.object a.length) refl;
    }

pub returns : goal.returns
unfolding length_record
returns c =
    let a = c.args in
    let h = admitted a.n a.b a.m a.server.now a.view.now a.log.now (sym c.admit.ensures ∙ not-refused _ c.in_default.not-Err) in
    let w = c.length_refusal-own in
    let ch = length-change h (issuer a.program) a.object a.length _ w.ensures in
    let r = c.accept_change in
    let i = c.issue_length-number in
    issued-outcome ch _ r.ensures.number (not-refused _ c.in_default-accept_change.not-Err) (Operation.set_length a.object a.length) refl
    (length_record (read_log a.m a.log.now).head.next a.program a.object a.length) refl i.result i.new.log i.new.view i.ensures
