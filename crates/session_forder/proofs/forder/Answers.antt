-- `session_forder::forder` meets its contract: refused for what it is lent, refused by its table, or issued. Assumes nothing.
use native.Mathlib.Omega.{arith}
use Rattle.returned.specs.Laws.Refusal.{not-refused}
use mathlib.Core.Path.{refl, sym, ◌∙◌}
use Rattle.record.specs.Operation.{Operation}
use Rattle.record.specs.Fields.{objects_of}
use Rattle.record_writer.specs.Code.Writer.{forder_record}
use Rattle.log_rules.specs.Stored.{read_log}
use Rattle.session.specs.Class
use Rattle.session.specs.Call.{geometry, buffers, issuer}
use Rattle.session_admission.specs.Laws.Admitted.{admitted}
use Rattle.session_change.specs.Laws.Change.{lent-refuses, change-refuses}
use Rattle.session_change.specs.Laws.Issued.{issuing-room, issuing-able, issued-outcome}
use Rattle.session_forder.specs.Laws.Call.{forder-change, forder-issuing, forder-even, forder-issued}
use Rattle.session_forder.proofs.forder.Goals as goal

pub returns-in-Err : goal.returns-in-Err
returns-in-Err c =
    let a = c.args in
    lent-refuses (geometry a.n a.b a.m) (issuer a.program) (Class.forder a.list.now) (buffers a.server.now a.view.now a.log.now) _ c.admit.ensures _ c.in-Err.is

pub forder_refusal-own-requires : goal.forder_refusal-own-requires
forder_refusal-own-requires c =
    let a = c.args in
    (admitted a.n a.b a.m a.server.now a.view.now a.log.now (sym c.admit.ensures ∙ not-refused _ c.in_default.not-Err)).view.lent

pub accept_change-requires : goal.accept_change-requires
accept_change-requires c =
    let a = c.args in
    let h = admitted a.n a.b a.m a.server.now a.view.now a.log.now (sym c.admit.ensures ∙ not-refused _ c.in_default.not-Err) in
    record { logged = h.log; count_bound = omega arith }

pub returns-in-Err-accept_change : goal.returns-in-Err-accept_change
returns-in-Err-accept_change c =
    let a = c.args in
    let h = admitted a.n a.b a.m a.server.now a.view.now a.log.now (sym c.admit.ensures ∙ not-refused _ c.in_default.not-Err) in
    let w = c.forder_refusal-own in
    let ch = forder-change h (issuer a.program) a.list.now _ w.ensures in
    let r = c.accept_change in
    change-refuses ch _ r.ensures.number _ c.in-Err-accept_change.is

pub issue_forder-number-requires : goal.issue_forder-number-requires
unfolding forder_record
issue_forder-number-requires c =
    let a = c.args in
    let h = admitted a.n a.b a.m a.server.now a.view.now a.log.now (sym c.admit.ensures ∙ not-refused _ c.in_default.not-Err) in
    let w = c.forder_refusal-own in
    let r = c.accept_change in
    let i = forder-issuing h (issuer a.program) a.list.now _ w.ensures _ r.ensures.number (not-refused _ c.in_default-accept_change.not-Err) in
    let able = issuing-able h i (forder_record (read_log a.m a.log.now).head.next a.program a.list.now) refl in
    record {
      logged = h.log;
      room = issuing-room h i;
      list_len = forder-even h (issuer a.program) a.list.now _ w.ensures _ r.ensures.number (not-refused _ c.in_default-accept_change.not-Err);
      kept = record { sound = able.sound; fit = able.fit };
    }

pub returns : goal.returns
unfolding forder_record
returns c =
    let a = c.args in
    let h = admitted a.n a.b a.m a.server.now a.view.now a.log.now (sym c.admit.ensures ∙ not-refused _ c.in_default.not-Err) in
    let w = c.forder_refusal-own in
    let ch = forder-change h (issuer a.program) a.list.now _ w.ensures in
    let r = c.accept_change in
    let i = c.issue_forder-number in
    issued-outcome ch _ r.ensures.number (not-refused _ c.in_default-accept_change.not-Err) (Operation.forder (objects_of a.list.now)) refl
    (forder_record (read_log a.m a.log.now).head.next a.program a.list.now) refl i.result i.new.log a.view.now
    (forder-issued h.view (read_log a.m a.log.now).head.next a.program i.result a.list.now i.new.log a.log.now i.ensures)
