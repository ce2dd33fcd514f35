-- `session_operations::operations::issue_writes` meets its contract: where the bytes lie decides which operations they are. Assumes nothing.
use native.Mathlib.Omega.{arith}
use mathlib.Core.Path.{refl, sym, subst}
use Rattle.record.specs.declared.kind.Kind.TheVariants.{Overwrite, Append}
use Rattle.record_writer.specs.Code.Writer.{range_record}
use Rattle.volume_tree.specs.Stored.{read_volume}
use Rattle.log_rules.specs.Stored.{read_log}
use Rattle.session.proofs.Laws.Write.{writes-append, writes-overwrite}
use Rattle.log_draft.specs.Code.Issued.{AllIssued}
use Rattle.log_draft.specs.Laws.Issued.{one-issued}
use Rattle.session_change.specs.Code.Change.{MayIssue}
use Rattle.session_change.specs.Laws.Issued.{issuing-room, issuing-able}
use Rattle.session_operations.specs.Laws.Write.{parts-written}
use Rattle.session_operations.proofs.operations.issue_writes.Goals as goal

-- from the length on
pub issue_range-requires : goal.issue_range-requires
unfolding range_record
issue_range-requires c =
    let a = c.args in
    let d = a.«data».now in
    let e = writes-append a.len a.object a.offset d c.requires.in_bounds (omega arith) in
    let y = subst (MayIssue a.n a.b a.m a.by.program a.view.now a.log.now) e c.requires.may_issue in
    record {
      logged = y.held.log;
      formed = y.held.view;
      room = issuing-room y.held y.issuing;
      kind_value = refl;
      issuable = issuing-able y.held y.issuing (range_record Append (read_log a.m a.log.now).head.next a.by.program a.object a.len d) refl;
    }

pub returns-then-len-offset : goal.returns-then-len-offset
unfolding range_record
returns-then-len-offset c =
    let a = c.args in
    let r = c.issue_range in
    let e = writes-append a.len a.object a.offset a.«data».now c.requires.in_bounds (omega arith) in
    subst (AllIssued a.b a.m r.result r.new.log r.new.view (read_volume a.n a.b a.view.now) (read_log a.m a.log.now) a.by.program)
    (sym e) (one-issued r.ensures)

-- wholly inside it
pub issue_range-requires-then-data-inside : goal.issue_range-requires-then-data-inside
unfolding range_record
issue_range-requires-then-data-inside c =
    let a = c.args in
    let d = a.«data».now in
    let e = writes-overwrite a.len a.object a.offset d c.requires.in_bounds (omega arith) in
    let y = subst (MayIssue a.n a.b a.m a.by.program a.view.now a.log.now) e c.requires.may_issue in
    record {
      logged = y.held.log;
      formed = y.held.view;
      room = issuing-room y.held y.issuing;
      kind_value = refl;
      issuable = issuing-able y.held y.issuing (range_record Overwrite (read_log a.m a.log.now).head.next a.by.program a.object a.offset d) refl;
    }

pub returns-then-data-inside : goal.returns-then-data-inside
unfolding range_record
returns-then-data-inside c =
    let a = c.args in
    let r = c.issue_range-then-data-inside in
    let e = writes-overwrite a.len a.object a.offset a.«data».now c.requires.in_bounds (omega arith) in
    subst (AllIssued a.b a.m r.result r.new.log r.new.view (read_volume a.n a.b a.view.now) (read_log a.m a.log.now) a.by.program)
    (sym e) (one-issued r.ensures)

-- across it
pub issue_across-requires : goal.issue_across-requires
issue_across-requires c =
    let a = c.args in
    subst (MayIssue a.n a.b a.m a.by.program a.view.now a.log.now)
    (parts-written a.len a.object a.offset a.«data».now (omega arith) (omega arith)) c.requires.may_issue

pub returns : goal.returns
returns c =
    let a = c.args in
    let r = c.issue_across in
    subst (AllIssued a.b a.m r.result r.new.log r.new.view (read_volume a.n a.b a.view.now) (read_log a.m a.log.now) a.by.program)
    (sym (parts-written a.len a.object a.offset a.«data».now (omega arith) (omega arith))) r.ensures
