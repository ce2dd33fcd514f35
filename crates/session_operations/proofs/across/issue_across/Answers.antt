-- `session_operations::across::issue_across` meets its contract: what the first leaves is what the second is issued on. Assumes nothing.
use mathlib.Core.Path.{refl}
use mathlib.Core.List.{[], ◌∷◌}
use Rattle.record.specs.declared.kind.Kind.TheVariants.{Overwrite, Append}
use Rattle.record.specs.Operation.{Operation}
use Rattle.record_writer.specs.Code.Writer.{range_record}
use Rattle.log_rules.specs.Stored.{read_log}
use Rattle.session.specs.Call.{geometry}
use Rattle.session.proofs.Laws.Issuing.{Issuing}
use Rattle.session_admission.specs.Code.Admitted.{model_in, Admitted}
use Rattle.log_draft.specs.Laws.Issued.{one-issued}
use Rattle.session_change.specs.Laws.Issued.{issuing-room, issuing-able, issued-admitted, issued-rest, issued-then}
use Rattle.session_operations.proofs.across.issue_across.Goals as goal

pub issue_range-first-requires : goal.issue_range-first-requires
unfolding range_record
issue_range-first-requires c =
    let a = c.args in
    let h = c.requires.held in
    let i = c.requires.issuing in
    record {
      logged = h.log;
      formed = h.view;
      room = issuing-room h i;
      kind_value = refl;
      issuable = issuing-able h i (range_record Overwrite (read_log a.m a.log.now).head.next a.by.program a.object a.offset a.old.now) refl;
    }

-- What the first leaves are buffers that pass, on which the second may be issued.
pub issue_range-requires : goal.issue_range-requires
unfolding range_record
issue_range-requires c =
    let a = c.args in
    let y = c.requires in
    let f = c.issue_range-first in
    let h : Admitted a.n a.b a.m y.server f.new.view f.new.log = issued-admitted y.held y.issuing f.result f.new.log f.new.view f.ensures in
    let i : Issuing (geometry a.n a.b a.m) (model_in a.n a.b a.m y.server f.new.view f.new.log) a.by.program (Operation.append a.object a.len a.new.now ∷ []) =
    issued-rest y.held y.issuing f.result f.new.log f.new.view f.ensures in
    record {
      logged = h.log;
      formed = h.view;
      room = issuing-room h i;
      kind_value = refl;
      issuable = issuing-able h i (range_record Append (read_log a.m f.new.log).head.next a.by.program a.object a.len a.new.now) refl;
    }

pub returns : goal.returns
unfolding range_record
returns c =
    let y = c.requires in
    let f = c.issue_range-first in
    let g = c.issue_range in
    issued-then y.held y.issuing f.result f.new.log f.new.view f.ensures g.result g.new.log g.new.view (one-issued g.ensures)
