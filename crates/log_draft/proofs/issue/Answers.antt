-- `log_draft::issue` meets its contract: the record is applied where it stands, and then the log is changed. Assumes nothing.
use native.Mathlib.Omega.{arith}
use Rattle.log_draft.specs.Laws.Draft.{draft-within, draft-part}
use Rattle.log_draft.proofs.issue.Goals as goal

pub slice_bounds-apply_record-count : goal.slice_bounds-apply_record-count
slice_bounds-apply_record-count c = let w = draft-within c.requires.ready.2.placed in omega arith

pub slice_bounds-apply_record-start : goal.slice_bounds-apply_record-start
slice_bounds-apply_record-start c = let w = draft-within c.requires.ready.2.placed in omega arith

pub slice_bounds-apply_record-end : goal.slice_bounds-apply_record-end
slice_bounds-apply_record-end c = let w = draft-within c.requires.ready.2.placed in omega arith

pub apply_record-requires : goal.apply_record-requires
apply_record-requires c =
    let p = c.requires.ready in
    record {
      formed = c.requires.formed;
      begins = (p.1, record { rest = _; bytes = draft-part p.2.placed }, p.2.able);
    }

pub returns : goal.returns
returns c l r h =
    let w = c.issue_log.ensures l r h.placed in
    record {
      gives = w.gives;
      log = w.log;
      view = c.apply_record.ensures r (record { rest = _; bytes = draft-part h.placed }) h.able;
    }
