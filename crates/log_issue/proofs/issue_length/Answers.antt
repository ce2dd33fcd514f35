-- `log_issue::issue_length` meets its contract: what was written into the first free slot may be issued. Assumes nothing.
use native.Mathlib.Omega.{arith}
use Prim.Native.Nat.{ℕ}
use mathlib.Core.Path.{refl}
use Rattle.record_writer.specs.Code.Writer.{length_record}
use Rattle.log_issue.specs.Laws.Written.{draft-room, record-room, ready}
use Rattle.log_issue.proofs.issue_length.Goals as goal

pub slice_bounds-write_length-count : goal.slice_bounds-write_length-count
slice_bounds-write_length-count c = let w = draft-room c.requires.logged c.requires.room c.draft_of-d.ensures in omega arith

pub slice_bounds-write_length-start : goal.slice_bounds-write_length-start
slice_bounds-write_length-start c = let w = draft-room c.requires.logged c.requires.room c.draft_of-d.ensures in omega arith

pub slice_bounds-write_length-end : goal.slice_bounds-write_length-end
slice_bounds-write_length-end c = let w = draft-room c.requires.logged c.requires.room c.draft_of-d.ensures in omega arith

pub write_length-requires : goal.write_length-requires
write_length-requires c =
    let a = c.args in
    record-room c.requires.logged c.requires.room c.draft_of-d.ensures (λ (j : ℕ). length_record j a.by.program a.object a.length) c.requires.issuable.sound

pub issue-requires : goal.issue-requires
unfolding length_record
issue-requires c =
    let a = c.args in
    record {
      formed = c.requires.formed;
      ready = (_, _, ready c.requires.logged c.requires.room c.draft_of-d.ensures (λ (j : ℕ). length_record j a.by.program a.object a.length) c.requires.issuable refl refl c.write_length.ensures);
    }

pub returns : goal.returns
unfolding length_record
returns c =
    let a = c.args in
    c.issue.ensures _ _ (ready c.requires.logged c.requires.room c.draft_of-d.ensures (λ (j : ℕ). length_record j a.by.program a.object a.length) c.requires.issuable refl refl c.write_length.ensures)
