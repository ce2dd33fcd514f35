-- `log_issue::issue_range` meets its contract: what was written into the first free slot may be issued. Assumes nothing.
use native.Mathlib.Omega.{arith}
use Prim.Native.Nat.{ℕ}
use mathlib.Core.Path.{refl}
use Rattle.record_writer.specs.Code.Writer.{range_record}
use Rattle.log_issue.specs.Laws.Written.{draft-room, record-room, ready}
use Rattle.log_issue.proofs.issue_range.Goals as goal

pub slice_bounds-write_range-count : goal.slice_bounds-write_range-count
slice_bounds-write_range-count c = let w = draft-room c.requires.logged c.requires.room c.draft_of-d.ensures in omega arith

pub slice_bounds-write_range-start : goal.slice_bounds-write_range-start
slice_bounds-write_range-start c = let w = draft-room c.requires.logged c.requires.room c.draft_of-d.ensures in omega arith

pub slice_bounds-write_range-end : goal.slice_bounds-write_range-end
slice_bounds-write_range-end c = let w = draft-room c.requires.logged c.requires.room c.draft_of-d.ensures in omega arith

pub write_range-requires : goal.write_range-requires
write_range-requires c =
    let a = c.args in
    record {
      kind_value = c.requires.kind_value;
      writable = record-room c.requires.logged c.requires.room c.draft_of-d.ensures (λ (j : ℕ). range_record a.kind j a.by.program a.object a.offset a.content.now) c.requires.issuable.sound;
    }

pub issue-requires : goal.issue-requires
unfolding range_record
issue-requires c =
    let a = c.args in
    record {
      formed = c.requires.formed;
      ready = (_, _, ready c.requires.logged c.requires.room c.draft_of-d.ensures (λ (j : ℕ). range_record a.kind j a.by.program a.object a.offset a.content.now) c.requires.issuable refl refl c.write_range.ensures);
    }

pub returns : goal.returns
unfolding range_record
returns c =
    let a = c.args in
    c.issue.ensures _ _ (ready c.requires.logged c.requires.room c.draft_of-d.ensures (λ (j : ℕ). range_record a.kind j a.by.program a.object a.offset a.content.now) c.requires.issuable refl refl c.write_range.ensures)
