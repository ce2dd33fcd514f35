-- `log_issue::issue_entry` meets its contract: what was written into the first free slot may be issued. Assumes nothing.
use native.Mathlib.Omega.{arith}
use Prim.Native.Nat.{ℕ}
use mathlib.Core.Path.{refl}
use Rattle.record_writer.specs.Code.Writer.{entry_record}
use Rattle.log_issue.specs.Laws.Written.{draft-room, record-room, ready}
use Rattle.log_issue.proofs.issue_entry.Goals as goal

pub slice_bounds-write_entry-count : goal.slice_bounds-write_entry-count
slice_bounds-write_entry-count c = let w = draft-room c.requires.logged c.requires.room c.draft_of-d.ensures in omega arith

pub slice_bounds-write_entry-start : goal.slice_bounds-write_entry-start
slice_bounds-write_entry-start c = let w = draft-room c.requires.logged c.requires.room c.draft_of-d.ensures in omega arith

pub slice_bounds-write_entry-end : goal.slice_bounds-write_entry-end
slice_bounds-write_entry-end c = let w = draft-room c.requires.logged c.requires.room c.draft_of-d.ensures in omega arith

pub write_entry-requires : goal.write_entry-requires
write_entry-requires c =
    let a = c.args in
    record {
      kind_value = c.requires.kind_value;
      writable = record-room c.requires.logged c.requires.room c.draft_of-d.ensures (λ (j : ℕ). entry_record a.kind j a.by.program a.object a.parent a.name.now) c.requires.issuable.sound;
    }

pub issue-requires : goal.issue-requires
unfolding entry_record
issue-requires c =
    let a = c.args in
    record {
      formed = c.requires.formed;
      ready = (_, _, ready c.requires.logged c.requires.room c.draft_of-d.ensures (λ (j : ℕ). entry_record a.kind j a.by.program a.object a.parent a.name.now) c.requires.issuable refl refl c.write_entry.ensures);
    }

pub returns : goal.returns
unfolding entry_record
returns c =
    let a = c.args in
    c.issue.ensures _ _ (ready c.requires.logged c.requires.room c.draft_of-d.ensures (λ (j : ℕ). entry_record a.kind j a.by.program a.object a.parent a.name.now) c.requires.issuable refl refl c.write_entry.ensures)
