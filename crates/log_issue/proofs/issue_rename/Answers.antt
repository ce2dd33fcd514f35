-- `log_issue::issue_rename` meets its contract: what was written into the first free slot may be issued. Assumes nothing.
use native.Mathlib.Omega.{arith}
use Prim.Native.Nat.{ℕ}
use mathlib.Core.Path.{refl}
use Rattle.record_writer.specs.Code.Writer.{rename_record}
use Rattle.log_issue.specs.Laws.Written.{draft-room, record-room, ready}
use Rattle.log_issue.proofs.issue_rename.Goals as goal

pub slice_bounds-write_rename-count : goal.slice_bounds-write_rename-count
slice_bounds-write_rename-count c = let w = draft-room c.requires.logged c.requires.room c.draft_of-d.ensures in omega arith

pub slice_bounds-write_rename-start : goal.slice_bounds-write_rename-start
slice_bounds-write_rename-start c = let w = draft-room c.requires.logged c.requires.room c.draft_of-d.ensures in omega arith

pub slice_bounds-write_rename-end : goal.slice_bounds-write_rename-end
slice_bounds-write_rename-end c = let w = draft-room c.requires.logged c.requires.room c.draft_of-d.ensures in omega arith

pub write_rename-requires : goal.write_rename-requires
write_rename-requires c =
    let a = c.args in
    record-room c.requires.logged c.requires.room c.draft_of-d.ensures (λ (j : ℕ). rename_record j a.by.program a.object a.parent a.second a.displaced a.name.now a.second_name.now) c.requires.issuable.sound

pub issue-requires : goal.issue-requires
unfolding rename_record
issue-requires c =
    let a = c.args in
    record {
      formed = c.requires.formed;
      ready = (_, _, ready c.requires.logged c.requires.room c.draft_of-d.ensures (λ (j : ℕ). rename_record j a.by.program a.object a.parent a.second a.displaced a.name.now a.second_name.now) c.requires.issuable refl refl c.write_rename.ensures);
    }

pub returns : goal.returns
unfolding rename_record
returns c =
    let a = c.args in
    c.issue.ensures _ _ (ready c.requires.logged c.requires.room c.draft_of-d.ensures (λ (j : ℕ). rename_record j a.by.program a.object a.parent a.second a.displaced a.name.now a.second_name.now) c.requires.issuable refl refl c.write_rename.ensures)
