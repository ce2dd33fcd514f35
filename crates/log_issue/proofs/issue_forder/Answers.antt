-- `log_issue::issue_forder` meets its contract: what was written into the first free slot may be issued. Assumes nothing.
use native.Mathlib.Omega.{arith}
use Prim.Native.Nat.{ℕ}
use mathlib.Core.Path.{refl}
use Rattle.record_writer.specs.Code.Writer.{forder_record}
use Rattle.log_issue.specs.Laws.Written.{draft-room, record-room, placed}
use Rattle.log_issue.proofs.issue_forder.Goals as goal

pub slice_bounds-write_forder-count : goal.slice_bounds-write_forder-count
slice_bounds-write_forder-count c = let w = draft-room c.requires.logged c.requires.room c.draft_of-d.ensures in omega arith

pub slice_bounds-write_forder-start : goal.slice_bounds-write_forder-start
slice_bounds-write_forder-start c = let w = draft-room c.requires.logged c.requires.room c.draft_of-d.ensures in omega arith

pub slice_bounds-write_forder-end : goal.slice_bounds-write_forder-end
slice_bounds-write_forder-end c = let w = draft-room c.requires.logged c.requires.room c.draft_of-d.ensures in omega arith

pub write_forder-requires : goal.write_forder-requires
write_forder-requires c =
    let a = c.args in
    record {
      list_len = c.requires.list_len;
      writable = record-room c.requires.logged c.requires.room c.draft_of-d.ensures (λ (j : ℕ). forder_record j a.by.program a.list.now) c.requires.kept.sound;
    }

pub issue_log-requires : goal.issue_log-requires
unfolding forder_record
issue_log-requires c =
    let a = c.args in
    (_, _, placed c.requires.logged c.requires.room c.draft_of-d.ensures (λ (j : ℕ). forder_record j a.by.program a.list.now) c.requires.kept refl refl c.write_forder.ensures)

pub returns : goal.returns
unfolding forder_record
returns c =
    let a = c.args in
    c.issue_log.ensures _ _ (placed c.requires.logged c.requires.room c.draft_of-d.ensures (λ (j : ℕ). forder_record j a.by.program a.list.now) c.requires.kept refl refl c.write_forder.ensures)
