-- What a link of this crate and those below it needs, and that it finds the functions that other crates call.
use mathlib.Core.Bool.{true}
use prog.Linked.{Tree, World, Holds, in_world}
use prog.LinkedThreads.{HasT}
use Rattle.log_issue.proofs.TheLink as link
use Rattle.log_draft.proofs.Linked as b0
use Rattle.record_writer.proofs.Linked as b1
use Rattle.volume_tree.proofs.Linked as b2
use Rattle.volume_entry.proofs.Linked as b3
use Rattle.record.proofs.Linked as b4
use Rattle.log_issue.proofs.issue_entry.Symbol as s-issue_entry
use Rattle.log_issue.proofs.issue_forder.Symbol as s-issue_forder
use Rattle.log_issue.proofs.issue_length.Symbol as s-issue_length
use Rattle.log_issue.proofs.issue_range.Symbol as s-issue_range
use Rattle.log_issue.proofs.issue_rename.Symbol as s-issue_rename
pub use Rattle.log_draft.proofs.Linked.{table-buffer, Needs-buffer, needs-buffer, table-returned, Needs-returned, needs-returned, table-names, Needs-names, needs-names, table-record, Needs-record, needs-record, table-record_valid, Needs-record_valid, needs-record_valid, table-record_reader, Needs-record_reader, needs-record_reader, table-log_operands, Needs-log_operands, needs-log_operands, table-log_touch, Needs-log_touch, needs-log_touch, table-volume_entry, Needs-volume_entry, needs-volume_entry, table-volume_tree, Needs-volume_tree, needs-volume_tree, table-log_slots, Needs-log_slots, needs-log_slots, table-log_dependence, Needs-log_dependence, needs-log_dependence, table-volume_applies, Needs-volume_applies, needs-volume_applies, table-volume_write, Needs-volume_write, needs-volume_write, table-volume, Needs-volume, needs-volume, table-log_draft, Needs-log_draft, needs-log_draft}
pub use Rattle.record_writer.proofs.Linked.{table-record_writer, Needs-record_writer, needs-record_writer}

-- the crate's table
pub table-log_issue : Tree
table-log_issue = link.table

-- a world that has it, and those of the crates below
pub Needs-log_issue : World → Type 0
Needs-log_issue W = Holds W "log_issue" table-log_issue × b0.Needs-log_draft W × b1.Needs-record_writer W × b2.Needs-volume_tree W × b3.Needs-volume_entry W × b4.Needs-record W × Unit {0}

pub needs-log_issue : (W : World) → Holds W "log_issue" table-log_issue → b0.Needs-log_draft W → b1.Needs-record_writer W → b2.Needs-volume_tree W → b3.Needs-volume_entry W → b4.Needs-record W → Needs-log_issue W
unfolding Needs-log_issue
needs-log_issue W h n0 n1 n2 n3 n4 = (h, n0, n1, n2, n3, n4, tt)

below : (W : World) → Needs-log_issue W → link.Below W
unfolding Needs-log_issue
below W n = (b0.linked-draft_of W n.1, (b0.linked-issue W n.1, (b0.linked-issue_log W n.1, (b1.linked-write_entry W n.2, (b1.linked-write_forder W n.2, (b1.linked-write_length W n.2, (b1.linked-write_range W n.2, (b1.linked-write_rename W n.2, tt))))))))

pub linked-issue_entry : (W : World) → Needs-log_issue W → HasT (in_world W) true s-issue_entry.code
unfolding Needs-log_issue table-log_issue
linked-issue_entry W n = link.linked-log_issue::issue_entry W n.0 (below W n)

pub linked-issue_forder : (W : World) → Needs-log_issue W → HasT (in_world W) true s-issue_forder.code
unfolding Needs-log_issue table-log_issue
linked-issue_forder W n = link.linked-log_issue::issue_forder W n.0 (below W n)

pub linked-issue_length : (W : World) → Needs-log_issue W → HasT (in_world W) true s-issue_length.code
unfolding Needs-log_issue table-log_issue
linked-issue_length W n = link.linked-log_issue::issue_length W n.0 (below W n)

pub linked-issue_range : (W : World) → Needs-log_issue W → HasT (in_world W) true s-issue_range.code
unfolding Needs-log_issue table-log_issue
linked-issue_range W n = link.linked-log_issue::issue_range W n.0 (below W n)

pub linked-issue_rename : (W : World) → Needs-log_issue W → HasT (in_world W) true s-issue_rename.code
unfolding Needs-log_issue table-log_issue
linked-issue_rename W n = link.linked-log_issue::issue_rename W n.0 (below W n)
