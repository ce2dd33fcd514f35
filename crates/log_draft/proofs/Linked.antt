-- What a link of this crate and those below it needs, and that it finds the functions that other crates call.
use mathlib.Core.Bool.{true}
use prog.Linked.{Tree, World, Holds, in_world}
use prog.LinkedThreads.{HasT}
use Rattle.log_draft.proofs.TheLink as link
use Rattle.buffer.proofs.Linked as b0
use Rattle.log_dependence.proofs.Linked as b1
use Rattle.log_operands.proofs.Linked as b2
use Rattle.log_slots.proofs.Linked as b3
use Rattle.log_touch.proofs.Linked as b4
use Rattle.record_reader.proofs.Linked as b5
use Rattle.volume.proofs.Linked as b6
use Rattle.volume_applies.proofs.Linked as b7
use Rattle.volume_tree.proofs.Linked as b8
use Rattle.volume_entry.proofs.Linked as b9
use Rattle.record.proofs.Linked as b10
use Rattle.log_draft.proofs.draft_of.Symbol as s-draft_of
use Rattle.log_draft.proofs.issue.Symbol as s-issue
use Rattle.log_draft.proofs.issue_log.Symbol as s-issue_log
pub use Rattle.log_dependence.proofs.Linked.{table-buffer, Needs-buffer, needs-buffer, table-returned, Needs-returned, needs-returned, table-names, Needs-names, needs-names, table-record, Needs-record, needs-record, table-record_valid, Needs-record_valid, needs-record_valid, table-record_reader, Needs-record_reader, needs-record_reader, table-log_operands, Needs-log_operands, needs-log_operands, table-log_touch, Needs-log_touch, needs-log_touch, table-volume_entry, Needs-volume_entry, needs-volume_entry, table-volume_tree, Needs-volume_tree, needs-volume_tree, table-log_slots, Needs-log_slots, needs-log_slots, table-log_dependence, Needs-log_dependence, needs-log_dependence}
pub use Rattle.volume.proofs.Linked.{table-volume_applies, Needs-volume_applies, needs-volume_applies, table-volume_write, Needs-volume_write, needs-volume_write, table-volume, Needs-volume, needs-volume}

-- the crate's table
pub table-log_draft : Tree
table-log_draft = link.table

-- a world that has it, and those of the crates below
pub Needs-log_draft : World → Type 0
Needs-log_draft W = Holds W "log_draft" table-log_draft × b0.Needs-buffer W × b1.Needs-log_dependence W × b2.Needs-log_operands W × b3.Needs-log_slots W × b4.Needs-log_touch W × b5.Needs-record_reader W × b6.Needs-volume W × b7.Needs-volume_applies W × b8.Needs-volume_tree W × b9.Needs-volume_entry W × b10.Needs-record W × Unit {0}

pub needs-log_draft : (W : World) → Holds W "log_draft" table-log_draft → b0.Needs-buffer W → b1.Needs-log_dependence W → b2.Needs-log_operands W → b3.Needs-log_slots W → b4.Needs-log_touch W → b5.Needs-record_reader W → b6.Needs-volume W → b7.Needs-volume_applies W → b8.Needs-volume_tree W → b9.Needs-volume_entry W → b10.Needs-record W → Needs-log_draft W
unfolding Needs-log_draft
needs-log_draft W h n0 n1 n2 n3 n4 n5 n6 n7 n8 n9 n10 = (h, n0, n1, n2, n3, n4, n5, n6, n7, n8, n9, n10, tt)

below : (W : World) → Needs-log_draft W → link.Below W
unfolding Needs-log_draft
below W n = (b0.linked-put-put_four W n.1, (b1.linked-note_slots W n.2, (b2.linked-order_of W n.3, (b3.linked-head-next_number W n.4, (b3.linked-head-used W n.4, (b3.linked-programs-with_program W n.4, (b4.linked-set-add W n.5, (b4.linked-set-none W n.5, (b5.linked-read_record W n.6, (b6.linked-apply-apply W n.7, tt))))))))))

pub linked-draft_of : (W : World) → Needs-log_draft W → HasT (in_world W) true s-draft_of.code
unfolding Needs-log_draft table-log_draft
linked-draft_of W n = link.linked-log_draft::draft_of W n.0 (below W n)

pub linked-issue : (W : World) → Needs-log_draft W → HasT (in_world W) true s-issue.code
unfolding Needs-log_draft table-log_draft
linked-issue W n = link.linked-log_draft::issue W n.0 (below W n)

pub linked-issue_log : (W : World) → Needs-log_draft W → HasT (in_world W) true s-issue_log.code
unfolding Needs-log_draft table-log_draft
linked-issue_log W n = link.linked-log_draft::issue_log W n.0 (below W n)
