-- What a link of this crate and those below it needs, and that it finds the functions that other crates call.
use mathlib.Core.Bool.{true}
use prog.Linked.{Tree, World, Holds, in_world}
use prog.LinkedThreads.{HasT}
use Rattle.session_write.proofs.TheLink as link
use Rattle.session_admission.proofs.Linked as b0
use Rattle.session_change.proofs.Linked as b1
use Rattle.session_operations.proofs.Linked as b2
use Rattle.volume_entry.proofs.Linked as b3
use Rattle.volume_tree.proofs.Linked as b4
use Rattle.log_draft.proofs.Linked as b5
use Rattle.buffer.proofs.Linked as b6
use Rattle.returned.proofs.Linked as b7
use Rattle.session_write.proofs.write.write.Symbol as s-write-write
pub use Rattle.session_operations.proofs.Linked.{table-buffer, Needs-buffer, needs-buffer, table-returned, Needs-returned, needs-returned, table-names, Needs-names, needs-names, table-volume_entry, Needs-volume_entry, needs-volume_entry, table-volume_tree, Needs-volume_tree, needs-volume_tree, table-record, Needs-record, needs-record, table-log_slots, Needs-log_slots, needs-log_slots, table-record_valid, Needs-record_valid, needs-record_valid, table-record_reader, Needs-record_reader, needs-record_reader, table-log_form, Needs-log_form, needs-log_form, table-volume_questions, Needs-volume_questions, needs-volume_questions, table-volume_unique, Needs-volume_unique, needs-volume_unique, table-volume_entry_form, Needs-volume_entry_form, needs-volume_entry_form, table-volume_form, Needs-volume_form, needs-volume_form, table-session_admission, Needs-session_admission, needs-session_admission, table-log_operands, Needs-log_operands, needs-log_operands, table-log_touch, Needs-log_touch, needs-log_touch, table-log_dependence, Needs-log_dependence, needs-log_dependence, table-volume_applies, Needs-volume_applies, needs-volume_applies, table-volume_write, Needs-volume_write, needs-volume_write, table-volume, Needs-volume, needs-volume, table-log_draft, Needs-log_draft, needs-log_draft, table-session_change, Needs-session_change, needs-session_change, table-record_writer, Needs-record_writer, needs-record_writer, table-log_issue, Needs-log_issue, needs-log_issue, table-session_operations, Needs-session_operations, needs-session_operations}

-- the crate's table
pub table-session_write : Tree
table-session_write = link.table

-- a world that has it, and those of the crates below
pub Needs-session_write : World → Type 0
Needs-session_write W = Holds W "session_write" table-session_write × b0.Needs-session_admission W × b1.Needs-session_change W × b2.Needs-session_operations W × b3.Needs-volume_entry W × b4.Needs-volume_tree W × b5.Needs-log_draft W × b6.Needs-buffer W × b7.Needs-returned W × Unit {0}

pub needs-session_write : (W : World) → Holds W "session_write" table-session_write → b0.Needs-session_admission W → b1.Needs-session_change W → b2.Needs-session_operations W → b3.Needs-volume_entry W → b4.Needs-volume_tree W → b5.Needs-log_draft W → b6.Needs-buffer W → b7.Needs-returned W → Needs-session_write W
unfolding Needs-session_write
needs-session_write W h n0 n1 n2 n3 n4 n5 n6 n7 = (h, n0, n1, n2, n3, n4, n5, n6, n7, tt)

below : (W : World) → Needs-session_write W → link.Below W
unfolding Needs-session_write
below W n = (b0.linked-lent-admit W n.1, (b0.linked-object-file_refusal W n.1, (b1.linked-accept_change W n.2, (b2.linked-operations-issue_writes W n.3, (b2.linked-operations-operations W n.3, (b3.linked-field-contents W n.4, (b4.linked-entries-entry W n.5, tt)))))))

pub linked-write-write : (W : World) → Needs-session_write W → HasT (in_world W) true s-write-write.code
unfolding Needs-session_write table-session_write
linked-write-write W n = link.linked-session_write::write::write W n.0 (below W n)
