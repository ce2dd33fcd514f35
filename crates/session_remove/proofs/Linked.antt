-- What a link of this crate and those below it needs, and that it finds the functions that other crates call.
use mathlib.Core.Bool.{true}
use prog.Linked.{Tree, World, Holds, in_world}
use prog.LinkedThreads.{HasT}
use Rattle.session_remove.proofs.TheLink as link
use Rattle.log_issue.proofs.Linked as b0
use Rattle.session_admission.proofs.Linked as b1
use Rattle.session_change.proofs.Linked as b2
use Rattle.session_names.proofs.Linked as b3
use Rattle.volume_entry.proofs.Linked as b4
use Rattle.volume_tree.proofs.Linked as b5
use Rattle.log_draft.proofs.Linked as b6
use Rattle.record_writer.proofs.Linked as b7
use Rattle.record.proofs.Linked as b8
use Rattle.returned.proofs.Linked as b9
use Rattle.session_remove.proofs.remove_directory.Symbol as s-remove_directory
use Rattle.session_remove.proofs.remove_file.Symbol as s-remove_file
pub use Rattle.session_names.proofs.Linked.{table-buffer, Needs-buffer, needs-buffer, table-returned, Needs-returned, needs-returned, table-names, Needs-names, needs-names, table-volume_entry, Needs-volume_entry, needs-volume_entry, table-volume_tree, Needs-volume_tree, needs-volume_tree, table-record, Needs-record, needs-record, table-log_slots, Needs-log_slots, needs-log_slots, table-record_valid, Needs-record_valid, needs-record_valid, table-record_reader, Needs-record_reader, needs-record_reader, table-log_form, Needs-log_form, needs-log_form, table-volume_questions, Needs-volume_questions, needs-volume_questions, table-volume_unique, Needs-volume_unique, needs-volume_unique, table-volume_entry_form, Needs-volume_entry_form, needs-volume_entry_form, table-volume_form, Needs-volume_form, needs-volume_form, table-session_admission, Needs-session_admission, needs-session_admission, table-session_names, Needs-session_names, needs-session_names}
pub use Rattle.session_change.proofs.Linked.{table-log_operands, Needs-log_operands, needs-log_operands, table-log_touch, Needs-log_touch, needs-log_touch, table-log_dependence, Needs-log_dependence, needs-log_dependence, table-volume_applies, Needs-volume_applies, needs-volume_applies, table-volume_write, Needs-volume_write, needs-volume_write, table-volume, Needs-volume, needs-volume, table-log_draft, Needs-log_draft, needs-log_draft, table-session_change, Needs-session_change, needs-session_change}
pub use Rattle.log_issue.proofs.Linked.{table-record_writer, Needs-record_writer, needs-record_writer, table-log_issue, Needs-log_issue, needs-log_issue}

-- the crate's table
pub table-session_remove : Tree
table-session_remove = link.table

-- a world that has it, and those of the crates below
pub Needs-session_remove : World → Type 0
Needs-session_remove W = Holds W "session_remove" table-session_remove × b0.Needs-log_issue W × b1.Needs-session_admission W × b2.Needs-session_change W × b3.Needs-session_names W × b4.Needs-volume_entry W × b5.Needs-volume_tree W × b6.Needs-log_draft W × b7.Needs-record_writer W × b8.Needs-record W × b9.Needs-returned W × Unit {0}

pub needs-session_remove : (W : World) → Holds W "session_remove" table-session_remove → b0.Needs-log_issue W → b1.Needs-session_admission W → b2.Needs-session_change W → b3.Needs-session_names W → b4.Needs-volume_entry W → b5.Needs-volume_tree W → b6.Needs-log_draft W → b7.Needs-record_writer W → b8.Needs-record W → b9.Needs-returned W → Needs-session_remove W
unfolding Needs-session_remove
needs-session_remove W h n0 n1 n2 n3 n4 n5 n6 n7 n8 n9 = (h, n0, n1, n2, n3, n4, n5, n6, n7, n8, n9, tt)

below : (W : World) → Needs-session_remove W → link.Below W
unfolding Needs-session_remove
below W n = (b0.linked-issue_entry W n.1, (b1.linked-lent-admit W n.2, (b2.linked-accept_change W n.3, (b3.linked-place-seek W n.4, (b3.linked-text-text_refusal W n.4, (b4.linked-field-is_directory W n.5, (b4.linked-field-is_file W n.5, (b5.linked-entries-entry W n.6, (b5.linked-search-has_children W n.6, tt)))))))))

pub linked-remove_directory : (W : World) → Needs-session_remove W → HasT (in_world W) true s-remove_directory.code
unfolding Needs-session_remove table-session_remove
linked-remove_directory W n = link.linked-session_remove::remove_directory W n.0 (below W n)

pub linked-remove_file : (W : World) → Needs-session_remove W → HasT (in_world W) true s-remove_file.code
unfolding Needs-session_remove table-session_remove
linked-remove_file W n = link.linked-session_remove::remove_file W n.0 (below W n)
