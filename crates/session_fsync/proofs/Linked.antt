-- What a link of this crate and those below it needs, and that it finds the functions that other crates call.
use mathlib.Core.Bool.{true}
use prog.Linked.{Tree, World, Holds, in_world}
use prog.LinkedThreads.{HasT}
use Rattle.session_fsync.proofs.TheLink as link
use Rattle.log_fsync.proofs.Linked as b0
use Rattle.returned.proofs.Linked as b1
use Rattle.session_admission.proofs.Linked as b2
use Rattle.volume_write.proofs.Linked as b3
use Rattle.volume_tree.proofs.Linked as b4
use Rattle.record.proofs.Linked as b5
use Rattle.session_fsync.proofs.fsync.Symbol as s-fsync
pub use Rattle.session_admission.proofs.Linked.{table-buffer, Needs-buffer, needs-buffer, table-returned, Needs-returned, needs-returned, table-names, Needs-names, needs-names, table-volume_entry, Needs-volume_entry, needs-volume_entry, table-volume_tree, Needs-volume_tree, needs-volume_tree, table-record, Needs-record, needs-record, table-log_slots, Needs-log_slots, needs-log_slots, table-record_valid, Needs-record_valid, needs-record_valid, table-record_reader, Needs-record_reader, needs-record_reader, table-log_form, Needs-log_form, needs-log_form, table-volume_questions, Needs-volume_questions, needs-volume_questions, table-volume_unique, Needs-volume_unique, needs-volume_unique, table-volume_entry_form, Needs-volume_entry_form, needs-volume_entry_form, table-volume_form, Needs-volume_form, needs-volume_form, table-session_admission, Needs-session_admission, needs-session_admission}
pub use Rattle.log_fsync.proofs.Linked.{table-log_discard, Needs-log_discard, needs-log_discard, table-volume_applies, Needs-volume_applies, needs-volume_applies, table-volume_write, Needs-volume_write, needs-volume_write, table-volume, Needs-volume, needs-volume, table-log_send, Needs-log_send, needs-log_send, table-log_compact, Needs-log_compact, needs-log_compact, table-log_push, Needs-log_push, needs-log_push, table-log_operands, Needs-log_operands, needs-log_operands, table-log_touch, Needs-log_touch, needs-log_touch, table-log_dependence, Needs-log_dependence, needs-log_dependence, table-log_order, Needs-log_order, needs-log_order, table-log_fsync, Needs-log_fsync, needs-log_fsync}

-- the crate's table
pub table-session_fsync : Tree
table-session_fsync = link.table

-- a world that has it, and those of the crates below
pub Needs-session_fsync : World → Type 0
Needs-session_fsync W = Holds W "session_fsync" table-session_fsync × b0.Needs-log_fsync W × b1.Needs-returned W × b2.Needs-session_admission W × b3.Needs-volume_write W × b4.Needs-volume_tree W × b5.Needs-record W × Unit {0}

pub needs-session_fsync : (W : World) → Holds W "session_fsync" table-session_fsync → b0.Needs-log_fsync W → b1.Needs-returned W → b2.Needs-session_admission W → b3.Needs-volume_write W → b4.Needs-volume_tree W → b5.Needs-record W → Needs-session_fsync W
unfolding Needs-session_fsync
needs-session_fsync W h n0 n1 n2 n3 n4 n5 = (h, n0, n1, n2, n3, n4, n5, tt)

below : (W : World) → Needs-session_fsync W → link.Below W
unfolding Needs-session_fsync
below W n = (b0.linked-sync_object W n.1, (b1.linked-Refusal-number W n.2, (b1.linked-Value-of W n.2, (b2.linked-lent-admit W n.3, (b2.linked-object-object_refusal W n.3, (b2.linked-program-program_refusal W n.3, (b3.linked-format-copy_volume W n.4, tt)))))))

pub linked-fsync : (W : World) → Needs-session_fsync W → HasT (in_world W) true s-fsync.code
unfolding Needs-session_fsync table-session_fsync
linked-fsync W n = link.linked-session_fsync::fsync W n.0 (below W n)
