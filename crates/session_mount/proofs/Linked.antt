-- What a link of this crate and those below it needs, and that it finds the functions that other crates call.
use mathlib.Core.Bool.{true}
use prog.Linked.{Tree, World, Holds, in_world}
use prog.LinkedThreads.{HasT}
use Rattle.session_mount.proofs.TheLink as link
use Rattle.buffer.proofs.Linked as b0
use Rattle.session_admission.proofs.Linked as b1
use Rattle.volume_form.proofs.Linked as b2
use Rattle.volume_tree.proofs.Linked as b3
use Rattle.volume_write.proofs.Linked as b4
use Rattle.log_form.proofs.Linked as b5
use Rattle.log_slots.proofs.Linked as b6
use Rattle.returned.proofs.Linked as b7
use Rattle.session_mount.proofs.format.Symbol as s-format
use Rattle.session_mount.proofs.mount.Symbol as s-mount
pub use Rattle.session_admission.proofs.Linked.{table-buffer, Needs-buffer, needs-buffer, table-returned, Needs-returned, needs-returned, table-names, Needs-names, needs-names, table-volume_entry, Needs-volume_entry, needs-volume_entry, table-volume_tree, Needs-volume_tree, needs-volume_tree, table-record, Needs-record, needs-record, table-log_slots, Needs-log_slots, needs-log_slots, table-record_valid, Needs-record_valid, needs-record_valid, table-record_reader, Needs-record_reader, needs-record_reader, table-log_form, Needs-log_form, needs-log_form, table-volume_questions, Needs-volume_questions, needs-volume_questions, table-volume_unique, Needs-volume_unique, needs-volume_unique, table-volume_entry_form, Needs-volume_entry_form, needs-volume_entry_form, table-volume_form, Needs-volume_form, needs-volume_form, table-session_admission, Needs-session_admission, needs-session_admission}
pub use Rattle.volume_write.proofs.Linked.{table-volume_write, Needs-volume_write, needs-volume_write}

-- the crate's table
pub table-session_mount : Tree
table-session_mount = link.table

-- a world that has it, and those of the crates below
pub Needs-session_mount : World → Type 0
Needs-session_mount W = Holds W "session_mount" table-session_mount × b0.Needs-buffer W × b1.Needs-session_admission W × b2.Needs-volume_form W × b3.Needs-volume_tree W × b4.Needs-volume_write W × b5.Needs-log_form W × b6.Needs-log_slots W × b7.Needs-returned W × Unit {0}

pub needs-session_mount : (W : World) → Holds W "session_mount" table-session_mount → b0.Needs-buffer W → b1.Needs-session_admission W → b2.Needs-volume_form W → b3.Needs-volume_tree W → b4.Needs-volume_write W → b5.Needs-log_form W → b6.Needs-log_slots W → b7.Needs-returned W → Needs-session_mount W
unfolding Needs-session_mount
needs-session_mount W h n0 n1 n2 n3 n4 n5 n6 n7 = (h, n0, n1, n2, n3, n4, n5, n6, n7, tt)

below : (W : World) → Needs-session_mount W → link.Below W
unfolding Needs-session_mount
below W n = (b0.linked-zero-clear W n.1, (b1.linked-lent-lengths_fit W n.2, (b2.linked-well_formed W n.3, (b3.linked-entries-is_lent W n.4, (b4.linked-format-copy_volume W n.5, (b4.linked-format-format_volume W n.5, tt))))))

pub linked-format : (W : World) → Needs-session_mount W → HasT (in_world W) true s-format.code
unfolding Needs-session_mount table-session_mount
linked-format W n = link.linked-session_mount::format W n.0 (below W n)

pub linked-mount : (W : World) → Needs-session_mount W → HasT (in_world W) true s-mount.code
unfolding Needs-session_mount table-session_mount
linked-mount W n = link.linked-session_mount::mount W n.0 (below W n)
