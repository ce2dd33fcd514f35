-- What a link of this crate and those below it needs, and that it finds the functions that other crates call.
use mathlib.Core.Bool.{true}
use prog.Linked.{Tree, World, Holds, in_world}
use prog.LinkedThreads.{HasT}
use Rattle.session_cut.proofs.TheLink as link
use Rattle.log_discard.proofs.Linked as b0
use Rattle.session_admission.proofs.Linked as b1
use Rattle.volume_write.proofs.Linked as b2
use Rattle.returned.proofs.Linked as b3
use Rattle.session_cut.proofs.cut.Symbol as s-cut
pub use Rattle.session_admission.proofs.Linked.{table-buffer, Needs-buffer, needs-buffer, table-returned, Needs-returned, needs-returned, table-names, Needs-names, needs-names, table-volume_entry, Needs-volume_entry, needs-volume_entry, table-volume_tree, Needs-volume_tree, needs-volume_tree, table-record, Needs-record, needs-record, table-log_slots, Needs-log_slots, needs-log_slots, table-record_valid, Needs-record_valid, needs-record_valid, table-record_reader, Needs-record_reader, needs-record_reader, table-log_form, Needs-log_form, needs-log_form, table-volume_questions, Needs-volume_questions, needs-volume_questions, table-volume_unique, Needs-volume_unique, needs-volume_unique, table-volume_entry_form, Needs-volume_entry_form, needs-volume_entry_form, table-volume_form, Needs-volume_form, needs-volume_form, table-session_admission, Needs-session_admission, needs-session_admission}
pub use Rattle.log_discard.proofs.Linked.{table-log_discard, Needs-log_discard, needs-log_discard}
pub use Rattle.volume_write.proofs.Linked.{table-volume_write, Needs-volume_write, needs-volume_write}

-- the crate's table
pub table-session_cut : Tree
table-session_cut = link.table

-- a world that has it, and those of the crates below
pub Needs-session_cut : World → Type 0
Needs-session_cut W = Holds W "session_cut" table-session_cut × b0.Needs-log_discard W × b1.Needs-session_admission W × b2.Needs-volume_write W × b3.Needs-returned W × Unit {0}

pub needs-session_cut : (W : World) → Holds W "session_cut" table-session_cut → b0.Needs-log_discard W → b1.Needs-session_admission W → b2.Needs-volume_write W → b3.Needs-returned W → Needs-session_cut W
unfolding Needs-session_cut
needs-session_cut W h n0 n1 n2 n3 = (h, n0, n1, n2, n3, tt)

below : (W : World) → Needs-session_cut W → link.Below W
unfolding Needs-session_cut
below W n = (b0.linked-discard W n.1, (b1.linked-lent-admit W n.2, (b2.linked-format-copy_volume W n.3, tt)))

pub linked-cut : (W : World) → Needs-session_cut W → HasT (in_world W) true s-cut.code
unfolding Needs-session_cut table-session_cut
linked-cut W n = link.linked-session_cut::cut W n.0 (below W n)
