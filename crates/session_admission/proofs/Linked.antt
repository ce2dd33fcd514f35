-- What a link of this crate and those below it needs, and that it finds the functions that other crates call.
use mathlib.Core.Bool.{true}
use prog.Linked.{Tree, World, Holds, in_world}
use prog.LinkedThreads.{HasT}
use Rattle.session_admission.proofs.TheLink as link
use Rattle.log_form.proofs.Linked as b0
use Rattle.log_slots.proofs.Linked as b1
use Rattle.volume_form.proofs.Linked as b2
use Rattle.volume_questions.proofs.Linked as b3
use Rattle.volume_tree.proofs.Linked as b4
use Rattle.volume_entry.proofs.Linked as b5
use Rattle.buffer.proofs.Linked as b6
use Rattle.returned.proofs.Linked as b7
use Rattle.session_admission.proofs.lent.admit.Symbol as s-lent-admit
use Rattle.session_admission.proofs.lent.lengths_fit.Symbol as s-lent-lengths_fit
use Rattle.session_admission.proofs.object.directory_refusal.Symbol as s-object-directory_refusal
use Rattle.session_admission.proofs.object.file_refusal.Symbol as s-object-file_refusal
use Rattle.session_admission.proofs.object.object_refusal.Symbol as s-object-object_refusal
use Rattle.session_admission.proofs.program.number_refusal.Symbol as s-program-number_refusal
use Rattle.session_admission.proofs.program.program_refusal.Symbol as s-program-program_refusal
use Rattle.session_admission.proofs.room.room_refusal.Symbol as s-room-room_refusal
pub use Rattle.log_form.proofs.Linked.{table-buffer, Needs-buffer, needs-buffer, table-returned, Needs-returned, needs-returned, table-names, Needs-names, needs-names, table-volume_entry, Needs-volume_entry, needs-volume_entry, table-volume_tree, Needs-volume_tree, needs-volume_tree, table-record, Needs-record, needs-record, table-log_slots, Needs-log_slots, needs-log_slots, table-record_valid, Needs-record_valid, needs-record_valid, table-record_reader, Needs-record_reader, needs-record_reader, table-log_form, Needs-log_form, needs-log_form}
pub use Rattle.volume_questions.proofs.Linked.{table-volume_questions, Needs-volume_questions, needs-volume_questions}
pub use Rattle.volume_form.proofs.Linked.{table-volume_unique, Needs-volume_unique, needs-volume_unique, table-volume_entry_form, Needs-volume_entry_form, needs-volume_entry_form, table-volume_form, Needs-volume_form, needs-volume_form}

-- the crate's table
pub table-session_admission : Tree
table-session_admission = link.table

-- a world that has it, and those of the crates below
pub Needs-session_admission : World → Type 0
Needs-session_admission W = Holds W "session_admission" table-session_admission × b0.Needs-log_form W × b1.Needs-log_slots W × b2.Needs-volume_form W × b3.Needs-volume_questions W × b4.Needs-volume_tree W × b5.Needs-volume_entry W × b6.Needs-buffer W × b7.Needs-returned W × Unit {0}

pub needs-session_admission : (W : World) → Holds W "session_admission" table-session_admission → b0.Needs-log_form W → b1.Needs-log_slots W → b2.Needs-volume_form W → b3.Needs-volume_questions W → b4.Needs-volume_tree W → b5.Needs-volume_entry W → b6.Needs-buffer W → b7.Needs-returned W → Needs-session_admission W
unfolding Needs-session_admission
needs-session_admission W h n0 n1 n2 n3 n4 n5 n6 n7 = (h, n0, n1, n2, n3, n4, n5, n6, n7, tt)

below : (W : World) → Needs-session_admission W → link.Below W
unfolding Needs-session_admission
below W n = (b0.linked-is_lent W n.1, (b0.linked-log_formed W n.1, (b1.linked-head-is_marked W n.2, (b1.linked-head-next_number W n.2, (b1.linked-head-used W n.2, (b2.linked-well_formed W n.3, (b3.linked-object-object_at W n.4, (b4.linked-entries-is_lent W n.5, tt))))))))

pub linked-lent-admit : (W : World) → Needs-session_admission W → HasT (in_world W) true s-lent-admit.code
unfolding Needs-session_admission table-session_admission
linked-lent-admit W n = link.linked-session_admission::lent::admit W n.0 (below W n)

pub linked-lent-lengths_fit : (W : World) → Needs-session_admission W → HasT (in_world W) true s-lent-lengths_fit.code
unfolding Needs-session_admission table-session_admission
linked-lent-lengths_fit W n = link.linked-session_admission::lent::lengths_fit W n.0 (below W n)

pub linked-object-directory_refusal : (W : World) → Needs-session_admission W → HasT (in_world W) true s-object-directory_refusal.code
unfolding Needs-session_admission table-session_admission
linked-object-directory_refusal W n = link.linked-session_admission::object::directory_refusal W n.0 (below W n)

pub linked-object-file_refusal : (W : World) → Needs-session_admission W → HasT (in_world W) true s-object-file_refusal.code
unfolding Needs-session_admission table-session_admission
linked-object-file_refusal W n = link.linked-session_admission::object::file_refusal W n.0 (below W n)

pub linked-object-object_refusal : (W : World) → Needs-session_admission W → HasT (in_world W) true s-object-object_refusal.code
unfolding Needs-session_admission table-session_admission
linked-object-object_refusal W n = link.linked-session_admission::object::object_refusal W n.0 (below W n)

pub linked-program-number_refusal : (W : World) → Needs-session_admission W → HasT (in_world W) true s-program-number_refusal.code
unfolding Needs-session_admission table-session_admission
linked-program-number_refusal W n = link.linked-session_admission::program::number_refusal W n.0 (below W n)

pub linked-program-program_refusal : (W : World) → Needs-session_admission W → HasT (in_world W) true s-program-program_refusal.code
unfolding Needs-session_admission table-session_admission
linked-program-program_refusal W n = link.linked-session_admission::program::program_refusal W n.0 (below W n)

pub linked-room-room_refusal : (W : World) → Needs-session_admission W → HasT (in_world W) true s-room-room_refusal.code
unfolding Needs-session_admission table-session_admission
linked-room-room_refusal W n = link.linked-session_admission::room::room_refusal W n.0 (below W n)
