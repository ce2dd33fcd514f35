-- What a link of this crate and those below it needs, and that it finds the functions that other crates call.
use mathlib.Core.Bool.{true}
use prog.Linked.{Tree, World, Holds, in_world}
use prog.LinkedThreads.{HasT}
use Rattle.session_change.proofs.TheLink as link
use Rattle.session_admission.proofs.Linked as b0
use Rattle.log_draft.proofs.Linked as b1
use Rattle.volume_tree.proofs.Linked as b2
use Rattle.record.proofs.Linked as b3
use Rattle.returned.proofs.Linked as b4
use Rattle.session_change.proofs.accept_change.Symbol as s-accept_change
pub use Rattle.session_admission.proofs.Linked.{table-buffer, Needs-buffer, needs-buffer, table-returned, Needs-returned, needs-returned, table-names, Needs-names, needs-names, table-volume_entry, Needs-volume_entry, needs-volume_entry, table-volume_tree, Needs-volume_tree, needs-volume_tree, table-record, Needs-record, needs-record, table-log_slots, Needs-log_slots, needs-log_slots, table-record_valid, Needs-record_valid, needs-record_valid, table-record_reader, Needs-record_reader, needs-record_reader, table-log_form, Needs-log_form, needs-log_form, table-volume_questions, Needs-volume_questions, needs-volume_questions, table-volume_unique, Needs-volume_unique, needs-volume_unique, table-volume_entry_form, Needs-volume_entry_form, needs-volume_entry_form, table-volume_form, Needs-volume_form, needs-volume_form, table-session_admission, Needs-session_admission, needs-session_admission}
pub use Rattle.log_draft.proofs.Linked.{table-log_operands, Needs-log_operands, needs-log_operands, table-log_touch, Needs-log_touch, needs-log_touch, table-log_dependence, Needs-log_dependence, needs-log_dependence, table-volume_applies, Needs-volume_applies, needs-volume_applies, table-volume_write, Needs-volume_write, needs-volume_write, table-volume, Needs-volume, needs-volume, table-log_draft, Needs-log_draft, needs-log_draft}

-- the crate's table
pub table-session_change : Tree
table-session_change = link.table

-- a world that has it, and those of the crates below
pub Needs-session_change : World → Type 0
Needs-session_change W = Holds W "session_change" table-session_change × b0.Needs-session_admission W × b1.Needs-log_draft W × b2.Needs-volume_tree W × b3.Needs-record W × b4.Needs-returned W × Unit {0}

pub needs-session_change : (W : World) → Holds W "session_change" table-session_change → b0.Needs-session_admission W → b1.Needs-log_draft W → b2.Needs-volume_tree W → b3.Needs-record W → b4.Needs-returned W → Needs-session_change W
unfolding Needs-session_change
needs-session_change W h n0 n1 n2 n3 n4 = (h, n0, n1, n2, n3, n4, tt)

below : (W : World) → Needs-session_change W → link.Below W
unfolding Needs-session_change
below W n = (b0.linked-program-program_refusal W n.1, (b0.linked-room-room_refusal W n.1, tt))

pub linked-accept_change : (W : World) → Needs-session_change W → HasT (in_world W) true s-accept_change.code
unfolding Needs-session_change table-session_change
linked-accept_change W n = link.linked-session_change::accept_change W n.0 (below W n)
