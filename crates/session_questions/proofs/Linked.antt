-- What a link of this crate and those below it needs, and that it finds the functions that other crates call.
use mathlib.Core.Bool.{true}
use prog.Linked.{Tree, World, Holds, in_world}
use prog.LinkedThreads.{HasT}
use Rattle.session_questions.proofs.TheLink as link
use Rattle.log_dependence.proofs.Linked as b0
use Rattle.log_touch.proofs.Linked as b1
use Rattle.session_admission.proofs.Linked as b2
use Rattle.volume_questions.proofs.Linked as b3
use Rattle.volume_tree.proofs.Linked as b4
use Rattle.returned.proofs.Linked as b5
use Rattle.session_questions.proofs.first_refusal.Symbol as s-first_refusal
use Rattle.session_questions.proofs.note_object.Symbol as s-note_object
pub use Rattle.session_admission.proofs.Linked.{table-buffer, Needs-buffer, needs-buffer, table-returned, Needs-returned, needs-returned, table-names, Needs-names, needs-names, table-volume_entry, Needs-volume_entry, needs-volume_entry, table-volume_tree, Needs-volume_tree, needs-volume_tree, table-record, Needs-record, needs-record, table-log_slots, Needs-log_slots, needs-log_slots, table-record_valid, Needs-record_valid, needs-record_valid, table-record_reader, Needs-record_reader, needs-record_reader, table-log_form, Needs-log_form, needs-log_form, table-volume_questions, Needs-volume_questions, needs-volume_questions, table-volume_unique, Needs-volume_unique, needs-volume_unique, table-volume_entry_form, Needs-volume_entry_form, needs-volume_entry_form, table-volume_form, Needs-volume_form, needs-volume_form, table-session_admission, Needs-session_admission, needs-session_admission}
pub use Rattle.log_dependence.proofs.Linked.{table-log_operands, Needs-log_operands, needs-log_operands, table-log_touch, Needs-log_touch, needs-log_touch, table-log_dependence, Needs-log_dependence, needs-log_dependence}

-- the crate's table
pub table-session_questions : Tree
table-session_questions = link.table

-- a world that has it, and those of the crates below
pub Needs-session_questions : World → Type 0
Needs-session_questions W = Holds W "session_questions" table-session_questions × b0.Needs-log_dependence W × b1.Needs-log_touch W × b2.Needs-session_admission W × b3.Needs-volume_questions W × b4.Needs-volume_tree W × b5.Needs-returned W × Unit {0}

pub needs-session_questions : (W : World) → Holds W "session_questions" table-session_questions → b0.Needs-log_dependence W → b1.Needs-log_touch W → b2.Needs-session_admission W → b3.Needs-volume_questions W → b4.Needs-volume_tree W → b5.Needs-returned W → Needs-session_questions W
unfolding Needs-session_questions
needs-session_questions W h n0 n1 n2 n3 n4 n5 = (h, n0, n1, n2, n3, n4, n5, tt)

below : (W : World) → Needs-session_questions W → link.Below W
unfolding Needs-session_questions
below W n = (b0.linked-note W n.1, (b1.linked-set-one W n.2, (b2.linked-lent-admit W n.3, (b2.linked-program-program_refusal W n.3, tt))))

pub linked-first_refusal : (W : World) → Needs-session_questions W → HasT (in_world W) true s-first_refusal.code
unfolding Needs-session_questions table-session_questions
linked-first_refusal W n = link.linked-session_questions::first_refusal W n.0 (below W n)

pub linked-note_object : (W : World) → Needs-session_questions W → HasT (in_world W) true s-note_object.code
unfolding Needs-session_questions table-session_questions
linked-note_object W n = link.linked-session_questions::note_object W n.0 (below W n)
