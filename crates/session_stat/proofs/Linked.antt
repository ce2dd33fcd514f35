-- What a link of this crate and those below it needs, and that it finds the functions that other crates call.
use mathlib.Core.Bool.{true}
use prog.Linked.{Tree, World, Holds, in_world}
use prog.LinkedThreads.{HasT}
use Rattle.session_stat.proofs.TheLink as link
use Rattle.returned.proofs.Linked as b0
use Rattle.session_questions.proofs.Linked as b1
use Rattle.volume_questions.proofs.Linked as b2
use Rattle.volume_tree.proofs.Linked as b3
use Rattle.session_stat.proofs.stat.Symbol as s-stat
use Rattle.session_stat.proofs.status_of.Symbol as s-status_of
pub use Rattle.session_questions.proofs.Linked.{table-buffer, Needs-buffer, needs-buffer, table-returned, Needs-returned, needs-returned, table-names, Needs-names, needs-names, table-volume_entry, Needs-volume_entry, needs-volume_entry, table-volume_tree, Needs-volume_tree, needs-volume_tree, table-record, Needs-record, needs-record, table-log_slots, Needs-log_slots, needs-log_slots, table-record_valid, Needs-record_valid, needs-record_valid, table-record_reader, Needs-record_reader, needs-record_reader, table-log_form, Needs-log_form, needs-log_form, table-volume_questions, Needs-volume_questions, needs-volume_questions, table-volume_unique, Needs-volume_unique, needs-volume_unique, table-volume_entry_form, Needs-volume_entry_form, needs-volume_entry_form, table-volume_form, Needs-volume_form, needs-volume_form, table-session_admission, Needs-session_admission, needs-session_admission, table-log_operands, Needs-log_operands, needs-log_operands, table-log_touch, Needs-log_touch, needs-log_touch, table-log_dependence, Needs-log_dependence, needs-log_dependence, table-session_questions, Needs-session_questions, needs-session_questions}

-- the crate's table
pub table-session_stat : Tree
table-session_stat = link.table

-- a world that has it, and those of the crates below
pub Needs-session_stat : World → Type 0
Needs-session_stat W = Holds W "session_stat" table-session_stat × b0.Needs-returned W × b1.Needs-session_questions W × b2.Needs-volume_questions W × b3.Needs-volume_tree W × Unit {0}

pub needs-session_stat : (W : World) → Holds W "session_stat" table-session_stat → b0.Needs-returned W → b1.Needs-session_questions W → b2.Needs-volume_questions W → b3.Needs-volume_tree W → Needs-session_stat W
unfolding Needs-session_stat
needs-session_stat W h n0 n1 n2 n3 = (h, n0, n1, n2, n3, tt)

below : (W : World) → Needs-session_stat W → link.Below W
unfolding Needs-session_stat
below W n = (b0.linked-Refusal-number W n.1, (b0.linked-Status-of W n.1, (b0.linked-Status-refused W n.1, (b1.linked-first_refusal W n.2, (b1.linked-note_object W n.2, (b2.linked-object-RefusalFromObjectError-from W n.3, (b2.linked-object-stat_of W n.3, tt)))))))

pub linked-stat : (W : World) → Needs-session_stat W → HasT (in_world W) true s-stat.code
unfolding Needs-session_stat table-session_stat
linked-stat W n = link.linked-session_stat::stat W n.0 (below W n)

pub linked-status_of : (W : World) → Needs-session_stat W → HasT (in_world W) true s-status_of.code
unfolding Needs-session_stat table-session_stat
linked-status_of W n = link.linked-session_stat::status_of W n.0 (below W n)
