-- What a link of this crate and those below it needs, and that it finds the functions that other crates call.
use mathlib.Core.Bool.{true}
use prog.Linked.{Tree, World, Holds, in_world}
use prog.LinkedThreads.{HasT}
use Rattle.session_lookup.proofs.TheLink as link
use Rattle.log_dependence.proofs.Linked as b0
use Rattle.session_questions.proofs.Linked as b1
use Rattle.volume_lookup.proofs.Linked as b2
use Rattle.volume_tree.proofs.Linked as b3
use Rattle.record.proofs.Linked as b4
use Rattle.buffer.proofs.Linked as b5
use Rattle.paths.proofs.Linked as b6
use Rattle.returned.proofs.Linked as b7
use Rattle.session_lookup.proofs.lookup.Symbol as s-lookup
pub use Rattle.session_questions.proofs.Linked.{table-buffer, Needs-buffer, needs-buffer, table-returned, Needs-returned, needs-returned, table-names, Needs-names, needs-names, table-volume_entry, Needs-volume_entry, needs-volume_entry, table-volume_tree, Needs-volume_tree, needs-volume_tree, table-record, Needs-record, needs-record, table-log_slots, Needs-log_slots, needs-log_slots, table-record_valid, Needs-record_valid, needs-record_valid, table-record_reader, Needs-record_reader, needs-record_reader, table-log_form, Needs-log_form, needs-log_form, table-volume_questions, Needs-volume_questions, needs-volume_questions, table-volume_unique, Needs-volume_unique, needs-volume_unique, table-volume_entry_form, Needs-volume_entry_form, needs-volume_entry_form, table-volume_form, Needs-volume_form, needs-volume_form, table-session_admission, Needs-session_admission, needs-session_admission, table-log_operands, Needs-log_operands, needs-log_operands, table-log_touch, Needs-log_touch, needs-log_touch, table-log_dependence, Needs-log_dependence, needs-log_dependence, table-session_questions, Needs-session_questions, needs-session_questions}
pub use Rattle.volume_lookup.proofs.Linked.{table-paths, Needs-paths, needs-paths, table-volume_lookup, Needs-volume_lookup, needs-volume_lookup}

-- the crate's table
pub table-session_lookup : Tree
table-session_lookup = link.table

-- a world that has it, and those of the crates below
pub Needs-session_lookup : World → Type 0
Needs-session_lookup W = Holds W "session_lookup" table-session_lookup × b0.Needs-log_dependence W × b1.Needs-session_questions W × b2.Needs-volume_lookup W × b3.Needs-volume_tree W × b4.Needs-record W × b5.Needs-buffer W × b6.Needs-paths W × b7.Needs-returned W × Unit {0}

pub needs-session_lookup : (W : World) → Holds W "session_lookup" table-session_lookup → b0.Needs-log_dependence W → b1.Needs-session_questions W → b2.Needs-volume_lookup W → b3.Needs-volume_tree W → b4.Needs-record W → b5.Needs-buffer W → b6.Needs-paths W → b7.Needs-returned W → Needs-session_lookup W
unfolding Needs-session_lookup
needs-session_lookup W h n0 n1 n2 n3 n4 n5 n6 n7 = (h, n0, n1, n2, n3, n4, n5, n6, n7, tt)

below : (W : World) → Needs-session_lookup W → link.Below W
unfolding Needs-session_lookup
below W n = (b0.linked-note W n.1, (b1.linked-first_refusal W n.2, (b2.linked-lookup-RefusalFromLookupError-from W n.3, (b2.linked-lookup-lookup W n.3, tt))))

pub linked-lookup : (W : World) → Needs-session_lookup W → HasT (in_world W) true s-lookup.code
unfolding Needs-session_lookup table-session_lookup
linked-lookup W n = link.linked-session_lookup::lookup W n.0 (below W n)
