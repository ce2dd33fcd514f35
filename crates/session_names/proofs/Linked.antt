-- What a link of this crate and those below it needs, and that it finds the functions that other crates call.
use mathlib.Core.Bool.{true}
use prog.Linked.{Tree, World, Holds, in_world}
use prog.LinkedThreads.{HasT}
use Rattle.session_names.proofs.TheLink as link
use Rattle.names.proofs.Linked as b0
use Rattle.returned.proofs.Linked as b1
use Rattle.session_admission.proofs.Linked as b2
use Rattle.volume_tree.proofs.Linked as b3
use Rattle.volume_entry.proofs.Linked as b4
use Rattle.session_names.proofs.place.seek.Symbol as s-place-seek
use Rattle.session_names.proofs.text.lower_of.Symbol as s-text-lower_of
use Rattle.session_names.proofs.text.text_refusal.Symbol as s-text-text_refusal
pub use Rattle.session_admission.proofs.Linked.{table-buffer, Needs-buffer, needs-buffer, table-returned, Needs-returned, needs-returned, table-names, Needs-names, needs-names, table-volume_entry, Needs-volume_entry, needs-volume_entry, table-volume_tree, Needs-volume_tree, needs-volume_tree, table-record, Needs-record, needs-record, table-log_slots, Needs-log_slots, needs-log_slots, table-record_valid, Needs-record_valid, needs-record_valid, table-record_reader, Needs-record_reader, needs-record_reader, table-log_form, Needs-log_form, needs-log_form, table-volume_questions, Needs-volume_questions, needs-volume_questions, table-volume_unique, Needs-volume_unique, needs-volume_unique, table-volume_entry_form, Needs-volume_entry_form, needs-volume_entry_form, table-volume_form, Needs-volume_form, needs-volume_form, table-session_admission, Needs-session_admission, needs-session_admission}

-- the crate's table
pub table-session_names : Tree
table-session_names = link.table

-- a world that has it, and those of the crates below
pub Needs-session_names : World → Type 0
Needs-session_names W = Holds W "session_names" table-session_names × b0.Needs-names W × b1.Needs-returned W × b2.Needs-session_admission W × b3.Needs-volume_tree W × b4.Needs-volume_entry W × Unit {0}

pub needs-session_names : (W : World) → Holds W "session_names" table-session_names → b0.Needs-names W → b1.Needs-returned W → b2.Needs-session_admission W → b3.Needs-volume_tree W → b4.Needs-volume_entry W → Needs-session_names W
unfolding Needs-session_names
needs-session_names W h n0 n1 n2 n3 n4 = (h, n0, n1, n2, n3, n4, tt)

below : (W : World) → Needs-session_names W → link.Below W
unfolding Needs-session_names
below W n = (b0.linked-RefusalFromNameError-from W n.1, (b0.linked-name_text W n.1, (b1.linked-Refusal-rank W n.2, (b2.linked-object-directory_refusal W n.3, (b3.linked-search-search W n.4, tt)))))

pub linked-place-seek : (W : World) → Needs-session_names W → HasT (in_world W) true s-place-seek.code
unfolding Needs-session_names table-session_names
linked-place-seek W n = link.linked-session_names::place::seek W n.0 (below W n)

pub linked-text-lower_of : (W : World) → Needs-session_names W → HasT (in_world W) true s-text-lower_of.code
unfolding Needs-session_names table-session_names
linked-text-lower_of W n = link.linked-session_names::text::lower_of W n.0 (below W n)

pub linked-text-text_refusal : (W : World) → Needs-session_names W → HasT (in_world W) true s-text-text_refusal.code
unfolding Needs-session_names table-session_names
linked-text-text_refusal W n = link.linked-session_names::text::text_refusal W n.0 (below W n)
