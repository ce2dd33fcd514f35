-- What a link of this crate and those below it needs, and that it finds the functions that other crates call.
use mathlib.Core.Bool.{true}
use prog.Linked.{Tree, World, Holds, in_world}
use prog.LinkedThreads.{HasT}
use Rattle.session_take.proofs.TheLink as link
use Rattle.log_take.proofs.Linked as b0
use Rattle.session_admission.proofs.Linked as b1
use Rattle.session_losses.proofs.Linked as b2
use Rattle.log_find.proofs.Linked as b3
use Rattle.record.proofs.Linked as b4
use Rattle.buffer.proofs.Linked as b5
use Rattle.returned.proofs.Linked as b6
use Rattle.session_take.proofs.take.Symbol as s-take
pub use Rattle.session_losses.proofs.Linked.{table-buffer, Needs-buffer, needs-buffer, table-returned, Needs-returned, needs-returned, table-names, Needs-names, needs-names, table-volume_entry, Needs-volume_entry, needs-volume_entry, table-volume_tree, Needs-volume_tree, needs-volume_tree, table-record, Needs-record, needs-record, table-log_slots, Needs-log_slots, needs-log_slots, table-log_find, Needs-log_find, needs-log_find, table-session_losses, Needs-session_losses, needs-session_losses}
pub use Rattle.session_admission.proofs.Linked.{table-record_valid, Needs-record_valid, needs-record_valid, table-record_reader, Needs-record_reader, needs-record_reader, table-log_form, Needs-log_form, needs-log_form, table-volume_questions, Needs-volume_questions, needs-volume_questions, table-volume_unique, Needs-volume_unique, needs-volume_unique, table-volume_entry_form, Needs-volume_entry_form, needs-volume_entry_form, table-volume_form, Needs-volume_form, needs-volume_form, table-session_admission, Needs-session_admission, needs-session_admission}
pub use Rattle.log_take.proofs.Linked.{table-log_compact, Needs-log_compact, needs-log_compact, table-volume_applies, Needs-volume_applies, needs-volume_applies, table-log_take, Needs-log_take, needs-log_take}

-- the crate's table
pub table-session_take : Tree
table-session_take = link.table

-- a world that has it, and those of the crates below
pub Needs-session_take : World → Type 0
Needs-session_take W = Holds W "session_take" table-session_take × b0.Needs-log_take W × b1.Needs-session_admission W × b2.Needs-session_losses W × b3.Needs-log_find W × b4.Needs-record W × b5.Needs-buffer W × b6.Needs-returned W × Unit {0}

pub needs-session_take : (W : World) → Holds W "session_take" table-session_take → b0.Needs-log_take W → b1.Needs-session_admission W → b2.Needs-session_losses W → b3.Needs-log_find W → b4.Needs-record W → b5.Needs-buffer W → b6.Needs-returned W → Needs-session_take W
unfolding Needs-session_take
needs-session_take W h n0 n1 n2 n3 n4 n5 n6 = (h, n0, n1, n2, n3, n4, n5, n6, tt)

below : (W : World) → Needs-session_take W → link.Below W
unfolding Needs-session_take
below W n = (b0.linked-take W n.1, (b1.linked-lent-admit W n.2, (b1.linked-program-number_refusal W n.2, (b2.linked-loss_in W n.3, tt))))

pub linked-take : (W : World) → Needs-session_take W → HasT (in_world W) true s-take.code
unfolding Needs-session_take table-session_take
linked-take W n = link.linked-session_take::take W n.0 (below W n)
