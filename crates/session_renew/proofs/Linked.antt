-- What a link of this crate and those below it needs, and that it finds the functions that other crates call.
use mathlib.Core.Bool.{true}
use prog.Linked.{Tree, World, Holds, in_world}
use prog.LinkedThreads.{HasT}
use Rattle.session_renew.proofs.TheLink as link
use Rattle.log_take.proofs.Linked as b0
use Rattle.session_admission.proofs.Linked as b1
use Rattle.session_losses.proofs.Linked as b2
use Rattle.log_find.proofs.Linked as b3
use Rattle.record.proofs.Linked as b4
use Rattle.returned.proofs.Linked as b5
use Rattle.session_renew.proofs.renew.Symbol as s-renew
pub use Rattle.session_losses.proofs.Linked.{table-buffer, Needs-buffer, needs-buffer, table-returned, Needs-returned, needs-returned, table-names, Needs-names, needs-names, table-volume_entry, Needs-volume_entry, needs-volume_entry, table-volume_tree, Needs-volume_tree, needs-volume_tree, table-record, Needs-record, needs-record, table-log_slots, Needs-log_slots, needs-log_slots, table-log_find, Needs-log_find, needs-log_find, table-session_losses, Needs-session_losses, needs-session_losses}
pub use Rattle.session_admission.proofs.Linked.{table-record_valid, Needs-record_valid, needs-record_valid, table-record_reader, Needs-record_reader, needs-record_reader, table-log_form, Needs-log_form, needs-log_form, table-volume_questions, Needs-volume_questions, needs-volume_questions, table-volume_unique, Needs-volume_unique, needs-volume_unique, table-volume_entry_form, Needs-volume_entry_form, needs-volume_entry_form, table-volume_form, Needs-volume_form, needs-volume_form, table-session_admission, Needs-session_admission, needs-session_admission}
pub use Rattle.log_take.proofs.Linked.{table-log_compact, Needs-log_compact, needs-log_compact, table-volume_applies, Needs-volume_applies, needs-volume_applies, table-log_take, Needs-log_take, needs-log_take}

-- the crate's table
pub table-session_renew : Tree
table-session_renew = link.table

-- a world that has it, and those of the crates below
pub Needs-session_renew : World → Type 0
Needs-session_renew W = Holds W "session_renew" table-session_renew × b0.Needs-log_take W × b1.Needs-session_admission W × b2.Needs-session_losses W × b3.Needs-log_find W × b4.Needs-record W × b5.Needs-returned W × Unit {0}

pub needs-session_renew : (W : World) → Holds W "session_renew" table-session_renew → b0.Needs-log_take W → b1.Needs-session_admission W → b2.Needs-session_losses W → b3.Needs-log_find W → b4.Needs-record W → b5.Needs-returned W → Needs-session_renew W
unfolding Needs-session_renew
needs-session_renew W h n0 n1 n2 n3 n4 n5 = (h, n0, n1, n2, n3, n4, n5, tt)

below : (W : World) → Needs-session_renew W → link.Below W
unfolding Needs-session_renew
below W n = (b0.linked-renew W n.1, (b1.linked-lent-admit W n.2, (b1.linked-program-number_refusal W n.2, (b2.linked-loss_in W n.3, tt))))

pub linked-renew : (W : World) → Needs-session_renew W → HasT (in_world W) true s-renew.code
unfolding Needs-session_renew table-session_renew
linked-renew W n = link.linked-session_renew::renew W n.0 (below W n)
