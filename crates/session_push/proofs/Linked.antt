-- What a link of this crate and those below it needs, and that it finds the functions that other crates call.
use mathlib.Core.Bool.{true}
use prog.Linked.{Tree, World, Holds, in_world}
use prog.LinkedThreads.{HasT}
use Rattle.session_push.proofs.TheLink as link
use Rattle.log_find.proofs.Linked as b0
use Rattle.log_order.proofs.Linked as b1
use Rattle.log_push.proofs.Linked as b2
use Rattle.log_slots.proofs.Linked as b3
use Rattle.session_admission.proofs.Linked as b4
use Rattle.volume_tree.proofs.Linked as b5
use Rattle.record.proofs.Linked as b6
use Rattle.returned.proofs.Linked as b7
use Rattle.session_push.proofs.push.Symbol as s-push
pub use Rattle.session_admission.proofs.Linked.{table-buffer, Needs-buffer, needs-buffer, table-returned, Needs-returned, needs-returned, table-names, Needs-names, needs-names, table-volume_entry, Needs-volume_entry, needs-volume_entry, table-volume_tree, Needs-volume_tree, needs-volume_tree, table-record, Needs-record, needs-record, table-log_slots, Needs-log_slots, needs-log_slots, table-record_valid, Needs-record_valid, needs-record_valid, table-record_reader, Needs-record_reader, needs-record_reader, table-log_form, Needs-log_form, needs-log_form, table-volume_questions, Needs-volume_questions, needs-volume_questions, table-volume_unique, Needs-volume_unique, needs-volume_unique, table-volume_entry_form, Needs-volume_entry_form, needs-volume_entry_form, table-volume_form, Needs-volume_form, needs-volume_form, table-session_admission, Needs-session_admission, needs-session_admission}
pub use Rattle.log_find.proofs.Linked.{table-log_find, Needs-log_find, needs-log_find}
pub use Rattle.log_push.proofs.Linked.{table-volume_applies, Needs-volume_applies, needs-volume_applies, table-volume_write, Needs-volume_write, needs-volume_write, table-volume, Needs-volume, needs-volume, table-log_send, Needs-log_send, needs-log_send, table-log_compact, Needs-log_compact, needs-log_compact, table-log_push, Needs-log_push, needs-log_push}
pub use Rattle.log_order.proofs.Linked.{table-log_operands, Needs-log_operands, needs-log_operands, table-log_touch, Needs-log_touch, needs-log_touch, table-log_dependence, Needs-log_dependence, needs-log_dependence, table-log_order, Needs-log_order, needs-log_order}

-- the crate's table
pub table-session_push : Tree
table-session_push = link.table

-- a world that has it, and those of the crates below
pub Needs-session_push : World → Type 0
Needs-session_push W = Holds W "session_push" table-session_push × b0.Needs-log_find W × b1.Needs-log_order W × b2.Needs-log_push W × b3.Needs-log_slots W × b4.Needs-session_admission W × b5.Needs-volume_tree W × b6.Needs-record W × b7.Needs-returned W × Unit {0}

pub needs-session_push : (W : World) → Holds W "session_push" table-session_push → b0.Needs-log_find W → b1.Needs-log_order W → b2.Needs-log_push W → b3.Needs-log_slots W → b4.Needs-session_admission W → b5.Needs-volume_tree W → b6.Needs-record W → b7.Needs-returned W → Needs-session_push W
unfolding Needs-session_push
needs-session_push W h n0 n1 n2 n3 n4 n5 n6 n7 = (h, n0, n1, n2, n3, n4, n5, n6, n7, tt)

below : (W : World) → Needs-session_push W → link.Below W
unfolding Needs-session_push
below W n = (b0.linked-waiting_at W n.1, (b1.linked-is_preceded W n.2, (b2.linked-push W n.3, (b3.linked-head-used W n.4, (b4.linked-lent-admit W n.5, tt)))))

pub linked-push : (W : World) → Needs-session_push W → HasT (in_world W) true s-push.code
unfolding Needs-session_push table-session_push
linked-push W n = link.linked-session_push::push W n.0 (below W n)
