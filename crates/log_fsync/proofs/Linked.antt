-- What a link of this crate and those below it needs, and that it finds the functions that other crates call.
use mathlib.Core.Bool.{true}
use prog.Linked.{Tree, World, Holds, in_world}
use prog.LinkedThreads.{HasT}
use Rattle.log_fsync.proofs.TheLink as link
use Rattle.log_dependence.proofs.Linked as b0
use Rattle.log_discard.proofs.Linked as b1
use Rattle.log_order.proofs.Linked as b2
use Rattle.log_push.proofs.Linked as b3
use Rattle.log_send.proofs.Linked as b4
use Rattle.log_slots.proofs.Linked as b5
use Rattle.log_touch.proofs.Linked as b6
use Rattle.volume_tree.proofs.Linked as b7
use Rattle.record.proofs.Linked as b8
use Rattle.returned.proofs.Linked as b9
use Rattle.log_fsync.proofs.sync_object.Symbol as s-sync_object
pub use Rattle.log_discard.proofs.Linked.{table-buffer, Needs-buffer, needs-buffer, table-returned, Needs-returned, needs-returned, table-names, Needs-names, needs-names, table-volume_entry, Needs-volume_entry, needs-volume_entry, table-volume_tree, Needs-volume_tree, needs-volume_tree, table-record, Needs-record, needs-record, table-log_slots, Needs-log_slots, needs-log_slots, table-log_discard, Needs-log_discard, needs-log_discard}
pub use Rattle.log_push.proofs.Linked.{table-record_valid, Needs-record_valid, needs-record_valid, table-record_reader, Needs-record_reader, needs-record_reader, table-volume_applies, Needs-volume_applies, needs-volume_applies, table-volume_write, Needs-volume_write, needs-volume_write, table-volume, Needs-volume, needs-volume, table-log_send, Needs-log_send, needs-log_send, table-log_compact, Needs-log_compact, needs-log_compact, table-log_push, Needs-log_push, needs-log_push}
pub use Rattle.log_order.proofs.Linked.{table-log_operands, Needs-log_operands, needs-log_operands, table-log_touch, Needs-log_touch, needs-log_touch, table-log_dependence, Needs-log_dependence, needs-log_dependence, table-log_order, Needs-log_order, needs-log_order}

-- the crate's table
pub table-log_fsync : Tree
table-log_fsync = link.table

-- a world that has it, and those of the crates below
pub Needs-log_fsync : World → Type 0
Needs-log_fsync W = Holds W "log_fsync" table-log_fsync × b0.Needs-log_dependence W × b1.Needs-log_discard W × b2.Needs-log_order W × b3.Needs-log_push W × b4.Needs-log_send W × b5.Needs-log_slots W × b6.Needs-log_touch W × b7.Needs-volume_tree W × b8.Needs-record W × b9.Needs-returned W × Unit {0}

pub needs-log_fsync : (W : World) → Holds W "log_fsync" table-log_fsync → b0.Needs-log_dependence W → b1.Needs-log_discard W → b2.Needs-log_order W → b3.Needs-log_push W → b4.Needs-log_send W → b5.Needs-log_slots W → b6.Needs-log_touch W → b7.Needs-volume_tree W → b8.Needs-record W → b9.Needs-returned W → Needs-log_fsync W
unfolding Needs-log_fsync
needs-log_fsync W h n0 n1 n2 n3 n4 n5 n6 n7 n8 n9 = (h, n0, n1, n2, n3, n4, n5, n6, n7, n8, n9, tt)

below : (W : World) → Needs-log_fsync W → link.Below W
unfolding Needs-log_fsync
below W n = (b0.linked-note W n.1, (b1.linked-discard W n.2, (b2.linked-needed W n.3, (b3.linked-free_sent W n.4, (b4.linked-send_found W n.5, (b5.linked-head-used W n.6, (b6.linked-set-one W n.7, tt)))))))

pub linked-sync_object : (W : World) → Needs-log_fsync W → HasT (in_world W) true s-sync_object.code
unfolding Needs-log_fsync table-log_fsync
linked-sync_object W n = link.linked-log_fsync::sync_object W n.0 (below W n)
