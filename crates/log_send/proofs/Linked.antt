-- What a link of this crate and those below it needs, and that it finds the functions that other crates call.
use mathlib.Core.Bool.{true}
use prog.Linked.{Tree, World, Holds, in_world}
use prog.LinkedThreads.{HasT}
use Rattle.log_send.proofs.TheLink as link
use Rattle.log_slots.proofs.Linked as b0
use Rattle.record_reader.proofs.Linked as b1
use Rattle.volume.proofs.Linked as b2
use Rattle.volume_applies.proofs.Linked as b3
use Rattle.volume_tree.proofs.Linked as b4
use Rattle.volume_entry.proofs.Linked as b5
use Rattle.record.proofs.Linked as b6
use Rattle.log_send.proofs.send_found.Symbol as s-send_found
use Rattle.log_send.proofs.send_slot.Symbol as s-send_slot
pub use Rattle.log_slots.proofs.Linked.{table-buffer, Needs-buffer, needs-buffer, table-returned, Needs-returned, needs-returned, table-names, Needs-names, needs-names, table-volume_entry, Needs-volume_entry, needs-volume_entry, table-volume_tree, Needs-volume_tree, needs-volume_tree, table-record, Needs-record, needs-record, table-log_slots, Needs-log_slots, needs-log_slots}
pub use Rattle.volume.proofs.Linked.{table-record_valid, Needs-record_valid, needs-record_valid, table-record_reader, Needs-record_reader, needs-record_reader, table-volume_applies, Needs-volume_applies, needs-volume_applies, table-volume_write, Needs-volume_write, needs-volume_write, table-volume, Needs-volume, needs-volume}

-- the crate's table
pub table-log_send : Tree
table-log_send = link.table

-- a world that has it, and those of the crates below
pub Needs-log_send : World → Type 0
Needs-log_send W = Holds W "log_send" table-log_send × b0.Needs-log_slots W × b1.Needs-record_reader W × b2.Needs-volume W × b3.Needs-volume_applies W × b4.Needs-volume_tree W × b5.Needs-volume_entry W × b6.Needs-record W × Unit {0}

pub needs-log_send : (W : World) → Holds W "log_send" table-log_send → b0.Needs-log_slots W → b1.Needs-record_reader W → b2.Needs-volume W → b3.Needs-volume_applies W → b4.Needs-volume_tree W → b5.Needs-volume_entry W → b6.Needs-record W → Needs-log_send W
unfolding Needs-log_send
needs-log_send W h n0 n1 n2 n3 n4 n5 n6 = (h, n0, n1, n2, n3, n4, n5, n6, tt)

below : (W : World) → Needs-log_send W → link.Below W
unfolding Needs-log_send
below W n = (b0.linked-slot-recorded W n.1, (b1.linked-read_record W n.2, (b2.linked-apply-apply W n.3, (b3.linked-applies-applies W n.4, tt))))

pub linked-send_found : (W : World) → Needs-log_send W → HasT (in_world W) true s-send_found.code
unfolding Needs-log_send table-log_send
linked-send_found W n = link.linked-log_send::send_found W n.0 (below W n)

pub linked-send_slot : (W : World) → Needs-log_send W → HasT (in_world W) true s-send_slot.code
unfolding Needs-log_send table-log_send
linked-send_slot W n = link.linked-log_send::send_slot W n.0 (below W n)
