-- What a link of this crate and those below it needs, and that it finds the functions that other crates call.
use mathlib.Core.Bool.{true}
use prog.Linked.{Tree, World, Holds, in_world}
use prog.LinkedThreads.{HasT}
use Rattle.log_order.proofs.TheLink as link
use Rattle.buffer.proofs.Linked as b0
use Rattle.log_operands.proofs.Linked as b1
use Rattle.log_slots.proofs.Linked as b2
use Rattle.log_touch.proofs.Linked as b3
use Rattle.log_dependence.proofs.Linked as b4
use Rattle.volume_tree.proofs.Linked as b5
use Rattle.record.proofs.Linked as b6
use Rattle.log_order.proofs.is_preceded.Symbol as s-is_preceded
use Rattle.log_order.proofs.needed.Symbol as s-needed
pub use Rattle.log_dependence.proofs.Linked.{table-buffer, Needs-buffer, needs-buffer, table-returned, Needs-returned, needs-returned, table-names, Needs-names, needs-names, table-record, Needs-record, needs-record, table-record_valid, Needs-record_valid, needs-record_valid, table-record_reader, Needs-record_reader, needs-record_reader, table-log_operands, Needs-log_operands, needs-log_operands, table-log_touch, Needs-log_touch, needs-log_touch, table-volume_entry, Needs-volume_entry, needs-volume_entry, table-volume_tree, Needs-volume_tree, needs-volume_tree, table-log_slots, Needs-log_slots, needs-log_slots, table-log_dependence, Needs-log_dependence, needs-log_dependence}

-- the crate's table
pub table-log_order : Tree
table-log_order = link.table

-- a world that has it, and those of the crates below
pub Needs-log_order : World → Type 0
Needs-log_order W = Holds W "log_order" table-log_order × b0.Needs-buffer W × b1.Needs-log_operands W × b2.Needs-log_slots W × b3.Needs-log_touch W × b4.Needs-log_dependence W × b5.Needs-volume_tree W × b6.Needs-record W × Unit {0}

pub needs-log_order : (W : World) → Holds W "log_order" table-log_order → b0.Needs-buffer W → b1.Needs-log_operands W → b2.Needs-log_slots W → b3.Needs-log_touch W → b4.Needs-log_dependence W → b5.Needs-volume_tree W → b6.Needs-record W → Needs-log_order W
unfolding Needs-log_order
needs-log_order W h n0 n1 n2 n3 n4 n5 n6 = (h, n0, n1, n2, n3, n4, n5, n6, tt)

below : (W : World) → Needs-log_order W → link.Below W
unfolding Needs-log_order
below W n = (b0.linked-zero-clear W n.1, (b1.linked-order_of W n.2, (b2.linked-slot-recorded W n.3, (b2.linked-slot-waits W n.3, (b3.linked-directly_precedes W n.4, (b3.linked-set-add W n.4, (b3.linked-set-none W n.4, (b3.linked-set-one W n.4, (b3.linked-set-shares_any W n.4, tt)))))))))

pub linked-is_preceded : (W : World) → Needs-log_order W → HasT (in_world W) true s-is_preceded.code
unfolding Needs-log_order table-log_order
linked-is_preceded W n = link.linked-log_order::is_preceded W n.0 (below W n)

pub linked-needed : (W : World) → Needs-log_order W → HasT (in_world W) true s-needed.code
unfolding Needs-log_order table-log_order
linked-needed W n = link.linked-log_order::needed W n.0 (below W n)
