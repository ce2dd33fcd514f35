-- What a link of this crate and those below it needs, and that it finds the functions that other crates call.
use mathlib.Core.Bool.{true}
use prog.Linked.{Tree, World, Holds, in_world}
use prog.LinkedThreads.{HasT}
use Rattle.log_dependence.proofs.TheLink as link
use Rattle.log_operands.proofs.Linked as b0
use Rattle.log_slots.proofs.Linked as b1
use Rattle.log_touch.proofs.Linked as b2
use Rattle.volume_tree.proofs.Linked as b3
use Rattle.volume_entry.proofs.Linked as b4
use Rattle.record.proofs.Linked as b5
use Rattle.log_dependence.proofs.note.Symbol as s-note
use Rattle.log_dependence.proofs.note_slots.Symbol as s-note_slots
pub use Rattle.log_touch.proofs.Linked.{table-buffer, Needs-buffer, needs-buffer, table-returned, Needs-returned, needs-returned, table-names, Needs-names, needs-names, table-record, Needs-record, needs-record, table-record_valid, Needs-record_valid, needs-record_valid, table-record_reader, Needs-record_reader, needs-record_reader, table-log_operands, Needs-log_operands, needs-log_operands, table-log_touch, Needs-log_touch, needs-log_touch}
pub use Rattle.log_slots.proofs.Linked.{table-volume_entry, Needs-volume_entry, needs-volume_entry, table-volume_tree, Needs-volume_tree, needs-volume_tree, table-log_slots, Needs-log_slots, needs-log_slots}

-- the crate's table
pub table-log_dependence : Tree
table-log_dependence = link.table

-- a world that has it, and those of the crates below
pub Needs-log_dependence : World → Type 0
Needs-log_dependence W = Holds W "log_dependence" table-log_dependence × b0.Needs-log_operands W × b1.Needs-log_slots W × b2.Needs-log_touch W × b3.Needs-volume_tree W × b4.Needs-volume_entry W × b5.Needs-record W × Unit {0}

pub needs-log_dependence : (W : World) → Holds W "log_dependence" table-log_dependence → b0.Needs-log_operands W → b1.Needs-log_slots W → b2.Needs-log_touch W → b3.Needs-volume_tree W → b4.Needs-volume_entry W → b5.Needs-record W → Needs-log_dependence W
unfolding Needs-log_dependence
needs-log_dependence W h n0 n1 n2 n3 n4 n5 = (h, n0, n1, n2, n3, n4, n5, tt)

below : (W : World) → Needs-log_dependence W → link.Below W
unfolding Needs-log_dependence
below W n = (b0.linked-order_of W n.1, (b1.linked-head-used W n.2, (b1.linked-programs-with_program W n.2, (b1.linked-slot-dependents W n.2, (b1.linked-slot-recorded W n.2, (b1.linked-slot-set_dependents W n.2, (b1.linked-slot-waits W n.2, (b2.linked-set-add W n.3, (b2.linked-set-shares_any W n.3, tt)))))))))

pub linked-note : (W : World) → Needs-log_dependence W → HasT (in_world W) true s-note.code
unfolding Needs-log_dependence table-log_dependence
linked-note W n = link.linked-log_dependence::note W n.0 (below W n)

pub linked-note_slots : (W : World) → Needs-log_dependence W → HasT (in_world W) true s-note_slots.code
unfolding Needs-log_dependence table-log_dependence
linked-note_slots W n = link.linked-log_dependence::note_slots W n.0 (below W n)
