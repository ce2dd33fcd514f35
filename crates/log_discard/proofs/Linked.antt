-- What a link of this crate and those below it needs, and that it finds the functions that other crates call.
use mathlib.Core.Bool.{true}
use prog.Linked.{Tree, World, Holds, in_world}
use prog.LinkedThreads.{HasT}
use Rattle.log_discard.proofs.TheLink as link
use Rattle.log_slots.proofs.Linked as b0
use Rattle.volume_tree.proofs.Linked as b1
use Rattle.log_discard.proofs.discard.Symbol as s-discard
pub use Rattle.log_slots.proofs.Linked.{table-buffer, Needs-buffer, needs-buffer, table-returned, Needs-returned, needs-returned, table-names, Needs-names, needs-names, table-volume_entry, Needs-volume_entry, needs-volume_entry, table-volume_tree, Needs-volume_tree, needs-volume_tree, table-record, Needs-record, needs-record, table-log_slots, Needs-log_slots, needs-log_slots}

-- the crate's table
pub table-log_discard : Tree
table-log_discard = link.table

-- a world that has it, and those of the crates below
pub Needs-log_discard : World → Type 0
Needs-log_discard W = Holds W "log_discard" table-log_discard × b0.Needs-log_slots W × b1.Needs-volume_tree W × Unit {0}

pub needs-log_discard : (W : World) → Holds W "log_discard" table-log_discard → b0.Needs-log_slots W → b1.Needs-volume_tree W → Needs-log_discard W
unfolding Needs-log_discard
needs-log_discard W h n0 n1 = (h, n0, n1, tt)

below : (W : World) → Needs-log_discard W → link.Below W
unfolding Needs-log_discard
below W n = (b0.linked-head-marks W n.1, (b0.linked-head-set_marks W n.1, (b0.linked-head-used W n.1, (b0.linked-programs-union_of W n.1, (b0.linked-slot-dependents W n.1, (b0.linked-slot-set_lost W n.1, (b0.linked-slot-waits W n.1, tt)))))))

pub linked-discard : (W : World) → Needs-log_discard W → HasT (in_world W) true s-discard.code
unfolding Needs-log_discard table-log_discard
linked-discard W n = link.linked-log_discard::discard W n.0 (below W n)
