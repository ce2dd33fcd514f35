-- What a link of this crate and those below it needs, and that it finds the functions that other crates call.
use mathlib.Core.Bool.{true}
use prog.Linked.{Tree, World, Holds, in_world}
use prog.LinkedThreads.{HasT}
use Rattle.log_find.proofs.TheLink as link
use Rattle.log_slots.proofs.Linked as b0
use Rattle.volume_tree.proofs.Linked as b1
use Rattle.log_find.proofs.loss_of.Symbol as s-loss_of
use Rattle.log_find.proofs.waiting_at.Symbol as s-waiting_at
pub use Rattle.log_slots.proofs.Linked.{table-buffer, Needs-buffer, needs-buffer, table-returned, Needs-returned, needs-returned, table-names, Needs-names, needs-names, table-volume_entry, Needs-volume_entry, needs-volume_entry, table-volume_tree, Needs-volume_tree, needs-volume_tree, table-record, Needs-record, needs-record, table-log_slots, Needs-log_slots, needs-log_slots}

-- the crate's table
pub table-log_find : Tree
table-log_find = link.table

-- a world that has it, and those of the crates below
pub Needs-log_find : World → Type 0
Needs-log_find W = Holds W "log_find" table-log_find × b0.Needs-log_slots W × b1.Needs-volume_tree W × Unit {0}

pub needs-log_find : (W : World) → Holds W "log_find" table-log_find → b0.Needs-log_slots W → b1.Needs-volume_tree W → Needs-log_find W
unfolding Needs-log_find
needs-log_find W h n0 n1 = (h, n0, n1, tt)

below : (W : World) → Needs-log_find W → link.Below W
unfolding Needs-log_find
below W n = (b0.linked-slot-program W n.1, (b0.linked-slot-sequence W n.1, (b0.linked-slot-waits W n.1, tt)))

pub linked-loss_of : (W : World) → Needs-log_find W → HasT (in_world W) true s-loss_of.code
unfolding Needs-log_find table-log_find
linked-loss_of W n = link.linked-log_find::loss_of W n.0 (below W n)

pub linked-waiting_at : (W : World) → Needs-log_find W → HasT (in_world W) true s-waiting_at.code
unfolding Needs-log_find table-log_find
linked-waiting_at W n = link.linked-log_find::waiting_at W n.0 (below W n)
