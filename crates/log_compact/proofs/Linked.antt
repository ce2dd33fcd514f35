-- What a link of this crate and those below it needs, and that it finds the functions that other crates call.
use mathlib.Core.Bool.{true}
use prog.Linked.{Tree, World, Holds, in_world}
use prog.LinkedThreads.{HasT}
use Rattle.log_compact.proofs.TheLink as link
use Rattle.buffer.proofs.Linked as b0
use Rattle.log_slots.proofs.Linked as b1
use Rattle.volume_entry.proofs.Linked as b2
use Rattle.log_compact.proofs.free_slot.Symbol as s-free_slot
use Rattle.log_compact.proofs.free_slots.Symbol as s-free_slots
pub use Rattle.log_slots.proofs.Linked.{table-buffer, Needs-buffer, needs-buffer, table-returned, Needs-returned, needs-returned, table-names, Needs-names, needs-names, table-volume_entry, Needs-volume_entry, needs-volume_entry, table-volume_tree, Needs-volume_tree, needs-volume_tree, table-record, Needs-record, needs-record, table-log_slots, Needs-log_slots, needs-log_slots}

-- the crate's table
pub table-log_compact : Tree
table-log_compact = link.table

-- a world that has it, and those of the crates below
pub Needs-log_compact : World → Type 0
Needs-log_compact W = Holds W "log_compact" table-log_compact × b0.Needs-buffer W × b1.Needs-log_slots W × b2.Needs-volume_entry W × Unit {0}

pub needs-log_compact : (W : World) → Holds W "log_compact" table-log_compact → b0.Needs-buffer W → b1.Needs-log_slots W → b2.Needs-volume_entry W → Needs-log_compact W
unfolding Needs-log_compact
needs-log_compact W h n0 n1 n2 = (h, n0, n1, n2, tt)

below : (W : World) → Needs-log_compact W → link.Below W
unfolding Needs-log_compact
below W n = (b0.linked-zero-clear W n.1, tt)

pub linked-free_slot : (W : World) → Needs-log_compact W → HasT (in_world W) true s-free_slot.code
unfolding Needs-log_compact table-log_compact
linked-free_slot W n = link.linked-log_compact::free_slot W n.0 (below W n)

pub linked-free_slots : (W : World) → Needs-log_compact W → HasT (in_world W) true s-free_slots.code
unfolding Needs-log_compact table-log_compact
linked-free_slots W n = link.linked-log_compact::free_slots W n.0 (below W n)
