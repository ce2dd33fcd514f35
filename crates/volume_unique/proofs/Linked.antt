-- What a link of this crate and those below it needs, and that it finds the functions that other crates call.
use mathlib.Core.Bool.{true}
use prog.Linked.{Tree, World, Holds, in_world}
use prog.LinkedThreads.{HasT}
use Rattle.volume_unique.proofs.TheLink as link
use Rattle.buffer.proofs.Linked as b0
use Rattle.names.proofs.Linked as b1
use Rattle.volume_entry.proofs.Linked as b2
use Rattle.volume_tree.proofs.Linked as b3
use Rattle.volume_unique.proofs.digest.digests_of.Symbol as s-digest-digests_of
use Rattle.volume_unique.proofs.twins.all_alone.Symbol as s-twins-all_alone
pub use Rattle.volume_tree.proofs.Linked.{table-buffer, Needs-buffer, needs-buffer, table-returned, Needs-returned, needs-returned, table-names, Needs-names, needs-names, table-volume_entry, Needs-volume_entry, needs-volume_entry, table-volume_tree, Needs-volume_tree, needs-volume_tree}

-- the crate's table
pub table-volume_unique : Tree
table-volume_unique = link.table

-- a world that has it, and those of the crates below
pub Needs-volume_unique : World → Type 0
Needs-volume_unique W = Holds W "volume_unique" table-volume_unique × b0.Needs-buffer W × b1.Needs-names W × b2.Needs-volume_entry W × b3.Needs-volume_tree W × Unit {0}

pub needs-volume_unique : (W : World) → Holds W "volume_unique" table-volume_unique → b0.Needs-buffer W → b1.Needs-names W → b2.Needs-volume_entry W → b3.Needs-volume_tree W → Needs-volume_unique W
unfolding Needs-volume_unique
needs-volume_unique W h n0 n1 n2 n3 = (h, n0, n1, n2, n3, tt)

below : (W : World) → Needs-volume_unique W → link.Below W
unfolding Needs-volume_unique
below W n = (b0.linked-number-byte_at W n.1, (b1.linked-same_name W n.2, (b2.linked-field-name W n.3, (b3.linked-entries-entry W n.4, (b3.linked-numbers-every W n.4, (b3.linked-search-is_child W n.4, tt))))))

pub linked-digest-digests_of : (W : World) → Needs-volume_unique W → HasT (in_world W) true s-digest-digests_of.code
unfolding Needs-volume_unique table-volume_unique
linked-digest-digests_of W n = link.linked-volume_unique::digest::digests_of W n.0 (below W n)

pub linked-twins-all_alone : (W : World) → Needs-volume_unique W → HasT (in_world W) true s-twins-all_alone.code
unfolding Needs-volume_unique table-volume_unique
linked-twins-all_alone W n = link.linked-volume_unique::twins::all_alone W n.0 (below W n)
