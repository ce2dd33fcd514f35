-- What a link of this crate and those below it needs, and that it finds the functions that other crates call.
use mathlib.Core.Bool.{true}
use prog.Linked.{Tree, World, Holds, in_world}
use prog.LinkedThreads.{HasT}
use Rattle.volume_tree.proofs.TheLink as link
use Rattle.names.proofs.Linked as b0
use Rattle.volume_entry.proofs.Linked as b1
use Rattle.buffer.proofs.Linked as b2
use Rattle.returned.proofs.Linked as b3
use Rattle.volume_tree.proofs.entries.entry.Symbol as s-entries-entry
use Rattle.volume_tree.proofs.entries.is_lent.Symbol as s-entries-is_lent
use Rattle.volume_tree.proofs.numbers.every.Symbol as s-numbers-every
use Rattle.volume_tree.proofs.search.has_children.Symbol as s-search-has_children
use Rattle.volume_tree.proofs.search.is_child.Symbol as s-search-is_child
use Rattle.volume_tree.proofs.search.search.Symbol as s-search-search
pub use Rattle.volume_entry.proofs.Linked.{table-buffer, Needs-buffer, needs-buffer, table-returned, Needs-returned, needs-returned, table-names, Needs-names, needs-names, table-volume_entry, Needs-volume_entry, needs-volume_entry}

-- the crate's table
pub table-volume_tree : Tree
table-volume_tree = link.table

-- a world that has it, and those of the crates below
pub Needs-volume_tree : World → Type 0
Needs-volume_tree W = Holds W "volume_tree" table-volume_tree × b0.Needs-names W × b1.Needs-volume_entry W × b2.Needs-buffer W × b3.Needs-returned W × Unit {0}

pub needs-volume_tree : (W : World) → Holds W "volume_tree" table-volume_tree → b0.Needs-names W → b1.Needs-volume_entry W → b2.Needs-buffer W → b3.Needs-returned W → Needs-volume_tree W
unfolding Needs-volume_tree
needs-volume_tree W h n0 n1 n2 n3 = (h, n0, n1, n2, n3, tt)

below : (W : World) → Needs-volume_tree W → link.Below W
unfolding Needs-volume_tree
below W n = (b0.linked-same_name W n.1, (b1.linked-field-has_name W n.2, (b1.linked-field-name W n.2, (b1.linked-field-parent W n.2, tt))))

pub linked-entries-entry : (W : World) → Needs-volume_tree W → HasT (in_world W) true s-entries-entry.code
unfolding Needs-volume_tree table-volume_tree
linked-entries-entry W n = link.linked-volume_tree::entries::entry W n.0 (below W n)

pub linked-entries-is_lent : (W : World) → Needs-volume_tree W → HasT (in_world W) true s-entries-is_lent.code
unfolding Needs-volume_tree table-volume_tree
linked-entries-is_lent W n = link.linked-volume_tree::entries::is_lent W n.0 (below W n)

pub linked-numbers-every : (W : World) → Needs-volume_tree W → HasT (in_world W) true s-numbers-every.code
unfolding Needs-volume_tree table-volume_tree
linked-numbers-every W n = link.linked-volume_tree::numbers::every W n.0 (below W n)

pub linked-search-has_children : (W : World) → Needs-volume_tree W → HasT (in_world W) true s-search-has_children.code
unfolding Needs-volume_tree table-volume_tree
linked-search-has_children W n = link.linked-volume_tree::search::has_children W n.0 (below W n)

pub linked-search-is_child : (W : World) → Needs-volume_tree W → HasT (in_world W) true s-search-is_child.code
unfolding Needs-volume_tree table-volume_tree
linked-search-is_child W n = link.linked-volume_tree::search::is_child W n.0 (below W n)

pub linked-search-search : (W : World) → Needs-volume_tree W → HasT (in_world W) true s-search-search.code
unfolding Needs-volume_tree table-volume_tree
linked-search-search W n = link.linked-volume_tree::search::search W n.0 (below W n)
