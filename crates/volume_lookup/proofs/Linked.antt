-- What a link of this crate and those below it needs, and that it finds the functions that other crates call.
use mathlib.Core.Bool.{true}
use prog.Linked.{Tree, World, Holds, in_world}
use prog.LinkedThreads.{HasT}
use Rattle.volume_lookup.proofs.TheLink as link
use Rattle.names.proofs.Linked as b0
use Rattle.paths.proofs.Linked as b1
use Rattle.volume_entry.proofs.Linked as b2
use Rattle.volume_tree.proofs.Linked as b3
use Rattle.returned.proofs.Linked as b4
use Rattle.volume_lookup.proofs.lookup.RefusalFromLookupError.from.Symbol as s-lookup-RefusalFromLookupError-from
use Rattle.volume_lookup.proofs.lookup.lookup.Symbol as s-lookup-lookup
pub use Rattle.volume_tree.proofs.Linked.{table-buffer, Needs-buffer, needs-buffer, table-returned, Needs-returned, needs-returned, table-names, Needs-names, needs-names, table-volume_entry, Needs-volume_entry, needs-volume_entry, table-volume_tree, Needs-volume_tree, needs-volume_tree}
pub use Rattle.paths.proofs.Linked.{table-paths, Needs-paths, needs-paths}

-- the crate's table
pub table-volume_lookup : Tree
table-volume_lookup = link.table

-- a world that has it, and those of the crates below
pub Needs-volume_lookup : World → Type 0
Needs-volume_lookup W = Holds W "volume_lookup" table-volume_lookup × b0.Needs-names W × b1.Needs-paths W × b2.Needs-volume_entry W × b3.Needs-volume_tree W × b4.Needs-returned W × Unit {0}

pub needs-volume_lookup : (W : World) → Holds W "volume_lookup" table-volume_lookup → b0.Needs-names W → b1.Needs-paths W → b2.Needs-volume_entry W → b3.Needs-volume_tree W → b4.Needs-returned W → Needs-volume_lookup W
unfolding Needs-volume_lookup
needs-volume_lookup W h n0 n1 n2 n3 n4 = (h, n0, n1, n2, n3, n4, tt)

below : (W : World) → Needs-volume_lookup W → link.Below W
unfolding Needs-volume_lookup
below W n = (b0.linked-name_text W n.1, (b1.linked-component W n.2, (b1.linked-path_text W n.2, (b2.linked-field-is_directory W n.3, (b3.linked-entries-entry W n.4, (b3.linked-search-search W n.4, tt))))))

pub linked-lookup-RefusalFromLookupError-from : (W : World) → Needs-volume_lookup W → HasT (in_world W) true s-lookup-RefusalFromLookupError-from.code
unfolding Needs-volume_lookup table-volume_lookup
linked-lookup-RefusalFromLookupError-from W n = link.linked-volume_lookup::lookup::RefusalFromLookupError::from W n.0 (below W n)

pub linked-lookup-lookup : (W : World) → Needs-volume_lookup W → HasT (in_world W) true s-lookup-lookup.code
unfolding Needs-volume_lookup table-volume_lookup
linked-lookup-lookup W n = link.linked-volume_lookup::lookup::lookup W n.0 (below W n)
