-- What a link of this crate and those below it needs, and that it finds the functions that other crates call.
use mathlib.Core.Bool.{true}
use prog.Linked.{Tree, World, Holds, in_world}
use prog.LinkedThreads.{HasT}
use Rattle.volume_applies.proofs.TheLink as link
use Rattle.buffer.proofs.Linked as b0
use Rattle.record_valid.proofs.Linked as b1
use Rattle.volume_entry.proofs.Linked as b2
use Rattle.volume_tree.proofs.Linked as b3
use Rattle.record_reader.proofs.Linked as b4
use Rattle.record.proofs.Linked as b5
use Rattle.volume_applies.proofs.applies.applies.Symbol as s-applies-applies
pub use Rattle.volume_tree.proofs.Linked.{table-buffer, Needs-buffer, needs-buffer, table-returned, Needs-returned, needs-returned, table-names, Needs-names, needs-names, table-volume_entry, Needs-volume_entry, needs-volume_entry, table-volume_tree, Needs-volume_tree, needs-volume_tree}
pub use Rattle.record_reader.proofs.Linked.{table-record, Needs-record, needs-record, table-record_valid, Needs-record_valid, needs-record_valid, table-record_reader, Needs-record_reader, needs-record_reader}

-- the crate's table
pub table-volume_applies : Tree
table-volume_applies = link.table

-- a world that has it, and those of the crates below
pub Needs-volume_applies : World → Type 0
Needs-volume_applies W = Holds W "volume_applies" table-volume_applies × b0.Needs-buffer W × b1.Needs-record_valid W × b2.Needs-volume_entry W × b3.Needs-volume_tree W × b4.Needs-record_reader W × b5.Needs-record W × Unit {0}

pub needs-volume_applies : (W : World) → Holds W "volume_applies" table-volume_applies → b0.Needs-buffer W → b1.Needs-record_valid W → b2.Needs-volume_entry W → b3.Needs-volume_tree W → b4.Needs-record_reader W → b5.Needs-record W → Needs-volume_applies W
unfolding Needs-volume_applies
needs-volume_applies W h n0 n1 n2 n3 n4 n5 = (h, n0, n1, n2, n3, n4, n5, tt)

below : (W : World) → Needs-volume_applies W → link.Below W
unfolding Needs-volume_applies
below W n = (b0.linked-span-stretch_of W n.1, (b1.linked-valid-stands W n.2, (b2.linked-field-contents W n.3, (b2.linked-field-is_directory W n.3, (b2.linked-field-is_file W n.3, (b2.linked-field-is_used W n.3, (b2.linked-field-kind W n.3, (b3.linked-entries-entry W n.4, (b3.linked-search-has_children W n.4, (b3.linked-search-search W n.4, tt))))))))))

pub linked-applies-applies : (W : World) → Needs-volume_applies W → HasT (in_world W) true s-applies-applies.code
unfolding Needs-volume_applies table-volume_applies
linked-applies-applies W n = link.linked-volume_applies::applies::applies W n.0 (below W n)
