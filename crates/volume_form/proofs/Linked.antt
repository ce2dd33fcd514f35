-- What a link of this crate and those below it needs, and that it finds the functions that other crates call.
use mathlib.Core.Bool.{true}
use prog.Linked.{Tree, World, Holds, in_world}
use prog.LinkedThreads.{HasT}
use Rattle.volume_form.proofs.TheLink as link
use Rattle.volume_entry.proofs.Linked as b0
use Rattle.volume_entry_form.proofs.Linked as b1
use Rattle.volume_tree.proofs.Linked as b2
use Rattle.volume_unique.proofs.Linked as b3
use Rattle.buffer.proofs.Linked as b4
use Rattle.names.proofs.Linked as b5
use Rattle.volume_form.proofs.well_formed.Symbol as s-well_formed
pub use Rattle.volume_unique.proofs.Linked.{table-buffer, Needs-buffer, needs-buffer, table-returned, Needs-returned, needs-returned, table-names, Needs-names, needs-names, table-volume_entry, Needs-volume_entry, needs-volume_entry, table-volume_tree, Needs-volume_tree, needs-volume_tree, table-volume_unique, Needs-volume_unique, needs-volume_unique}
pub use Rattle.volume_entry_form.proofs.Linked.{table-volume_entry_form, Needs-volume_entry_form, needs-volume_entry_form}

-- the crate's table
pub table-volume_form : Tree
table-volume_form = link.table

-- a world that has it, and those of the crates below
pub Needs-volume_form : World → Type 0
Needs-volume_form W = Holds W "volume_form" table-volume_form × b0.Needs-volume_entry W × b1.Needs-volume_entry_form W × b2.Needs-volume_tree W × b3.Needs-volume_unique W × b4.Needs-buffer W × b5.Needs-names W × Unit {0}

pub needs-volume_form : (W : World) → Holds W "volume_form" table-volume_form → b0.Needs-volume_entry W → b1.Needs-volume_entry_form W → b2.Needs-volume_tree W → b3.Needs-volume_unique W → b4.Needs-buffer W → b5.Needs-names W → Needs-volume_form W
unfolding Needs-volume_form
needs-volume_form W h n0 n1 n2 n3 n4 n5 = (h, n0, n1, n2, n3, n4, n5, tt)

below : (W : World) → Needs-volume_form W → link.Below W
unfolding Needs-volume_form
below W n = (b0.linked-field-has_name W n.1, (b0.linked-field-is_directory W n.1, (b0.linked-field-parent W n.1, (b1.linked-entry_formed W n.2, (b1.linked-root_formed W n.2, (b2.linked-entries-entry W n.3, (b2.linked-entries-is_lent W n.3, (b2.linked-numbers-every W n.3, (b3.linked-digest-digests_of W n.4, (b3.linked-twins-all_alone W n.4, tt))))))))))

pub linked-well_formed : (W : World) → Needs-volume_form W → HasT (in_world W) true s-well_formed.code
unfolding Needs-volume_form table-volume_form
linked-well_formed W n = link.linked-volume_form::well_formed W n.0 (below W n)
