-- What a link of this crate and those below it needs, and that it finds the functions that other crates call.
use mathlib.Core.Bool.{true}
use prog.Linked.{Tree, World, Holds, in_world}
use prog.LinkedThreads.{HasT}
use Rattle.volume_entry_form.proofs.TheLink as link
use Rattle.buffer.proofs.Linked as b0
use Rattle.names.proofs.Linked as b1
use Rattle.volume_entry.proofs.Linked as b2
use Rattle.volume_entry_form.proofs.entry_formed.Symbol as s-entry_formed
use Rattle.volume_entry_form.proofs.root_formed.Symbol as s-root_formed
pub use Rattle.volume_entry.proofs.Linked.{table-buffer, Needs-buffer, needs-buffer, table-returned, Needs-returned, needs-returned, table-names, Needs-names, needs-names, table-volume_entry, Needs-volume_entry, needs-volume_entry}

-- the crate's table
pub table-volume_entry_form : Tree
table-volume_entry_form = link.table

-- a world that has it, and those of the crates below
pub Needs-volume_entry_form : World → Type 0
Needs-volume_entry_form W = Holds W "volume_entry_form" table-volume_entry_form × b0.Needs-buffer W × b1.Needs-names W × b2.Needs-volume_entry W × Unit {0}

pub needs-volume_entry_form : (W : World) → Holds W "volume_entry_form" table-volume_entry_form → b0.Needs-buffer W → b1.Needs-names W → b2.Needs-volume_entry W → Needs-volume_entry_form W
unfolding Needs-volume_entry_form
needs-volume_entry_form W h n0 n1 n2 = (h, n0, n1, n2, tt)

below : (W : World) → Needs-volume_entry_form W → link.Below W
unfolding Needs-volume_entry_form
below W n = (b0.linked-number-byte_at W n.1, (b0.linked-number-four_at W n.1, (b0.linked-zero-all_zero W n.1, (b1.linked-name_text W n.2, tt))))

pub linked-entry_formed : (W : World) → Needs-volume_entry_form W → HasT (in_world W) true s-entry_formed.code
unfolding Needs-volume_entry_form table-volume_entry_form
linked-entry_formed W n = link.linked-volume_entry_form::entry_formed W n.0 (below W n)

pub linked-root_formed : (W : World) → Needs-volume_entry_form W → HasT (in_world W) true s-root_formed.code
unfolding Needs-volume_entry_form table-volume_entry_form
linked-root_formed W n = link.linked-volume_entry_form::root_formed W n.0 (below W n)
