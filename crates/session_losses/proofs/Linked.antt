-- What a link of this crate and those below it needs, and that it finds the functions that other crates call.
use mathlib.Core.Bool.{true}
use prog.Linked.{Tree, World, Holds, in_world}
use prog.LinkedThreads.{HasT}
use Rattle.session_losses.proofs.TheLink as link
use Rattle.log_find.proofs.Linked as b0
use Rattle.log_slots.proofs.Linked as b1
use Rattle.session_losses.proofs.loss_in.Symbol as s-loss_in
pub use Rattle.log_find.proofs.Linked.{table-buffer, Needs-buffer, needs-buffer, table-returned, Needs-returned, needs-returned, table-names, Needs-names, needs-names, table-volume_entry, Needs-volume_entry, needs-volume_entry, table-volume_tree, Needs-volume_tree, needs-volume_tree, table-record, Needs-record, needs-record, table-log_slots, Needs-log_slots, needs-log_slots, table-log_find, Needs-log_find, needs-log_find}

-- the crate's table
pub table-session_losses : Tree
table-session_losses = link.table

-- a world that has it, and those of the crates below
pub Needs-session_losses : World → Type 0
Needs-session_losses W = Holds W "session_losses" table-session_losses × b0.Needs-log_find W × b1.Needs-log_slots W × Unit {0}

pub needs-session_losses : (W : World) → Holds W "session_losses" table-session_losses → b0.Needs-log_find W → b1.Needs-log_slots W → Needs-session_losses W
unfolding Needs-session_losses
needs-session_losses W h n0 n1 = (h, n0, n1, tt)

below : (W : World) → Needs-session_losses W → link.Below W
unfolding Needs-session_losses
below W n = (b0.linked-loss_of W n.1, (b1.linked-head-used W n.2, tt))

pub linked-loss_in : (W : World) → Needs-session_losses W → HasT (in_world W) true s-loss_in.code
unfolding Needs-session_losses table-session_losses
linked-loss_in W n = link.linked-session_losses::loss_in W n.0 (below W n)
