-- What a link of this crate and those below it needs, and that it finds the functions that other crates call.
use mathlib.Core.Bool.{true}
use prog.Linked.{Tree, World, Holds, in_world}
use prog.LinkedThreads.{HasT}
use Rattle.log_push.proofs.TheLink as link
use Rattle.log_compact.proofs.Linked as b0
use Rattle.log_send.proofs.Linked as b1
use Rattle.log_slots.proofs.Linked as b2
use Rattle.volume_tree.proofs.Linked as b3
use Rattle.log_push.proofs.free_sent.Symbol as s-free_sent
use Rattle.log_push.proofs.push.Symbol as s-push
pub use Rattle.log_send.proofs.Linked.{table-buffer, Needs-buffer, needs-buffer, table-returned, Needs-returned, needs-returned, table-names, Needs-names, needs-names, table-volume_entry, Needs-volume_entry, needs-volume_entry, table-volume_tree, Needs-volume_tree, needs-volume_tree, table-record, Needs-record, needs-record, table-log_slots, Needs-log_slots, needs-log_slots, table-record_valid, Needs-record_valid, needs-record_valid, table-record_reader, Needs-record_reader, needs-record_reader, table-volume_applies, Needs-volume_applies, needs-volume_applies, table-volume_write, Needs-volume_write, needs-volume_write, table-volume, Needs-volume, needs-volume, table-log_send, Needs-log_send, needs-log_send}
pub use Rattle.log_compact.proofs.Linked.{table-log_compact, Needs-log_compact, needs-log_compact}

-- the crate's table
pub table-log_push : Tree
table-log_push = link.table

-- a world that has it, and those of the crates below
pub Needs-log_push : World → Type 0
Needs-log_push W = Holds W "log_push" table-log_push × b0.Needs-log_compact W × b1.Needs-log_send W × b2.Needs-log_slots W × b3.Needs-volume_tree W × Unit {0}

pub needs-log_push : (W : World) → Holds W "log_push" table-log_push → b0.Needs-log_compact W → b1.Needs-log_send W → b2.Needs-log_slots W → b3.Needs-volume_tree W → Needs-log_push W
unfolding Needs-log_push
needs-log_push W h n0 n1 n2 n3 = (h, n0, n1, n2, n3, tt)

below : (W : World) → Needs-log_push W → link.Below W
unfolding Needs-log_push
below W n = (b0.linked-free_slot W n.1, (b0.linked-free_slots W n.1, (b1.linked-send_slot W n.2, (b2.linked-head-used W n.3, tt))))

pub linked-free_sent : (W : World) → Needs-log_push W → HasT (in_world W) true s-free_sent.code
unfolding Needs-log_push table-log_push
linked-free_sent W n = link.linked-log_push::free_sent W n.0 (below W n)

pub linked-push : (W : World) → Needs-log_push W → HasT (in_world W) true s-push.code
unfolding Needs-log_push table-log_push
linked-push W n = link.linked-log_push::push W n.0 (below W n)
