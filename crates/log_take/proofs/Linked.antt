-- What a link of this crate and those below it needs, and that it finds the functions that other crates call.
use mathlib.Core.Bool.{true}
use prog.Linked.{Tree, World, Holds, in_world}
use prog.LinkedThreads.{HasT}
use Rattle.log_take.proofs.TheLink as link
use Rattle.buffer.proofs.Linked as b0
use Rattle.log_compact.proofs.Linked as b1
use Rattle.log_slots.proofs.Linked as b2
use Rattle.record_reader.proofs.Linked as b3
use Rattle.log_find.proofs.Linked as b4
use Rattle.volume_applies.proofs.Linked as b5
use Rattle.volume_tree.proofs.Linked as b6
use Rattle.volume_entry.proofs.Linked as b7
use Rattle.record.proofs.Linked as b8
use Rattle.log_take.proofs.renew.Symbol as s-renew
use Rattle.log_take.proofs.take.Symbol as s-take
pub use Rattle.log_find.proofs.Linked.{table-buffer, Needs-buffer, needs-buffer, table-returned, Needs-returned, needs-returned, table-names, Needs-names, needs-names, table-volume_entry, Needs-volume_entry, needs-volume_entry, table-volume_tree, Needs-volume_tree, needs-volume_tree, table-record, Needs-record, needs-record, table-log_slots, Needs-log_slots, needs-log_slots, table-log_find, Needs-log_find, needs-log_find}
pub use Rattle.log_compact.proofs.Linked.{table-log_compact, Needs-log_compact, needs-log_compact}
pub use Rattle.volume_applies.proofs.Linked.{table-record_valid, Needs-record_valid, needs-record_valid, table-record_reader, Needs-record_reader, needs-record_reader, table-volume_applies, Needs-volume_applies, needs-volume_applies}

-- the crate's table
pub table-log_take : Tree
table-log_take = link.table

-- a world that has it, and those of the crates below
pub Needs-log_take : World → Type 0
Needs-log_take W = Holds W "log_take" table-log_take × b0.Needs-buffer W × b1.Needs-log_compact W × b2.Needs-log_slots W × b3.Needs-record_reader W × b4.Needs-log_find W × b5.Needs-volume_applies W × b6.Needs-volume_tree W × b7.Needs-volume_entry W × b8.Needs-record W × Unit {0}

pub needs-log_take : (W : World) → Holds W "log_take" table-log_take → b0.Needs-buffer W → b1.Needs-log_compact W → b2.Needs-log_slots W → b3.Needs-record_reader W → b4.Needs-log_find W → b5.Needs-volume_applies W → b6.Needs-volume_tree W → b7.Needs-volume_entry W → b8.Needs-record W → Needs-log_take W
unfolding Needs-log_take
needs-log_take W h n0 n1 n2 n3 n4 n5 n6 n7 n8 = (h, n0, n1, n2, n3, n4, n5, n6, n7, n8, tt)

below : (W : World) → Needs-log_take W → link.Below W
unfolding Needs-log_take
below W n = (b0.linked-put-put_bytes W n.1, (b1.linked-free_slot W n.2, (b2.linked-head-marks W n.3, (b2.linked-head-set_marks W n.3, (b2.linked-head-used W n.3, (b2.linked-programs-without_program W n.3, (b2.linked-slot-recorded W n.3, (b3.linked-read_record W n.4, tt))))))))

pub linked-renew : (W : World) → Needs-log_take W → HasT (in_world W) true s-renew.code
unfolding Needs-log_take table-log_take
linked-renew W n = link.linked-log_take::renew W n.0 (below W n)

pub linked-take : (W : World) → Needs-log_take W → HasT (in_world W) true s-take.code
unfolding Needs-log_take table-log_take
linked-take W n = link.linked-log_take::take W n.0 (below W n)
