-- What a link of this crate and those below it needs, and that it finds the functions that other crates call.
use mathlib.Core.Bool.{true}
use prog.Linked.{Tree, World, Holds, in_world}
use prog.LinkedThreads.{HasT}
use Rattle.log_form.proofs.TheLink as link
use Rattle.buffer.proofs.Linked as b0
use Rattle.record_reader.proofs.Linked as b1
use Rattle.log_slots.proofs.Linked as b2
use Rattle.volume_tree.proofs.Linked as b3
use Rattle.volume_entry.proofs.Linked as b4
use Rattle.record.proofs.Linked as b5
use Rattle.log_form.proofs.is_lent.Symbol as s-is_lent
use Rattle.log_form.proofs.log_formed.Symbol as s-log_formed
pub use Rattle.log_slots.proofs.Linked.{table-buffer, Needs-buffer, needs-buffer, table-returned, Needs-returned, needs-returned, table-names, Needs-names, needs-names, table-volume_entry, Needs-volume_entry, needs-volume_entry, table-volume_tree, Needs-volume_tree, needs-volume_tree, table-record, Needs-record, needs-record, table-log_slots, Needs-log_slots, needs-log_slots}
pub use Rattle.record_reader.proofs.Linked.{table-record_valid, Needs-record_valid, needs-record_valid, table-record_reader, Needs-record_reader, needs-record_reader}

-- the crate's table
pub table-log_form : Tree
table-log_form = link.table

-- a world that has it, and those of the crates below
pub Needs-log_form : World → Type 0
Needs-log_form W = Holds W "log_form" table-log_form × b0.Needs-buffer W × b1.Needs-record_reader W × b2.Needs-log_slots W × b3.Needs-volume_tree W × b4.Needs-volume_entry W × b5.Needs-record W × Unit {0}

pub needs-log_form : (W : World) → Holds W "log_form" table-log_form → b0.Needs-buffer W → b1.Needs-record_reader W → b2.Needs-log_slots W → b3.Needs-volume_tree W → b4.Needs-volume_entry W → b5.Needs-record W → Needs-log_form W
unfolding Needs-log_form
needs-log_form W h n0 n1 n2 n3 n4 n5 = (h, n0, n1, n2, n3, n4, n5, tt)

below : (W : World) → Needs-log_form W → link.Below W
unfolding Needs-log_form
below W n = (b0.linked-number-byte_at W n.1, (b0.linked-number-four_at W n.1, (b0.linked-zero-all_zero W n.1, (b1.linked-fit-fits W n.2, (b1.linked-read_record W n.2, tt)))))

pub linked-is_lent : (W : World) → Needs-log_form W → HasT (in_world W) true s-is_lent.code
unfolding Needs-log_form table-log_form
linked-is_lent W n = link.linked-log_form::is_lent W n.0 (below W n)

pub linked-log_formed : (W : World) → Needs-log_form W → HasT (in_world W) true s-log_formed.code
unfolding Needs-log_form table-log_form
linked-log_formed W n = link.linked-log_form::log_formed W n.0 (below W n)
