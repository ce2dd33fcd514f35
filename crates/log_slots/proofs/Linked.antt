-- What a link of this crate and those below it needs, and that it finds the functions that other crates call.
use mathlib.Core.Bool.{true}
use prog.Linked.{Tree, World, Holds, in_world}
use prog.LinkedThreads.{HasT}
use Rattle.log_slots.proofs.TheLink as link
use Rattle.buffer.proofs.Linked as b0
use Rattle.volume_tree.proofs.Linked as b1
use Rattle.volume_entry.proofs.Linked as b2
use Rattle.record.proofs.Linked as b3
use Rattle.log_slots.proofs.head.is_marked.Symbol as s-head-is_marked
use Rattle.log_slots.proofs.head.marks.Symbol as s-head-marks
use Rattle.log_slots.proofs.head.next_number.Symbol as s-head-next_number
use Rattle.log_slots.proofs.head.set_marks.Symbol as s-head-set_marks
use Rattle.log_slots.proofs.head.used.Symbol as s-head-used
use Rattle.log_slots.proofs.programs.union_of.Symbol as s-programs-union_of
use Rattle.log_slots.proofs.programs.with_program.Symbol as s-programs-with_program
use Rattle.log_slots.proofs.programs.without_program.Symbol as s-programs-without_program
use Rattle.log_slots.proofs.slot.dependents.Symbol as s-slot-dependents
use Rattle.log_slots.proofs.slot.program.Symbol as s-slot-program
use Rattle.log_slots.proofs.slot.recorded.Symbol as s-slot-recorded
use Rattle.log_slots.proofs.slot.sequence.Symbol as s-slot-sequence
use Rattle.log_slots.proofs.slot.set_dependents.Symbol as s-slot-set_dependents
use Rattle.log_slots.proofs.slot.set_lost.Symbol as s-slot-set_lost
use Rattle.log_slots.proofs.slot.waits.Symbol as s-slot-waits
pub use Rattle.volume_tree.proofs.Linked.{table-buffer, Needs-buffer, needs-buffer, table-returned, Needs-returned, needs-returned, table-names, Needs-names, needs-names, table-volume_entry, Needs-volume_entry, needs-volume_entry, table-volume_tree, Needs-volume_tree, needs-volume_tree}
pub use Rattle.record.proofs.Linked.{table-record, Needs-record, needs-record}

-- the crate's table
pub table-log_slots : Tree
table-log_slots = link.table

-- a world that has it, and those of the crates below
pub Needs-log_slots : World → Type 0
Needs-log_slots W = Holds W "log_slots" table-log_slots × b0.Needs-buffer W × b1.Needs-volume_tree W × b2.Needs-volume_entry W × b3.Needs-record W × Unit {0}

pub needs-log_slots : (W : World) → Holds W "log_slots" table-log_slots → b0.Needs-buffer W → b1.Needs-volume_tree W → b2.Needs-volume_entry W → b3.Needs-record W → Needs-log_slots W
unfolding Needs-log_slots
needs-log_slots W h n0 n1 n2 n3 = (h, n0, n1, n2, n3, tt)

below : (W : World) → Needs-log_slots W → link.Below W
unfolding Needs-log_slots
below W n = (b0.linked-number-byte_at W n.1, (b0.linked-number-four_at W n.1, (b0.linked-put-put_four W n.1, tt)))

pub linked-head-is_marked : (W : World) → Needs-log_slots W → HasT (in_world W) true s-head-is_marked.code
unfolding Needs-log_slots table-log_slots
linked-head-is_marked W n = link.linked-log_slots::head::is_marked W n.0 (below W n)

pub linked-head-marks : (W : World) → Needs-log_slots W → HasT (in_world W) true s-head-marks.code
unfolding Needs-log_slots table-log_slots
linked-head-marks W n = link.linked-log_slots::head::marks W n.0 (below W n)

pub linked-head-next_number : (W : World) → Needs-log_slots W → HasT (in_world W) true s-head-next_number.code
unfolding Needs-log_slots table-log_slots
linked-head-next_number W n = link.linked-log_slots::head::next_number W n.0 (below W n)

pub linked-head-set_marks : (W : World) → Needs-log_slots W → HasT (in_world W) true s-head-set_marks.code
unfolding Needs-log_slots table-log_slots
linked-head-set_marks W n = link.linked-log_slots::head::set_marks W n.0 (below W n)

pub linked-head-used : (W : World) → Needs-log_slots W → HasT (in_world W) true s-head-used.code
unfolding Needs-log_slots table-log_slots
linked-head-used W n = link.linked-log_slots::head::used W n.0 (below W n)

pub linked-programs-union_of : (W : World) → Needs-log_slots W → HasT (in_world W) true s-programs-union_of.code
unfolding Needs-log_slots table-log_slots
linked-programs-union_of W n = link.linked-log_slots::programs::union_of W n.0 (below W n)

pub linked-programs-with_program : (W : World) → Needs-log_slots W → HasT (in_world W) true s-programs-with_program.code
unfolding Needs-log_slots table-log_slots
linked-programs-with_program W n = link.linked-log_slots::programs::with_program W n.0 (below W n)

pub linked-programs-without_program : (W : World) → Needs-log_slots W → HasT (in_world W) true s-programs-without_program.code
unfolding Needs-log_slots table-log_slots
linked-programs-without_program W n = link.linked-log_slots::programs::without_program W n.0 (below W n)

pub linked-slot-dependents : (W : World) → Needs-log_slots W → HasT (in_world W) true s-slot-dependents.code
unfolding Needs-log_slots table-log_slots
linked-slot-dependents W n = link.linked-log_slots::slot::dependents W n.0 (below W n)

pub linked-slot-program : (W : World) → Needs-log_slots W → HasT (in_world W) true s-slot-program.code
unfolding Needs-log_slots table-log_slots
linked-slot-program W n = link.linked-log_slots::slot::program W n.0 (below W n)

pub linked-slot-recorded : (W : World) → Needs-log_slots W → HasT (in_world W) true s-slot-recorded.code
unfolding Needs-log_slots table-log_slots
linked-slot-recorded W n = link.linked-log_slots::slot::recorded W n.0 (below W n)

pub linked-slot-sequence : (W : World) → Needs-log_slots W → HasT (in_world W) true s-slot-sequence.code
unfolding Needs-log_slots table-log_slots
linked-slot-sequence W n = link.linked-log_slots::slot::sequence W n.0 (below W n)

pub linked-slot-set_dependents : (W : World) → Needs-log_slots W → HasT (in_world W) true s-slot-set_dependents.code
unfolding Needs-log_slots table-log_slots
linked-slot-set_dependents W n = link.linked-log_slots::slot::set_dependents W n.0 (below W n)

pub linked-slot-set_lost : (W : World) → Needs-log_slots W → HasT (in_world W) true s-slot-set_lost.code
unfolding Needs-log_slots table-log_slots
linked-slot-set_lost W n = link.linked-log_slots::slot::set_lost W n.0 (below W n)

pub linked-slot-waits : (W : World) → Needs-log_slots W → HasT (in_world W) true s-slot-waits.code
unfolding Needs-log_slots table-log_slots
linked-slot-waits W n = link.linked-log_slots::slot::waits W n.0 (below W n)
