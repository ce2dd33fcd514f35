-- What a link of this crate and those below it needs, and that it finds the functions that other crates call.
use mathlib.Core.Bool.{true}
use prog.Linked.{Tree, World, Holds, in_world}
use prog.LinkedThreads.{HasT}
use Rattle.record_writer.proofs.TheLink as link
use Rattle.buffer.proofs.Linked as b0
use Rattle.record.proofs.Linked as b1
use Rattle.record_writer.proofs.write_entry.Symbol as s-write_entry
use Rattle.record_writer.proofs.write_forder.Symbol as s-write_forder
use Rattle.record_writer.proofs.write_length.Symbol as s-write_length
use Rattle.record_writer.proofs.write_range.Symbol as s-write_range
use Rattle.record_writer.proofs.write_rename.Symbol as s-write_rename
pub use Rattle.record.proofs.Linked.{table-buffer, Needs-buffer, needs-buffer, table-returned, Needs-returned, needs-returned, table-names, Needs-names, needs-names, table-record, Needs-record, needs-record}

-- the crate's table
pub table-record_writer : Tree
table-record_writer = link.table

-- a world that has it, and those of the crates below
pub Needs-record_writer : World → Type 0
Needs-record_writer W = Holds W "record_writer" table-record_writer × b0.Needs-buffer W × b1.Needs-record W × Unit {0}

pub needs-record_writer : (W : World) → Holds W "record_writer" table-record_writer → b0.Needs-buffer W → b1.Needs-record W → Needs-record_writer W
unfolding Needs-record_writer
needs-record_writer W h n0 n1 = (h, n0, n1, tt)

below : (W : World) → Needs-record_writer W → link.Below W
unfolding Needs-record_writer
below W n = (b0.linked-put-put_bytes W n.1, (b0.linked-put-put_four W n.1, (b0.linked-put-put_one W n.1, (b0.linked-put-put_two W n.1, (b1.linked-kind-Kind-code W n.2, (b1.linked-kind-Kind-displacing_map W n.2, (b1.linked-kind-Kind-map W n.2, tt)))))))

pub linked-write_entry : (W : World) → Needs-record_writer W → HasT (in_world W) true s-write_entry.code
unfolding Needs-record_writer table-record_writer
linked-write_entry W n = link.linked-record_writer::write_entry W n.0 (below W n)

pub linked-write_forder : (W : World) → Needs-record_writer W → HasT (in_world W) true s-write_forder.code
unfolding Needs-record_writer table-record_writer
linked-write_forder W n = link.linked-record_writer::write_forder W n.0 (below W n)

pub linked-write_length : (W : World) → Needs-record_writer W → HasT (in_world W) true s-write_length.code
unfolding Needs-record_writer table-record_writer
linked-write_length W n = link.linked-record_writer::write_length W n.0 (below W n)

pub linked-write_range : (W : World) → Needs-record_writer W → HasT (in_world W) true s-write_range.code
unfolding Needs-record_writer table-record_writer
linked-write_range W n = link.linked-record_writer::write_range W n.0 (below W n)

pub linked-write_rename : (W : World) → Needs-record_writer W → HasT (in_world W) true s-write_rename.code
unfolding Needs-record_writer table-record_writer
linked-write_rename W n = link.linked-record_writer::write_rename W n.0 (below W n)
