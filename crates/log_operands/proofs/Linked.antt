-- What a link of this crate and those below it needs, and that it finds the functions that other crates call.
use mathlib.Core.Bool.{true}
use prog.Linked.{Tree, World, Holds, in_world}
use prog.LinkedThreads.{HasT}
use Rattle.log_operands.proofs.TheLink as link
use Rattle.record_reader.proofs.Linked as b0
use Rattle.record_valid.proofs.Linked as b1
use Rattle.record.proofs.Linked as b2
use Rattle.buffer.proofs.Linked as b3
use Rattle.log_operands.proofs.order_of.Symbol as s-order_of
pub use Rattle.record_reader.proofs.Linked.{table-buffer, Needs-buffer, needs-buffer, table-returned, Needs-returned, needs-returned, table-names, Needs-names, needs-names, table-record, Needs-record, needs-record, table-record_valid, Needs-record_valid, needs-record_valid, table-record_reader, Needs-record_reader, needs-record_reader}

-- the crate's table
pub table-log_operands : Tree
table-log_operands = link.table

-- a world that has it, and those of the crates below
pub Needs-log_operands : World → Type 0
Needs-log_operands W = Holds W "log_operands" table-log_operands × b0.Needs-record_reader W × b1.Needs-record_valid W × b2.Needs-record W × b3.Needs-buffer W × Unit {0}

pub needs-log_operands : (W : World) → Holds W "log_operands" table-log_operands → b0.Needs-record_reader W → b1.Needs-record_valid W → b2.Needs-record W → b3.Needs-buffer W → Needs-log_operands W
unfolding Needs-log_operands
needs-log_operands W h n0 n1 n2 n3 = (h, n0, n1, n2, n3, tt)

below : (W : World) → Needs-log_operands W → link.Below W
unfolding Needs-log_operands
below W n = (b0.linked-Place-head W n.1, (b0.linked-Place-objects W n.1, (b0.linked-Place-range W n.1, (b1.linked-valid-stands W n.2, tt))))

pub linked-order_of : (W : World) → Needs-log_operands W → HasT (in_world W) true s-order_of.code
unfolding Needs-log_operands table-log_operands
linked-order_of W n = link.linked-log_operands::order_of W n.0 (below W n)
