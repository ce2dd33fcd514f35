-- What a link of this crate and those below it needs, and that it finds the functions that other crates call.
use mathlib.Core.Bool.{true}
use prog.Linked.{Tree, World, Holds, in_world}
use prog.LinkedThreads.{HasT}
use Rattle.log_touch.proofs.TheLink as link
use Rattle.buffer.proofs.Linked as b0
use Rattle.record_valid.proofs.Linked as b1
use Rattle.log_operands.proofs.Linked as b2
use Rattle.record_reader.proofs.Linked as b3
use Rattle.record.proofs.Linked as b4
use Rattle.log_touch.proofs.directly_precedes.Symbol as s-directly_precedes
use Rattle.log_touch.proofs.set.add.Symbol as s-set-add
use Rattle.log_touch.proofs.set.none.Symbol as s-set-none
use Rattle.log_touch.proofs.set.one.Symbol as s-set-one
use Rattle.log_touch.proofs.set.shares_any.Symbol as s-set-shares_any
pub use Rattle.log_operands.proofs.Linked.{table-buffer, Needs-buffer, needs-buffer, table-returned, Needs-returned, needs-returned, table-names, Needs-names, needs-names, table-record, Needs-record, needs-record, table-record_valid, Needs-record_valid, needs-record_valid, table-record_reader, Needs-record_reader, needs-record_reader, table-log_operands, Needs-log_operands, needs-log_operands}

-- the crate's table
pub table-log_touch : Tree
table-log_touch = link.table

-- a world that has it, and those of the crates below
pub Needs-log_touch : World → Type 0
Needs-log_touch W = Holds W "log_touch" table-log_touch × b0.Needs-buffer W × b1.Needs-record_valid W × b2.Needs-log_operands W × b3.Needs-record_reader W × b4.Needs-record W × Unit {0}

pub needs-log_touch : (W : World) → Holds W "log_touch" table-log_touch → b0.Needs-buffer W → b1.Needs-record_valid W → b2.Needs-log_operands W → b3.Needs-record_reader W → b4.Needs-record W → Needs-log_touch W
unfolding Needs-log_touch
needs-log_touch W h n0 n1 n2 n3 n4 = (h, n0, n1, n2, n3, n4, tt)

below : (W : World) → Needs-log_touch W → link.Below W
unfolding Needs-log_touch
below W n = (b0.linked-span-stretch_of W n.1, (b1.linked-list-object_of W n.2, tt))

pub linked-directly_precedes : (W : World) → Needs-log_touch W → HasT (in_world W) true s-directly_precedes.code
unfolding Needs-log_touch table-log_touch
linked-directly_precedes W n = link.linked-log_touch::directly_precedes W n.0 (below W n)

pub linked-set-add : (W : World) → Needs-log_touch W → HasT (in_world W) true s-set-add.code
unfolding Needs-log_touch table-log_touch
linked-set-add W n = link.linked-log_touch::set::add W n.0 (below W n)

pub linked-set-none : (W : World) → Needs-log_touch W → HasT (in_world W) true s-set-none.code
unfolding Needs-log_touch table-log_touch
linked-set-none W n = link.linked-log_touch::set::none W n.0 (below W n)

pub linked-set-one : (W : World) → Needs-log_touch W → HasT (in_world W) true s-set-one.code
unfolding Needs-log_touch table-log_touch
linked-set-one W n = link.linked-log_touch::set::one W n.0 (below W n)

pub linked-set-shares_any : (W : World) → Needs-log_touch W → HasT (in_world W) true s-set-shares_any.code
unfolding Needs-log_touch table-log_touch
linked-set-shares_any W n = link.linked-log_touch::set::shares_any W n.0 (below W n)
