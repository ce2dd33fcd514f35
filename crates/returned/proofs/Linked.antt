-- What a link of this crate and those below it needs, and that it finds the functions that other crates call.
use mathlib.Core.Bool.{true}
use prog.Linked.{Tree, World, Holds, in_world}
use prog.LinkedThreads.{HasT}
use Rattle.returned.proofs.TheLink as link
use Rattle.returned.proofs.CodeFromResultUnitRefusal.from.Symbol as s-CodeFromResultUnitRefusal-from
use Rattle.returned.proofs.Refusal.number.Symbol as s-Refusal-number
use Rattle.returned.proofs.Refusal.rank.Symbol as s-Refusal-rank
use Rattle.returned.proofs.Status.of.Symbol as s-Status-of
use Rattle.returned.proofs.Status.refused.Symbol as s-Status-refused
use Rattle.returned.proofs.Value.of.Symbol as s-Value-of
use Rattle.returned.proofs.ValueFromResultUsizeRefusal.from.Symbol as s-ValueFromResultUsizeRefusal-from

-- the crate's table
pub table-returned : Tree
table-returned = link.table

-- a world that has it, and those of the crates below
pub Needs-returned : World → Type 0
Needs-returned W = Holds W "returned" table-returned × Unit {0}

pub needs-returned : (W : World) → Holds W "returned" table-returned → Needs-returned W
unfolding Needs-returned
needs-returned W h = (h, tt)

below : (W : World) → Needs-returned W → link.Below W
unfolding Needs-returned
below W n = tt

pub linked-CodeFromResultUnitRefusal-from : (W : World) → Needs-returned W → HasT (in_world W) true s-CodeFromResultUnitRefusal-from.code
unfolding Needs-returned table-returned
linked-CodeFromResultUnitRefusal-from W n = link.linked-returned::CodeFromResultUnitRefusal::from W n.0 (below W n)

pub linked-Refusal-number : (W : World) → Needs-returned W → HasT (in_world W) true s-Refusal-number.code
unfolding Needs-returned table-returned
linked-Refusal-number W n = link.linked-returned::Refusal::number W n.0 (below W n)

pub linked-Refusal-rank : (W : World) → Needs-returned W → HasT (in_world W) true s-Refusal-rank.code
unfolding Needs-returned table-returned
linked-Refusal-rank W n = link.linked-returned::Refusal::rank W n.0 (below W n)

pub linked-Status-of : (W : World) → Needs-returned W → HasT (in_world W) true s-Status-of.code
unfolding Needs-returned table-returned
linked-Status-of W n = link.linked-returned::Status::of W n.0 (below W n)

pub linked-Status-refused : (W : World) → Needs-returned W → HasT (in_world W) true s-Status-refused.code
unfolding Needs-returned table-returned
linked-Status-refused W n = link.linked-returned::Status::refused W n.0 (below W n)

pub linked-Value-of : (W : World) → Needs-returned W → HasT (in_world W) true s-Value-of.code
unfolding Needs-returned table-returned
linked-Value-of W n = link.linked-returned::Value::of W n.0 (below W n)

pub linked-ValueFromResultUsizeRefusal-from : (W : World) → Needs-returned W → HasT (in_world W) true s-ValueFromResultUsizeRefusal-from.code
unfolding Needs-returned table-returned
linked-ValueFromResultUsizeRefusal-from W n = link.linked-returned::ValueFromResultUsizeRefusal::from W n.0 (below W n)
