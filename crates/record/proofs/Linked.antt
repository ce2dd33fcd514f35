-- What a link of this crate and those below it needs, and that it finds the functions that other crates call.
use mathlib.Core.Bool.{true}
use prog.Linked.{Tree, World, Holds, in_world}
use prog.LinkedThreads.{HasT}
use Rattle.record.proofs.TheLink as link
use Rattle.buffer.proofs.Linked as b0
use Rattle.names.proofs.Linked as b1
use Rattle.record.proofs.kind.Kind.code.Symbol as s-kind-Kind-code
use Rattle.record.proofs.kind.Kind.displacing_map.Symbol as s-kind-Kind-displacing_map
use Rattle.record.proofs.kind.Kind.has_map.Symbol as s-kind-Kind-has_map
use Rattle.record.proofs.kind.Kind.map.Symbol as s-kind-Kind-map
use Rattle.record.proofs.kind.Kind.of_code.Symbol as s-kind-Kind-of_code
pub use Rattle.buffer.proofs.Linked.{table-buffer, Needs-buffer, needs-buffer}
pub use Rattle.names.proofs.Linked.{table-returned, Needs-returned, needs-returned, table-names, Needs-names, needs-names}

-- the crate's table
pub table-record : Tree
table-record = link.table

-- a world that has it, and those of the crates below
pub Needs-record : World → Type 0
Needs-record W = Holds W "record" table-record × b0.Needs-buffer W × b1.Needs-names W × Unit {0}

pub needs-record : (W : World) → Holds W "record" table-record → b0.Needs-buffer W → b1.Needs-names W → Needs-record W
unfolding Needs-record
needs-record W h n0 n1 = (h, n0, n1, tt)

below : (W : World) → Needs-record W → link.Below W
unfolding Needs-record
below W n = tt

pub linked-kind-Kind-code : (W : World) → Needs-record W → HasT (in_world W) true s-kind-Kind-code.code
unfolding Needs-record table-record
linked-kind-Kind-code W n = link.linked-record::kind::Kind::code W n.0 (below W n)

pub linked-kind-Kind-displacing_map : (W : World) → Needs-record W → HasT (in_world W) true s-kind-Kind-displacing_map.code
unfolding Needs-record table-record
linked-kind-Kind-displacing_map W n = link.linked-record::kind::Kind::displacing_map W n.0 (below W n)

pub linked-kind-Kind-has_map : (W : World) → Needs-record W → HasT (in_world W) true s-kind-Kind-has_map.code
unfolding Needs-record table-record
linked-kind-Kind-has_map W n = link.linked-record::kind::Kind::has_map W n.0 (below W n)

pub linked-kind-Kind-map : (W : World) → Needs-record W → HasT (in_world W) true s-kind-Kind-map.code
unfolding Needs-record table-record
linked-kind-Kind-map W n = link.linked-record::kind::Kind::map W n.0 (below W n)

pub linked-kind-Kind-of_code : (W : World) → Needs-record W → HasT (in_world W) true s-kind-Kind-of_code.code
unfolding Needs-record table-record
linked-kind-Kind-of_code W n = link.linked-record::kind::Kind::of_code W n.0 (below W n)
