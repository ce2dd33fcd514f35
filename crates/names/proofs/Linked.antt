-- What a link of this crate and those below it needs, and that it finds the functions that other crates call.
use mathlib.Core.Bool.{true}
use prog.Linked.{Tree, World, Holds, in_world}
use prog.LinkedThreads.{HasT}
use Rattle.names.proofs.TheLink as link
use Rattle.returned.proofs.Linked as b0
use Rattle.names.proofs.RefusalFromNameError.from.Symbol as s-RefusalFromNameError-from
use Rattle.names.proofs.name_text.Symbol as s-name_text
use Rattle.names.proofs.same_name.Symbol as s-same_name
pub use Rattle.returned.proofs.Linked.{table-returned, Needs-returned, needs-returned}

-- the crate's table
pub table-names : Tree
table-names = link.table

-- a world that has it, and those of the crates below
pub Needs-names : World → Type 0
Needs-names W = Holds W "names" table-names × b0.Needs-returned W × Unit {0}

pub needs-names : (W : World) → Holds W "names" table-names → b0.Needs-returned W → Needs-names W
unfolding Needs-names
needs-names W h n0 = (h, n0, tt)

below : (W : World) → Needs-names W → link.Below W
unfolding Needs-names
below W n = tt

pub linked-RefusalFromNameError-from : (W : World) → Needs-names W → HasT (in_world W) true s-RefusalFromNameError-from.code
unfolding Needs-names table-names
linked-RefusalFromNameError-from W n = link.linked-names::RefusalFromNameError::from W n.0 (below W n)

pub linked-name_text : (W : World) → Needs-names W → HasT (in_world W) true s-name_text.code
unfolding Needs-names table-names
linked-name_text W n = link.linked-names::name_text W n.0 (below W n)

pub linked-same_name : (W : World) → Needs-names W → HasT (in_world W) true s-same_name.code
unfolding Needs-names table-names
linked-same_name W n = link.linked-names::same_name W n.0 (below W n)
