-- What a link of this crate and those below it needs, and that it finds the functions that other crates call.
use mathlib.Core.Bool.{true}
use prog.Linked.{Tree, World, Holds, in_world}
use prog.LinkedThreads.{HasT}
use Rattle.paths.proofs.TheLink as link
use Rattle.returned.proofs.Linked as b0
use Rattle.paths.proofs.component.Symbol as s-component
use Rattle.paths.proofs.path_text.Symbol as s-path_text
pub use Rattle.returned.proofs.Linked.{table-returned, Needs-returned, needs-returned}

-- the crate's table
pub table-paths : Tree
table-paths = link.table

-- a world that has it, and those of the crates below
pub Needs-paths : World → Type 0
Needs-paths W = Holds W "paths" table-paths × b0.Needs-returned W × Unit {0}

pub needs-paths : (W : World) → Holds W "paths" table-paths → b0.Needs-returned W → Needs-paths W
unfolding Needs-paths
needs-paths W h n0 = (h, n0, tt)

below : (W : World) → Needs-paths W → link.Below W
unfolding Needs-paths
below W n = tt

pub linked-component : (W : World) → Needs-paths W → HasT (in_world W) true s-component.code
unfolding Needs-paths table-paths
linked-component W n = link.linked-paths::component W n.0 (below W n)

pub linked-path_text : (W : World) → Needs-paths W → HasT (in_world W) true s-path_text.code
unfolding Needs-paths table-paths
linked-path_text W n = link.linked-paths::path_text W n.0 (below W n)
