-- What a link of this crate and those below it needs, and that it finds the functions that other crates call.
use mathlib.Core.Bool.{true}
use prog.Linked.{Tree, World, Holds, in_world}
use prog.LinkedThreads.{HasT}
use Rattle.record_valid.proofs.TheLink as link
use Rattle.buffer.proofs.Linked as b0
use Rattle.record.proofs.Linked as b1
use Rattle.record_valid.proofs.list.good_list.Symbol as s-list-good_list
use Rattle.record_valid.proofs.list.list_below.Symbol as s-list-list_below
use Rattle.record_valid.proofs.list.object_of.Symbol as s-list-object_of
use Rattle.record_valid.proofs.valid.differ.Symbol as s-valid-differ
use Rattle.record_valid.proofs.valid.in_block.Symbol as s-valid-in_block
use Rattle.record_valid.proofs.valid.in_limits.Symbol as s-valid-in_limits
use Rattle.record_valid.proofs.valid.stands.Symbol as s-valid-stands
use Rattle.record_valid.proofs.valid.valid_head.Symbol as s-valid-valid_head
use Rattle.record_valid.proofs.valid.within_blocks.Symbol as s-valid-within_blocks
pub use Rattle.record.proofs.Linked.{table-buffer, Needs-buffer, needs-buffer, table-returned, Needs-returned, needs-returned, table-names, Needs-names, needs-names, table-record, Needs-record, needs-record}

-- the crate's table
pub table-record_valid : Tree
table-record_valid = link.table

-- a world that has it, and those of the crates below
pub Needs-record_valid : World → Type 0
Needs-record_valid W = Holds W "record_valid" table-record_valid × b0.Needs-buffer W × b1.Needs-record W × Unit {0}

pub needs-record_valid : (W : World) → Holds W "record_valid" table-record_valid → b0.Needs-buffer W → b1.Needs-record W → Needs-record_valid W
unfolding Needs-record_valid
needs-record_valid W h n0 n1 = (h, n0, n1, tt)

below : (W : World) → Needs-record_valid W → link.Below W
unfolding Needs-record_valid
below W n = (b0.linked-number-two_at W n.1, tt)

pub linked-list-good_list : (W : World) → Needs-record_valid W → HasT (in_world W) true s-list-good_list.code
unfolding Needs-record_valid table-record_valid
linked-list-good_list W n = link.linked-record_valid::list::good_list W n.0 (below W n)

pub linked-list-list_below : (W : World) → Needs-record_valid W → HasT (in_world W) true s-list-list_below.code
unfolding Needs-record_valid table-record_valid
linked-list-list_below W n = link.linked-record_valid::list::list_below W n.0 (below W n)

pub linked-list-object_of : (W : World) → Needs-record_valid W → HasT (in_world W) true s-list-object_of.code
unfolding Needs-record_valid table-record_valid
linked-list-object_of W n = link.linked-record_valid::list::object_of W n.0 (below W n)

pub linked-valid-differ : (W : World) → Needs-record_valid W → HasT (in_world W) true s-valid-differ.code
unfolding Needs-record_valid table-record_valid
linked-valid-differ W n = link.linked-record_valid::valid::differ W n.0 (below W n)

pub linked-valid-in_block : (W : World) → Needs-record_valid W → HasT (in_world W) true s-valid-in_block.code
unfolding Needs-record_valid table-record_valid
linked-valid-in_block W n = link.linked-record_valid::valid::in_block W n.0 (below W n)

pub linked-valid-in_limits : (W : World) → Needs-record_valid W → HasT (in_world W) true s-valid-in_limits.code
unfolding Needs-record_valid table-record_valid
linked-valid-in_limits W n = link.linked-record_valid::valid::in_limits W n.0 (below W n)

pub linked-valid-stands : (W : World) → Needs-record_valid W → HasT (in_world W) true s-valid-stands.code
unfolding Needs-record_valid table-record_valid
linked-valid-stands W n = link.linked-record_valid::valid::stands W n.0 (below W n)

pub linked-valid-valid_head : (W : World) → Needs-record_valid W → HasT (in_world W) true s-valid-valid_head.code
unfolding Needs-record_valid table-record_valid
linked-valid-valid_head W n = link.linked-record_valid::valid::valid_head W n.0 (below W n)

pub linked-valid-within_blocks : (W : World) → Needs-record_valid W → HasT (in_world W) true s-valid-within_blocks.code
unfolding Needs-record_valid table-record_valid
linked-valid-within_blocks W n = link.linked-record_valid::valid::within_blocks W n.0 (below W n)
