-- What a link of this crate and those below it needs, and that it finds the functions that other crates call.
use mathlib.Core.Bool.{true}
use prog.Linked.{Tree, World, Holds, in_world}
use prog.LinkedThreads.{HasT}
use Rattle.buffer.proofs.TheLink as link
use Rattle.buffer.proofs.number.byte_at.Symbol as s-number-byte_at
use Rattle.buffer.proofs.number.four_at.Symbol as s-number-four_at
use Rattle.buffer.proofs.number.two_at.Symbol as s-number-two_at
use Rattle.buffer.proofs.put.put_bytes.Symbol as s-put-put_bytes
use Rattle.buffer.proofs.put.put_four.Symbol as s-put-put_four
use Rattle.buffer.proofs.put.put_one.Symbol as s-put-put_one
use Rattle.buffer.proofs.put.put_two.Symbol as s-put-put_two
use Rattle.buffer.proofs.span.stretch_of.Symbol as s-span-stretch_of
use Rattle.buffer.proofs.zero.all_zero.Symbol as s-zero-all_zero
use Rattle.buffer.proofs.zero.clear.Symbol as s-zero-clear

-- the crate's table
pub table-buffer : Tree
table-buffer = link.table

-- a world that has it, and those of the crates below
pub Needs-buffer : World → Type 0
Needs-buffer W = Holds W "buffer" table-buffer × Unit {0}

pub needs-buffer : (W : World) → Holds W "buffer" table-buffer → Needs-buffer W
unfolding Needs-buffer
needs-buffer W h = (h, tt)

below : (W : World) → Needs-buffer W → link.Below W
unfolding Needs-buffer
below W n = tt

pub linked-number-byte_at : (W : World) → Needs-buffer W → HasT (in_world W) true s-number-byte_at.code
unfolding Needs-buffer table-buffer
linked-number-byte_at W n = link.linked-buffer::number::byte_at W n.0 (below W n)

pub linked-number-four_at : (W : World) → Needs-buffer W → HasT (in_world W) true s-number-four_at.code
unfolding Needs-buffer table-buffer
linked-number-four_at W n = link.linked-buffer::number::four_at W n.0 (below W n)

pub linked-number-two_at : (W : World) → Needs-buffer W → HasT (in_world W) true s-number-two_at.code
unfolding Needs-buffer table-buffer
linked-number-two_at W n = link.linked-buffer::number::two_at W n.0 (below W n)

pub linked-put-put_bytes : (W : World) → Needs-buffer W → HasT (in_world W) true s-put-put_bytes.code
unfolding Needs-buffer table-buffer
linked-put-put_bytes W n = link.linked-buffer::put::put_bytes W n.0 (below W n)

pub linked-put-put_four : (W : World) → Needs-buffer W → HasT (in_world W) true s-put-put_four.code
unfolding Needs-buffer table-buffer
linked-put-put_four W n = link.linked-buffer::put::put_four W n.0 (below W n)

pub linked-put-put_one : (W : World) → Needs-buffer W → HasT (in_world W) true s-put-put_one.code
unfolding Needs-buffer table-buffer
linked-put-put_one W n = link.linked-buffer::put::put_one W n.0 (below W n)

pub linked-put-put_two : (W : World) → Needs-buffer W → HasT (in_world W) true s-put-put_two.code
unfolding Needs-buffer table-buffer
linked-put-put_two W n = link.linked-buffer::put::put_two W n.0 (below W n)

pub linked-span-stretch_of : (W : World) → Needs-buffer W → HasT (in_world W) true s-span-stretch_of.code
unfolding Needs-buffer table-buffer
linked-span-stretch_of W n = link.linked-buffer::span::stretch_of W n.0 (below W n)

pub linked-zero-all_zero : (W : World) → Needs-buffer W → HasT (in_world W) true s-zero-all_zero.code
unfolding Needs-buffer table-buffer
linked-zero-all_zero W n = link.linked-buffer::zero::all_zero W n.0 (below W n)

pub linked-zero-clear : (W : World) → Needs-buffer W → HasT (in_world W) true s-zero-clear.code
unfolding Needs-buffer table-buffer
linked-zero-clear W n = link.linked-buffer::zero::clear W n.0 (below W n)
