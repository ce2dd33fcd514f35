-- What a link of this crate and those below it needs, and that it finds the functions that other crates call.
use mathlib.Core.Bool.{true}
use prog.Linked.{Tree, World, Holds, in_world}
use prog.LinkedThreads.{HasT}
use Rattle.record_reader.proofs.TheLink as link
use Rattle.buffer.proofs.Linked as b0
use Rattle.names.proofs.Linked as b1
use Rattle.record.proofs.Linked as b2
use Rattle.record_valid.proofs.Linked as b3
use Rattle.record_reader.proofs.Place.head.Symbol as s-Place-head
use Rattle.record_reader.proofs.Place.objects.Symbol as s-Place-objects
use Rattle.record_reader.proofs.Place.range.Symbol as s-Place-range
use Rattle.record_reader.proofs.fit.fits.Symbol as s-fit-fits
use Rattle.record_reader.proofs.read_record.Symbol as s-read_record
pub use Rattle.record_valid.proofs.Linked.{table-buffer, Needs-buffer, needs-buffer, table-returned, Needs-returned, needs-returned, table-names, Needs-names, needs-names, table-record, Needs-record, needs-record, table-record_valid, Needs-record_valid, needs-record_valid}

-- the crate's table
pub table-record_reader : Tree
table-record_reader = link.table

-- a world that has it, and those of the crates below
pub Needs-record_reader : World → Type 0
Needs-record_reader W = Holds W "record_reader" table-record_reader × b0.Needs-buffer W × b1.Needs-names W × b2.Needs-record W × b3.Needs-record_valid W × Unit {0}

pub needs-record_reader : (W : World) → Holds W "record_reader" table-record_reader → b0.Needs-buffer W → b1.Needs-names W → b2.Needs-record W → b3.Needs-record_valid W → Needs-record_reader W
unfolding Needs-record_reader
needs-record_reader W h n0 n1 n2 n3 = (h, n0, n1, n2, n3, tt)

below : (W : World) → Needs-record_reader W → link.Below W
unfolding Needs-record_reader
below W n = (b0.linked-number-byte_at W n.1, (b0.linked-number-four_at W n.1, (b0.linked-number-two_at W n.1, (b0.linked-span-stretch_of W n.1, (b1.linked-name_text W n.2, (b2.linked-kind-Kind-has_map W n.3, (b2.linked-kind-Kind-of_code W n.3, (b3.linked-list-good_list W n.4, (b3.linked-list-list_below W n.4, (b3.linked-valid-differ W n.4, (b3.linked-valid-in_block W n.4, (b3.linked-valid-in_limits W n.4, (b3.linked-valid-stands W n.4, (b3.linked-valid-valid_head W n.4, (b3.linked-valid-within_blocks W n.4, tt)))))))))))))))

pub linked-Place-head : (W : World) → Needs-record_reader W → HasT (in_world W) true s-Place-head.code
unfolding Needs-record_reader table-record_reader
linked-Place-head W n = link.linked-record_reader::Place::head W n.0 (below W n)

pub linked-Place-objects : (W : World) → Needs-record_reader W → HasT (in_world W) true s-Place-objects.code
unfolding Needs-record_reader table-record_reader
linked-Place-objects W n = link.linked-record_reader::Place::objects W n.0 (below W n)

pub linked-Place-range : (W : World) → Needs-record_reader W → HasT (in_world W) true s-Place-range.code
unfolding Needs-record_reader table-record_reader
linked-Place-range W n = link.linked-record_reader::Place::range W n.0 (below W n)

pub linked-fit-fits : (W : World) → Needs-record_reader W → HasT (in_world W) true s-fit-fits.code
unfolding Needs-record_reader table-record_reader
linked-fit-fits W n = link.linked-record_reader::fit::fits W n.0 (below W n)

pub linked-read_record : (W : World) → Needs-record_reader W → HasT (in_world W) true s-read_record.code
unfolding Needs-record_reader table-record_reader
linked-read_record W n = link.linked-record_reader::read_record W n.0 (below W n)
