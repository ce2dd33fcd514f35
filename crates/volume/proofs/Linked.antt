-- What a link of this crate and those below it needs, and that it finds the functions that other crates call.
use mathlib.Core.Bool.{true}
use prog.Linked.{Tree, World, Holds, in_world}
use prog.LinkedThreads.{HasT}
use Rattle.volume.proofs.TheLink as link
use Rattle.buffer.proofs.Linked as b0
use Rattle.record_valid.proofs.Linked as b1
use Rattle.volume_write.proofs.Linked as b2
use Rattle.volume_applies.proofs.Linked as b3
use Rattle.volume_tree.proofs.Linked as b4
use Rattle.volume_entry.proofs.Linked as b5
use Rattle.record_reader.proofs.Linked as b6
use Rattle.record.proofs.Linked as b7
use Rattle.names.proofs.Linked as b8
use Rattle.volume.proofs.apply.apply.Symbol as s-apply-apply
pub use Rattle.volume_applies.proofs.Linked.{table-buffer, Needs-buffer, needs-buffer, table-returned, Needs-returned, needs-returned, table-names, Needs-names, needs-names, table-volume_entry, Needs-volume_entry, needs-volume_entry, table-volume_tree, Needs-volume_tree, needs-volume_tree, table-record, Needs-record, needs-record, table-record_valid, Needs-record_valid, needs-record_valid, table-record_reader, Needs-record_reader, needs-record_reader, table-volume_applies, Needs-volume_applies, needs-volume_applies}
pub use Rattle.volume_write.proofs.Linked.{table-volume_write, Needs-volume_write, needs-volume_write}

-- the crate's table
pub table-volume : Tree
table-volume = link.table

-- a world that has it, and those of the crates below
pub Needs-volume : World → Type 0
Needs-volume W = Holds W "volume" table-volume × b0.Needs-buffer W × b1.Needs-record_valid W × b2.Needs-volume_write W × b3.Needs-volume_applies W × b4.Needs-volume_tree W × b5.Needs-volume_entry W × b6.Needs-record_reader W × b7.Needs-record W × b8.Needs-names W × Unit {0}

pub needs-volume : (W : World) → Holds W "volume" table-volume → b0.Needs-buffer W → b1.Needs-record_valid W → b2.Needs-volume_write W → b3.Needs-volume_applies W → b4.Needs-volume_tree W → b5.Needs-volume_entry W → b6.Needs-record_reader W → b7.Needs-record W → b8.Needs-names W → Needs-volume W
unfolding Needs-volume
needs-volume W h n0 n1 n2 n3 n4 n5 n6 n7 n8 = (h, n0, n1, n2, n3, n4, n5, n6, n7, n8, tt)

below : (W : World) → Needs-volume W → link.Below W
unfolding Needs-volume
below W n = (b0.linked-span-stretch_of W n.1, (b1.linked-valid-stands W n.2, (b2.linked-write-append_file W n.3, (b2.linked-write-free_entry W n.3, (b2.linked-write-make_entry W n.3, (b2.linked-write-overwrite_file W n.3, (b2.linked-write-rename_entry W n.3, (b2.linked-write-set_file_length W n.3, tt))))))))

pub linked-apply-apply : (W : World) → Needs-volume W → HasT (in_world W) true s-apply-apply.code
unfolding Needs-volume table-volume
linked-apply-apply W n = link.linked-volume::apply::apply W n.0 (below W n)
