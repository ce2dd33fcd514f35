-- What a link of this crate and those below it needs, and that it finds the functions that other crates call.
use mathlib.Core.Bool.{true}
use prog.Linked.{Tree, World, Holds, in_world}
use prog.LinkedThreads.{HasT}
use Rattle.volume_write.proofs.TheLink as link
use Rattle.buffer.proofs.Linked as b0
use Rattle.volume_entry.proofs.Linked as b1
use Rattle.volume_tree.proofs.Linked as b2
use Rattle.names.proofs.Linked as b3
use Rattle.volume_write.proofs.format.copy_volume.Symbol as s-format-copy_volume
use Rattle.volume_write.proofs.format.format_volume.Symbol as s-format-format_volume
use Rattle.volume_write.proofs.write.append_file.Symbol as s-write-append_file
use Rattle.volume_write.proofs.write.free_entry.Symbol as s-write-free_entry
use Rattle.volume_write.proofs.write.make_entry.Symbol as s-write-make_entry
use Rattle.volume_write.proofs.write.overwrite_file.Symbol as s-write-overwrite_file
use Rattle.volume_write.proofs.write.rename_entry.Symbol as s-write-rename_entry
use Rattle.volume_write.proofs.write.set_file_length.Symbol as s-write-set_file_length
pub use Rattle.volume_tree.proofs.Linked.{table-buffer, Needs-buffer, needs-buffer, table-returned, Needs-returned, needs-returned, table-names, Needs-names, needs-names, table-volume_entry, Needs-volume_entry, needs-volume_entry, table-volume_tree, Needs-volume_tree, needs-volume_tree}

-- the crate's table
pub table-volume_write : Tree
table-volume_write = link.table

-- a world that has it, and those of the crates below
pub Needs-volume_write : World → Type 0
Needs-volume_write W = Holds W "volume_write" table-volume_write × b0.Needs-buffer W × b1.Needs-volume_entry W × b2.Needs-volume_tree W × b3.Needs-names W × Unit {0}

pub needs-volume_write : (W : World) → Holds W "volume_write" table-volume_write → b0.Needs-buffer W → b1.Needs-volume_entry W → b2.Needs-volume_tree W → b3.Needs-names W → Needs-volume_write W
unfolding Needs-volume_write
needs-volume_write W h n0 n1 n2 n3 = (h, n0, n1, n2, n3, tt)

below : (W : World) → Needs-volume_write W → link.Below W
unfolding Needs-volume_write
below W n = (b0.linked-put-put_bytes W n.1, (b0.linked-put-put_four W n.1, (b0.linked-zero-clear W n.1, (b1.linked-field-contents W n.2, (b1.linked-field-kind W n.2, (b1.linked-write-put_head W n.2, (b2.linked-entries-entry W n.3, tt)))))))

pub linked-format-copy_volume : (W : World) → Needs-volume_write W → HasT (in_world W) true s-format-copy_volume.code
unfolding Needs-volume_write table-volume_write
linked-format-copy_volume W n = link.linked-volume_write::format::copy_volume W n.0 (below W n)

pub linked-format-format_volume : (W : World) → Needs-volume_write W → HasT (in_world W) true s-format-format_volume.code
unfolding Needs-volume_write table-volume_write
linked-format-format_volume W n = link.linked-volume_write::format::format_volume W n.0 (below W n)

pub linked-write-append_file : (W : World) → Needs-volume_write W → HasT (in_world W) true s-write-append_file.code
unfolding Needs-volume_write table-volume_write
linked-write-append_file W n = link.linked-volume_write::write::append_file W n.0 (below W n)

pub linked-write-free_entry : (W : World) → Needs-volume_write W → HasT (in_world W) true s-write-free_entry.code
unfolding Needs-volume_write table-volume_write
linked-write-free_entry W n = link.linked-volume_write::write::free_entry W n.0 (below W n)

pub linked-write-make_entry : (W : World) → Needs-volume_write W → HasT (in_world W) true s-write-make_entry.code
unfolding Needs-volume_write table-volume_write
linked-write-make_entry W n = link.linked-volume_write::write::make_entry W n.0 (below W n)

pub linked-write-overwrite_file : (W : World) → Needs-volume_write W → HasT (in_world W) true s-write-overwrite_file.code
unfolding Needs-volume_write table-volume_write
linked-write-overwrite_file W n = link.linked-volume_write::write::overwrite_file W n.0 (below W n)

pub linked-write-rename_entry : (W : World) → Needs-volume_write W → HasT (in_world W) true s-write-rename_entry.code
unfolding Needs-volume_write table-volume_write
linked-write-rename_entry W n = link.linked-volume_write::write::rename_entry W n.0 (below W n)

pub linked-write-set_file_length : (W : World) → Needs-volume_write W → HasT (in_world W) true s-write-set_file_length.code
unfolding Needs-volume_write table-volume_write
linked-write-set_file_length W n = link.linked-volume_write::write::set_file_length W n.0 (below W n)
