-- What a link of this crate and those below it needs, and that it finds the functions that other crates call.
use mathlib.Core.Bool.{true}
use prog.Linked.{Tree, World, Holds, in_world}
use prog.LinkedThreads.{HasT}
use Rattle.volume_entry.proofs.TheLink as link
use Rattle.buffer.proofs.Linked as b0
use Rattle.names.proofs.Linked as b1
use Rattle.volume_entry.proofs.field.contents.Symbol as s-field-contents
use Rattle.volume_entry.proofs.field.has_name.Symbol as s-field-has_name
use Rattle.volume_entry.proofs.field.is_directory.Symbol as s-field-is_directory
use Rattle.volume_entry.proofs.field.is_file.Symbol as s-field-is_file
use Rattle.volume_entry.proofs.field.is_used.Symbol as s-field-is_used
use Rattle.volume_entry.proofs.field.kind.Symbol as s-field-kind
use Rattle.volume_entry.proofs.field.name.Symbol as s-field-name
use Rattle.volume_entry.proofs.field.parent.Symbol as s-field-parent
use Rattle.volume_entry.proofs.field.usage_of.Symbol as s-field-usage_of
use Rattle.volume_entry.proofs.write.put_head.Symbol as s-write-put_head
pub use Rattle.buffer.proofs.Linked.{table-buffer, Needs-buffer, needs-buffer}
pub use Rattle.names.proofs.Linked.{table-returned, Needs-returned, needs-returned, table-names, Needs-names, needs-names}

-- the crate's table
pub table-volume_entry : Tree
table-volume_entry = link.table

-- a world that has it, and those of the crates below
pub Needs-volume_entry : World → Type 0
Needs-volume_entry W = Holds W "volume_entry" table-volume_entry × b0.Needs-buffer W × b1.Needs-names W × Unit {0}

pub needs-volume_entry : (W : World) → Holds W "volume_entry" table-volume_entry → b0.Needs-buffer W → b1.Needs-names W → Needs-volume_entry W
unfolding Needs-volume_entry
needs-volume_entry W h n0 n1 = (h, n0, n1, tt)

below : (W : World) → Needs-volume_entry W → link.Below W
unfolding Needs-volume_entry
below W n = (b0.linked-number-byte_at W n.1, (b0.linked-number-four_at W n.1, (b0.linked-number-two_at W n.1, (b0.linked-put-put_bytes W n.1, (b0.linked-put-put_one W n.1, (b0.linked-put-put_two W n.1, (b0.linked-span-stretch_of W n.1, (b0.linked-zero-clear W n.1, tt))))))))

pub linked-field-contents : (W : World) → Needs-volume_entry W → HasT (in_world W) true s-field-contents.code
unfolding Needs-volume_entry table-volume_entry
linked-field-contents W n = link.linked-volume_entry::field::contents W n.0 (below W n)

pub linked-field-has_name : (W : World) → Needs-volume_entry W → HasT (in_world W) true s-field-has_name.code
unfolding Needs-volume_entry table-volume_entry
linked-field-has_name W n = link.linked-volume_entry::field::has_name W n.0 (below W n)

pub linked-field-is_directory : (W : World) → Needs-volume_entry W → HasT (in_world W) true s-field-is_directory.code
unfolding Needs-volume_entry table-volume_entry
linked-field-is_directory W n = link.linked-volume_entry::field::is_directory W n.0 (below W n)

pub linked-field-is_file : (W : World) → Needs-volume_entry W → HasT (in_world W) true s-field-is_file.code
unfolding Needs-volume_entry table-volume_entry
linked-field-is_file W n = link.linked-volume_entry::field::is_file W n.0 (below W n)

pub linked-field-is_used : (W : World) → Needs-volume_entry W → HasT (in_world W) true s-field-is_used.code
unfolding Needs-volume_entry table-volume_entry
linked-field-is_used W n = link.linked-volume_entry::field::is_used W n.0 (below W n)

pub linked-field-kind : (W : World) → Needs-volume_entry W → HasT (in_world W) true s-field-kind.code
unfolding Needs-volume_entry table-volume_entry
linked-field-kind W n = link.linked-volume_entry::field::kind W n.0 (below W n)

pub linked-field-name : (W : World) → Needs-volume_entry W → HasT (in_world W) true s-field-name.code
unfolding Needs-volume_entry table-volume_entry
linked-field-name W n = link.linked-volume_entry::field::name W n.0 (below W n)

pub linked-field-parent : (W : World) → Needs-volume_entry W → HasT (in_world W) true s-field-parent.code
unfolding Needs-volume_entry table-volume_entry
linked-field-parent W n = link.linked-volume_entry::field::parent W n.0 (below W n)

pub linked-field-usage_of : (W : World) → Needs-volume_entry W → HasT (in_world W) true s-field-usage_of.code
unfolding Needs-volume_entry table-volume_entry
linked-field-usage_of W n = link.linked-volume_entry::field::usage_of W n.0 (below W n)

pub linked-write-put_head : (W : World) → Needs-volume_entry W → HasT (in_world W) true s-write-put_head.code
unfolding Needs-volume_entry table-volume_entry
linked-write-put_head W n = link.linked-volume_entry::write::put_head W n.0 (below W n)
