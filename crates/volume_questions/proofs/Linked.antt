-- What a link of this crate and those below it needs, and that it finds the functions that other crates call.
use mathlib.Core.Bool.{true}
use prog.Linked.{Tree, World, Holds, in_world}
use prog.LinkedThreads.{HasT}
use Rattle.volume_questions.proofs.TheLink as link
use Rattle.buffer.proofs.Linked as b0
use Rattle.volume_entry.proofs.Linked as b1
use Rattle.volume_tree.proofs.Linked as b2
use Rattle.returned.proofs.Linked as b3
use Rattle.volume_questions.proofs.listing.RefusalFromListError.from.Symbol as s-listing-RefusalFromListError-from
use Rattle.volume_questions.proofs.listing.list.Symbol as s-listing-list
use Rattle.volume_questions.proofs.object.RefusalFromObjectError.from.Symbol as s-object-RefusalFromObjectError-from
use Rattle.volume_questions.proofs.object.object_at.Symbol as s-object-object_at
use Rattle.volume_questions.proofs.object.stat_of.Symbol as s-object-stat_of
use Rattle.volume_questions.proofs.reading.RefusalFromReadError.from.Symbol as s-reading-RefusalFromReadError-from
use Rattle.volume_questions.proofs.reading.read.Symbol as s-reading-read
pub use Rattle.volume_tree.proofs.Linked.{table-buffer, Needs-buffer, needs-buffer, table-returned, Needs-returned, needs-returned, table-names, Needs-names, needs-names, table-volume_entry, Needs-volume_entry, needs-volume_entry, table-volume_tree, Needs-volume_tree, needs-volume_tree}

-- the crate's table
pub table-volume_questions : Tree
table-volume_questions = link.table

-- a world that has it, and those of the crates below
pub Needs-volume_questions : World → Type 0
Needs-volume_questions W = Holds W "volume_questions" table-volume_questions × b0.Needs-buffer W × b1.Needs-volume_entry W × b2.Needs-volume_tree W × b3.Needs-returned W × Unit {0}

pub needs-volume_questions : (W : World) → Holds W "volume_questions" table-volume_questions → b0.Needs-buffer W → b1.Needs-volume_entry W → b2.Needs-volume_tree W → b3.Needs-returned W → Needs-volume_questions W
unfolding Needs-volume_questions
needs-volume_questions W h n0 n1 n2 n3 = (h, n0, n1, n2, n3, tt)

below : (W : World) → Needs-volume_questions W → link.Below W
unfolding Needs-volume_questions
below W n = (b0.linked-put-put_bytes W n.1, (b0.linked-put-put_one W n.1, (b0.linked-put-put_two W n.1, (b0.linked-span-stretch_of W n.1, (b1.linked-field-contents W n.2, (b1.linked-field-is_file W n.2, (b1.linked-field-is_used W n.2, (b1.linked-field-kind W n.2, (b1.linked-field-name W n.2, (b1.linked-field-usage_of W n.2, (b2.linked-entries-entry W n.3, (b2.linked-search-is_child W n.3, tt))))))))))))

pub linked-listing-RefusalFromListError-from : (W : World) → Needs-volume_questions W → HasT (in_world W) true s-listing-RefusalFromListError-from.code
unfolding Needs-volume_questions table-volume_questions
linked-listing-RefusalFromListError-from W n = link.linked-volume_questions::listing::RefusalFromListError::from W n.0 (below W n)

pub linked-listing-list : (W : World) → Needs-volume_questions W → HasT (in_world W) true s-listing-list.code
unfolding Needs-volume_questions table-volume_questions
linked-listing-list W n = link.linked-volume_questions::listing::list W n.0 (below W n)

pub linked-object-RefusalFromObjectError-from : (W : World) → Needs-volume_questions W → HasT (in_world W) true s-object-RefusalFromObjectError-from.code
unfolding Needs-volume_questions table-volume_questions
linked-object-RefusalFromObjectError-from W n = link.linked-volume_questions::object::RefusalFromObjectError::from W n.0 (below W n)

pub linked-object-object_at : (W : World) → Needs-volume_questions W → HasT (in_world W) true s-object-object_at.code
unfolding Needs-volume_questions table-volume_questions
linked-object-object_at W n = link.linked-volume_questions::object::object_at W n.0 (below W n)

pub linked-object-stat_of : (W : World) → Needs-volume_questions W → HasT (in_world W) true s-object-stat_of.code
unfolding Needs-volume_questions table-volume_questions
linked-object-stat_of W n = link.linked-volume_questions::object::stat_of W n.0 (below W n)

pub linked-reading-RefusalFromReadError-from : (W : World) → Needs-volume_questions W → HasT (in_world W) true s-reading-RefusalFromReadError-from.code
unfolding Needs-volume_questions table-volume_questions
linked-reading-RefusalFromReadError-from W n = link.linked-volume_questions::reading::RefusalFromReadError::from W n.0 (below W n)

pub linked-reading-read : (W : World) → Needs-volume_questions W → HasT (in_world W) true s-reading-read.code
unfolding Needs-volume_questions table-volume_questions
linked-reading-read W n = link.linked-volume_questions::reading::read W n.0 (below W n)
