-- `session_rename::leaves_parent` meets its contract. Assumes nothing.
use Rattle.volume_entry.specs.Entry.{is_directory}
use Rattle.volume_tree.specs.Laws.Answer.{settled, of_entry}
use Rattle.session_rename.proofs.leaves_parent.Goals as goal

pub returns-then-is_directory : goal.returns-then-is_directory
returns-then-is_directory c = rw (settled (of_entry is_directory c.entry.ensures c.is_directory.ensures) c.if-is_directory.true)

pub returns : goal.returns
returns c = rw (settled (of_entry is_directory c.entry.ensures c.is_directory.ensures) c.if-is_directory.false)
