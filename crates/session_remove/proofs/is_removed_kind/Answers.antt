-- `session_remove::is_removed_kind` meets its contract. Assumes nothing.
use Rattle.volume_entry.specs.Entry.{is_file, is_directory}
use Rattle.volume_tree.specs.Laws.Answer.{of_entry}
use Rattle.session_remove.proofs.is_removed_kind.Goals as goal

pub returns-then-directory : goal.returns-then-directory
returns-then-directory c = rw c.if-directory.true (of_entry is_directory c.entry.ensures c.is_directory.ensures)

pub returns : goal.returns
returns c = rw c.if-directory.false (of_entry is_file c.entry-2.ensures c.is_file.ensures)
