-- `session_remove::remove_file` meets its contract: that of `remove`, of a file. Assumes nothing.
use Rattle.session_remove.proofs.remove_file.Goals as goal

pub returns : goal.returns
returns c = c.remove.ensures
