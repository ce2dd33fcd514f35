-- `session_make::make_directory` meets its contract: that of `make`, of a directory. Assumes nothing.
use Rattle.session_make.proofs.make_directory.Goals as goal

pub returns : goal.returns
returns c = c.make.ensures
