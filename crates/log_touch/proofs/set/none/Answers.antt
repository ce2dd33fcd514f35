-- `log_touch::set::none` meets its contract: a set of zeros holds nothing.
-- Assumes nothing.
use Rattle.log_touch.specs.Laws.Loop.{holds-none}
use Rattle.log_touch.proofs.set.none.Goals as goal

pub returns : goal.returns
returns c = holds-none 256
