-- `log_touch::set::has` meets its contract: the byte of the object tells. Assumes nothing.
use Rattle.log_touch.proofs.set.has.Goals as goal

pub returns : goal.returns
returns c = λ ops held. held.same _
