-- `log_touch::set::add_object` meets its contract: the byte of the object is set to 1.
-- Assumes nothing.
use borrow.Author.Rules.{rules}
use Rattle.log_touch.specs.Laws.Loop.{holds_more}
use Rattle.log_touch.proofs.set.add_object.Goals as goal

pub returns : goal.returns
returns c = let a = c.args in λ ops held. holds_more a.set.now a.object ops (search rules) held
