-- `log_touch::set::one` meets its contract: the one byte that is 1 puts its object into a set of zeros.
-- Assumes nothing.
use borrow.Author.Rules.{rules}
use mathlib.Core.List.{[]}
use lib.ListN.{replicate}
use Rattle.log_touch.specs.Laws.Loop.{holds-none, holds_more}
use Rattle.log_touch.proofs.set.one.Goals as goal

pub returns : goal.returns
returns c = holds_more (replicate 256 0) c.args.object [] (search rules) (holds-none 256)
