-- `log_slots::programs::union_of` meets its contract. Assumes nothing.
use mathlib.Core.Path.{sym}
use Rattle.log_rules.proofs.Laws.Bit.{union-or}
use Rattle.log_slots.proofs.programs.union_of.Goals as goal

pub returns : goal.returns
returns c = sym (union-or c.args.a c.args.b c.requires.0 c.requires.1)
