-- `names::lower_case` meets its contract. Assumes nothing.
use mathlib.Core.Path.{sym}
use native.Mathlib.Omega.{arith}
use Rattle.names.proofs.Laws.Name.{capital-lower, below-lower, above_lower}
use Rattle.names.proofs.lower_case.Goals as goal

pub returns-then-v-le90 : goal.returns-then-v-le90
returns-then-v-le90 c = sym (capital-lower _ (omega arith) (omega arith))

pub returns-else-v-le90 : goal.returns-else-v-le90
returns-else-v-le90 c = sym (above_lower _ (omega arith))

pub returns-else-v-ge65 : goal.returns-else-v-ge65
returns-else-v-ge65 c = sym (below-lower _ (omega arith))
