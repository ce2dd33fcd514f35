-- `log_form::slot::front_formed` meets its contract: the zero bytes, and then the state's byte with the dependents.
-- Assumes nothing.
use native.Mathlib.Omega.{arith}
use Rattle.std.proofs.lemmas.Grind.{common_steps}
use Rattle.log_form.specs.Code.Checks.{front_formed}
use Rattle.log_form.proofs.slot.front_formed.Goals as goal

pub returns-then-state-eq-WAITING : goal.returns-then-state-eq-WAITING
unfolding front_formed
returns-then-state-eq-WAITING c = grind (arith, common_steps)

pub returns-then-state-eq-LOST : goal.returns-then-state-eq-LOST
unfolding front_formed
returns-then-state-eq-LOST c = grind (arith, common_steps)

pub returns-else-state-eq-LOST : goal.returns-else-state-eq-LOST
unfolding front_formed
returns-else-state-eq-LOST c = grind (arith, common_steps)

pub returns-else-all_zero : goal.returns-else-all_zero
unfolding front_formed
returns-else-all_zero c = grind (arith, common_steps)
