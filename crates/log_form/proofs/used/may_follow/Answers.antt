-- `log_form::used::may_follow` meets its contract: each test is one of `may_follow`.
-- Assumes nothing.
use native.Mathlib.Omega.{arith}
use Rattle.std.proofs.lemmas.Grind.{common_steps}
use Rattle.log_form.specs.Code.Checks.{may_follow}
use Rattle.log_form.proofs.used.may_follow.Goals as goal

pub returns-then-not-waits : goal.returns-then-not-waits
unfolding may_follow
returns-then-not-waits c = grind (arith, common_steps)

pub returns-else-not-waits : goal.returns-else-not-waits
unfolding may_follow
returns-else-not-waits c = grind (arith, common_steps)

pub returns-else-sequence-next : goal.returns-else-sequence-next
unfolding may_follow
returns-else-sequence-next c = grind (arith, common_steps)
