-- `log_form::is_lent` meets its contract: each test is one of `lent_log`.
-- Assumes nothing.
use native.Mathlib.Omega.{arith}
use Rattle.std.proofs.lemmas.Grind.{common_steps}
use Rattle.log_rules.specs.Stored.{lent_log}
use Rattle.log_form.proofs.is_lent.Goals as goal

pub returns-then-m-le1024 : goal.returns-then-m-le1024
unfolding lent_log
returns-then-m-le1024 c = grind (arith, common_steps)

pub returns-else-m-le1024 : goal.returns-else-m-le1024
unfolding lent_log
returns-else-m-le1024 c = grind (arith, common_steps)
