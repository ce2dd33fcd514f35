-- `log_operands::nothing` meets its contract: zeros lie within the limits.
-- Assumes nothing.
use native.Mathlib.Omega.{arith}
use Rattle.log_operands.specs.Laws.Order.{small-fields, unlisted}
use Rattle.log_operands.proofs.nothing.Goals as goal

pub returns : goal.returns
returns c =
    rw c.first.ensures (record { few = omega arith; small = small-fields _ (omega arith) (omega arith) (omega arith) (omega arith); listed = unlisted c.args.rec.now; near = omega arith })
