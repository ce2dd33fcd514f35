-- `writebehind::loss::loss_in` meets its contract. Assumes nothing.
use Prim.Native.Nat.{ℕ}
use mathlib.Core.Path.{ap}
use Rattle.writebehind.specs.Loss.{loss_with}
use Rattle.writebehind.proofs.loss.loss_in.Goals as goal

pub returns : goal.returns
returns c =
    ap (λ (k : ℕ). loss_with k c.args.w) c.code.ensures
