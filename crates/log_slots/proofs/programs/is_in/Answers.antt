-- `log_slots::programs::is_in` meets its contract. Assumes nothing.
use Prim.Native.Nat.{ℕ, ◌/◌, ◌%◌}
use mathlib.Core.Path.{ap}
use lib.Dec.{eqb}
use Rattle.log_slots.proofs.programs.is_in.Goals as goal

pub returns : goal.returns
returns c = ap (λ (k : ℕ). eqb (c.args.set / k % 2) 1) c.bit.ensures.0
