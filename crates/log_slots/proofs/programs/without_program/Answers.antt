-- `log_slots::programs::without_program` meets its contract: a program in a set has its bit in it. Assumes nothing.
use Prim.Native.Nat.{ℕ, ◌-◌}
use mathlib.Core.Path.{ap, ◌∙◌}
use native.Mathlib.Omega.{arith}
use Rattle.log_rules.proofs.Laws.Program.{holds-most}
use Rattle.volume_tree.specs.Laws.Answer.{settled}
use Rattle.log_slots.specs.Laws.Program.{without_in, without-out}
use Rattle.log_slots.proofs.programs.without_program.Goals as goal

pub overflow_sub-result : goal.overflow_sub-result
overflow_sub-result c =
    let a = c.args in
    omega (arith, c.bit.ensures.0, holds-most a.set a.p (settled c.is_in.ensures c.if-is_in.true))

pub returns-then-is_in : goal.returns-then-is_in
returns-then-is_in c =
    let a = c.args in
    ap (λ (k : ℕ). a.set - k) c.bit.ensures.0 ∙ without_in a.set a.p (settled c.is_in.ensures c.if-is_in.true)

pub returns : goal.returns
returns c = let a = c.args in without-out a.set a.p (settled c.is_in.ensures c.if-is_in.false)
