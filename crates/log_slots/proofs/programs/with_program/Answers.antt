-- `log_slots::programs::with_program` meets its contract. Assumes nothing.
use Prim.Native.Nat.{◌+◌}
use mathlib.Core.Path.{ap, ◌∙◌}
use Rattle.volume_tree.specs.Laws.Answer.{settled}
use Rattle.log_slots.specs.Laws.Program.{with_in, with_out}
use Rattle.log_slots.proofs.programs.with_program.Goals as goal

pub returns-then-is_in : goal.returns-then-is_in
returns-then-is_in c = let a = c.args in with_in a.set a.p (settled c.is_in.ensures c.if-is_in.true)

pub returns : goal.returns
returns c =
    let a = c.args in
    ap (a.set +◌) c.bit.ensures.0 ∙ with_out a.set a.p (settled c.is_in.ensures c.if-is_in.false)
