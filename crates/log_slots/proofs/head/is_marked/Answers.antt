-- `log_slots::head::is_marked` meets its contract. Assumes nothing.
use Prim.Native.Nat.{ℕ}
use mathlib.Core.Path.{ap, ◌∙◌}
use Rattle.log_rules.specs.Programs.{holds}
use Rattle.log_slots.proofs.head.is_marked.Goals as goal

pub returns : goal.returns
returns c = c.is_in.ensures ∙ ap (λ (k : ℕ). holds k c.args.p) c.marks.ensures.0
