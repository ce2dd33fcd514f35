-- `log_take::renew` meets its contract. Assumes nothing.
use Prim.Native.Nat.{ℕ}
use mathlib.Core.Path.{ap, ◌∙◌}
use Rattle.log_rules.specs.Programs.{without}
use Rattle.log_rules.specs.Slot.{with_marks}
use Rattle.log_rules.specs.Stored.{encode_log, read_log}
use Rattle.log_take.proofs.renew.Goals as goal

pub returns : goal.returns
returns c =
    let a = c.args in
    let e = c.without_program-left.ensures ∙ ap (λ (k : ℕ). without k a.p) c.marks.ensures.0 in
    c.set_marks.ensures 256 64 c.requires.logged ∙ ap (λ (k : ℕ). encode_log a.m (with_marks k (read_log a.m a.log.now))) e
