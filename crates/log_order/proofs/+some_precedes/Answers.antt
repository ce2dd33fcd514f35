-- `log_order::some_precedes` meets its contract: a run of candidates, and those before it. Assumes nothing.
use native.Mathlib.Omega.{arith}
use mathlib.Core.Path.{sym, ◌∙◌}
use Rattle.volume_tree.specs.Laws.Answer.{settled}
use Rattle.log_rules.specs.Code.Slots.{slots_in}
use Rattle.log_order.specs.Laws.Precede.{some-none, some_more}
use Rattle.log_order.proofs.+some_precedes.Goals as goal

pub returns-then-i-eq0 : goal.returns-then-i-eq0
returns-then-i-eq0 t c = λ q tell. rw c.if-i-eq0.true (sym (some-none q))

pub returns-then-run_precedes : goal.returns-then-run_precedes
returns-then-run_precedes t c =
    λ q tell. sym (some_more q (slots_in c.args.s.now) c.run_start-from.result c.args.i (omega arith)
    ∙ rw (settled (c.run_precedes.ensures q tell) c.if-run_precedes.true))

pub returns : goal.returns
returns t c =
    λ q tell. c.some_precedes.ensures q tell
    ∙ sym (some_more q (slots_in c.args.s.now) c.run_start-from.result c.args.i (omega arith)
    ∙ rw (settled (c.run_precedes.ensures q tell) c.if-run_precedes.false))
