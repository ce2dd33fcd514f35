-- `volume_entry_form::root_formed` meets its contract: the kind's byte, and the bytes behind it. Assumes nothing.
use mathlib.Core.Path.{sym, ap, ◌∙◌}
use Rattle.buffer.specs.Code.Zero.{zeros}
use Rattle.buffer.specs.Laws.Span.{take_rest}
use Rattle.volume_entry_form.specs.Laws.Test.{root-other, root-zeros}
use Rattle.volume_entry_form.proofs.root_formed.Goals as goal

pub returns-then-e-eq2 : goal.returns-then-e-eq2
returns-then-e-eq2 c =
    let s = c.args.e.now in
    c.all_zero.ensures ∙ ap zeros (take_rest 1 s) ∙ sym (root-zeros s c.if-e-eq2.true)

pub returns : goal.returns
returns c = sym (root-other c.args.e.now c.if-e-eq2.false)
