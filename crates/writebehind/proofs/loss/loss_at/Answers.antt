-- `writebehind::loss::loss_at` meets its contract. Assumes nothing.
use mathlib.Core.Path.{◌∙◌}
use Rattle.writebehind.specs.Laws.Loss.{read-loss}
use Rattle.writebehind.proofs.loss.loss_at.Goals as goal

pub returns-in-Some : goal.returns-in-Some
returns-in-Some c =
    let a = c.args in
    c.loss_in.ensures ∙ read-loss a.buffer.now a.at _ c.in-Some.ensures.exact

pub returns-in-None : goal.returns-in-None
returns-in-None c =
    let a = c.args in
    c.no_loss.ensures ∙ read-loss a.buffer.now a.at _ c.in-None.ensures.exact
