-- `log_order::precedes_at` meets its contract: the slot's record tells its operands.
-- Assumes nothing.
use mathlib.Core.Path.{◌∙◌}
use Rattle.volume_tree.specs.Laws.Answer.{settled}
use Rattle.log_dependence.specs.Laws.Reached.{slot-told}
use Rattle.log_order.proofs.precedes_at.Goals as goal

pub returns-then-waits : goal.returns-then-waits
returns-then-waits c =
    let a = c.args in
    let ord = slot-told a.s.now c.requires.slotted a.j c.requires.j_in_bounds.0 _ c.recorded-rec.ensures.0 c.order_of.result c.order_of.ensures.told in
    λ q tell. c.directly_precedes.ensures _ q ord tell ∙ rw (settled c.waits.ensures c.if-waits.true)

pub returns : goal.returns
returns c = λ q tell. rw (settled c.waits.ensures c.if-waits.false)
