-- `log_dependence::reach::reach_slot` meets its contract: the slot's record tells its operands.
-- Assumes nothing.
use mathlib.Core.Path.{sym}
use mathlib.Core.Bool.{true, false}
use Rattle.volume_tree.specs.Laws.Answer.{settled}
use Rattle.log_dependence.specs.Laws.Reached.{slot-told, tried-waiting, tried-lost}
use Rattle.log_dependence.proofs.reach.reach_slot.Goals as goal

pub returns-then-shares_any : goal.returns-then-shares_any
returns-then-shares_any c =
    let a = c.args in
    let ord = slot-told a.s.now c.requires.slotted a.i c.requires.i_in_bounds _ c.recorded-rec.ensures.0 c.order_of-o.result c.order_of-o.ensures.told in
    tried-waiting _ a.reached.now c.add.new.set true (settled c.waits.ensures c.if-waits.true)
    (λ ops held. sym (settled (c.shares_any.ensures _ ops ord held) c.if-shares_any.true)) (λ ops held. c.add.ensures _ ops ord held)

pub returns-else-shares_any : goal.returns-else-shares_any
returns-else-shares_any c =
    let a = c.args in
    let ord = slot-told a.s.now c.requires.slotted a.i c.requires.i_in_bounds _ c.recorded-rec.ensures.0 c.order_of-o.result c.order_of-o.ensures.told in
    tried-waiting _ a.reached.now a.reached.now false (settled c.waits.ensures c.if-waits.true)
    (λ ops held. sym (settled (c.shares_any.ensures _ ops ord held) c.if-shares_any.false)) (λ ops held. held)

pub returns-else-waits : goal.returns-else-waits
returns-else-waits c = let a = c.args in tried-lost _ a.reached.now (settled c.waits.ensures c.if-waits.false)
