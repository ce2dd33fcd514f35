-- `log_order::close_slot` meets its contract: a turn of the pass. Assumes nothing.
use native.Mathlib.Omega.{arith}
use Rattle.volume_tree.specs.Laws.Answer.{settled}
use Rattle.log_dependence.specs.Laws.Reached.{slot-told}
use Rattle.log_order.specs.Laws.Turn.{turn-found, turn-left}
use Rattle.log_order.proofs.close_slot.Goals as goal
use Rattle.log_order.proofs.close_slot.Goals.{then-waits+else-is_found, else-waits}

pub returns-then-o : goal.returns-then-o
returns-then-o c =
    let a = c.args in
    let told = slot-told a.s.now c.requires.slotted a.j c.requires.j_in_bounds.0 _ c.recorded-rec.ensures.0 c.order_of-o.result c.order_of-o.ensures.told in
    turn-found c.requires.j_in_bounds.0 (omega arith) (settled c.waits.ensures c.if-waits.true) told c.is_found.ensures c.if-is_found.true
    (λ ops k. c.add.ensures _ ops told k) (λ ops k. rw c.if-o.true k)

pub returns-then-is_found : goal.returns-then-is_found
returns-then-is_found c =
    let a = c.args in
    let told = slot-told a.s.now c.requires.slotted a.j c.requires.j_in_bounds.0 _ c.recorded-rec.ensures.0 c.order_of-o.result c.order_of-o.ensures.told in
    turn-found c.requires.j_in_bounds.0 (omega arith) (settled c.waits.ensures c.if-waits.true) told c.is_found.ensures c.if-is_found.true
    (λ ops k. c.add.ensures _ ops told k) (λ ops k. rw c.if-o.false (c.add-then-is_found.ensures _ ops told k))

pub returns : goal.returns
returns c =
    let a = c.args in
    turn-left c.requires.j_in_bounds.0 (omega arith) (λ pick ops k.
    elim c.if-waits.branch [
      | then-waits+else-is_found w ↦
          let wait = settled c.waits.ensures w.if-waits.true in
          let told =
          slot-told a.s.now c.requires.slotted a.j c.requires.j_in_bounds.0 _ w.recorded-rec.ensures.0 w.order_of-o.result w.order_of-o.ensures.told in
          rw wait (settled w.if-is_found.false (w.is_found.ensures.is pick ops wait told k))
      | else-waits w ↦ rw (settled c.waits.ensures w.if-waits.false)
    ])
