-- `log_discard::discard` meets its contract: the used slots are lent on as a part, and then the marks are written.
-- Assumes nothing.
use Rattle.log_slots.specs.Laws.Head.{lent-slotted}
use Rattle.log_discard.specs.Laws.Discard.{cut-back, lost-logged, cut-whole}
use Rattle.log_discard.proofs.discard.Goals as goal

pub discard_slots-found-requires : goal.discard_slots-found-requires
discard_slots-found-requires c =
    let a = c.args in
    lent-slotted 256 64 a.m a.log.now c.requires c.used.result (c.used.ensures.1 256 64 c.requires)

pub returns : goal.returns
returns c =
    let a = c.args in
    let e = c.used.ensures.1 256 64 c.requires in
    let h = cut-back a.m a.log.now c.requires e c.discard_slots-found.ensures.0 in
    cut-whole a.m a.log.now c.requires e h c.marks.ensures.0 c.discard_slots-found.ensures.1 c.union_of-all.ensures
    (c.set_marks.ensures 256 64 (lost-logged a.m a.log.now c.requires e h))
