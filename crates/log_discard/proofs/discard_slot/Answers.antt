-- `log_discard::discard_slot` meets its contract. Assumes nothing.
use native.Mathlib.Omega.{arith}
use mathlib.Core.Path.{ap, ◌∙◌}
use Rattle.log_rules.specs.Stored.{encode_slots}
use Rattle.log_rules.specs.Code.Slots.{slots_in}
use Rattle.volume_tree.specs.Laws.Answer.{settled}
use Rattle.log_discard.specs.Laws.Discard.{discard-waiting, discard-lost}
use Rattle.log_discard.proofs.discard_slot.Goals as goal

pub returns-then-waits : goal.returns-then-waits
returns-then-waits c =
    let a = c.args in
    let d = discard-waiting (slots_in a.s.now) a.i (settled c.waits.ensures c.if-waits.true) in
    (c.set_lost.ensures ∙ ap encode_slots d.0, c.dependents-found.ensures.0 ∙ d.1, c.dependents-found.ensures.1)

pub returns : goal.returns
returns c =
    let a = c.args in
    let d = discard-lost a.s.now c.requires.slotted a.i (settled c.waits.ensures c.if-waits.false) in
    (d.0, d.1, omega arith)
