-- `log_order::run_precedes` meets its contract. The loop's invariant: the candidates from the place on decide.
-- Assumes nothing.
use native.Mathlib.Omega.{arith}
use mathlib.Core.Path.{◌≡◌, refl, sym, ◌∙◌}
use lib.Seq.{slice_empty}
use Rattle.volume_tree.specs.Laws.Answer.{settled}
use Rattle.log_rules.specs.Code.Slots.{slots_in}
use Rattle.log_order.specs.Laws.Precede.{some-none, run-next}
use Rattle.log_order.proofs.run_precedes.Goals as goal

pub loop-j-init : goal.loop-j-init
loop-j-init c = λ q tell. refl

pub precedes_at-requires : goal.precedes_at-requires
precedes_at-requires c =
    record { slotted = c.requires.slotted; j_in_bounds = (omega arith, c.requires.from_le_to.2) }

pub returns-then-precedes_at : goal.returns-then-precedes_at
returns-then-precedes_at c =
    let a = c.args in
    λ q tell. sym (c.loop-j.invariant q tell ∙ run-next q (slots_in a.s.now) c.loop-j.j a.to (omega arith) (omega arith) ∙ rw (settled (c.precedes_at.ensures q tell) c.if-precedes_at.true))

pub loop-j-preserved : goal.loop-j-preserved
loop-j-preserved c =
    let a = c.args in
    λ q tell. c.loop-j.invariant q tell ∙ run-next q (slots_in a.s.now) c.loop-j.j a.to (omega arith) (omega arith) ∙ rw (settled (c.precedes_at.ensures q tell) c.if-precedes_at.false)

pub returns : goal.returns
returns c =
    let a = c.args in
    let e : c.loop-j.j ≡ a.to = omega arith in
    λ q tell. sym (c.loop-j.invariant q tell ∙ rw (e, slice_empty a.to (slots_in a.s.now)) (some-none q))
