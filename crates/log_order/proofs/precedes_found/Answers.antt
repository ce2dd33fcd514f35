-- `log_order::precedes_found` meets its contract. The loop's invariant: those found from the place on decide. Assumes nothing.
use native.Mathlib.Omega.{arith}
use Prim.Native.Nat.{◌<◌}
use mathlib.Core.Path.{refl, sym, ◌∙◌}
use mathlib.Core.List.{[], append-nil}
use lib.ListN.{length}
use borrow.Author.Tests.{eq-eqb, ne_eqb}
use Rattle.volume_tree.specs.Laws.Answer.{settled}
use Rattle.log_rules.proofs.Laws.Geometry.{slotted-length}
use Rattle.log_rules.specs.Code.Slots.{slots_in}
use Rattle.log_dependence.specs.Laws.Reached.{slot-told}
use Rattle.log_order.specs.Laws.Close.{after-hit, after_on, after-off, after-end}
use Rattle.log_order.proofs.precedes_found.Goals as goal
use Rattle.log_order.proofs.precedes_found.Goals.{then-found-j-eq1+else-directly_precedes, else-found-j-eq1}

pub loop-j-init : goal.loop-j-init
loop-j-init c =
    let a = c.args in (
      λ p told. record { objects = rw append-nil at (c.add.ensures p [] told c.none-set.ensures); stretch = told.stretch },
      λ p told. refl,
    )

pub bounds-found-j : goal.bounds-found-j
bounds-found-j c = omega (arith, slotted-length c.args.s.now c.requires.slotted)

pub recorded-later-requires : goal.recorded-later-requires
recorded-later-requires c = record { slotted = c.requires.slotted; i_in_bounds = omega (arith, slotted-length c.args.s.now c.requires.slotted) }

pub directly_precedes-requires : goal.directly_precedes-requires
directly_precedes-requires c =
    record { sized = c.order_of.ensures.sized; len_bound = c.requires.from_in_bounds.2.near }

pub returns-then-directly_precedes : goal.returns-then-directly_precedes
returns-then-directly_precedes c =
    let a = c.args in
    let w = c.loop-j.invariant in
    let lt : c.loop-j.j < length (slots_in a.s.now) = omega (arith, slotted-length a.s.now c.requires.slotted) in
    let room : c.loop-j.j < length a.found.now = omega arith in
    let later = slot-told a.s.now c.requires.slotted c.loop-j.j lt _ c.recorded-later.ensures.0 c.order_of.result c.order_of.ensures.told in
    λ p told. sym (w.1 p told ∙ after-hit p a.found.now (slots_in a.s.now) c.loop-j.j room lt (eq-eqb _ _ c.if-found-j-eq1.true)
    (settled (c.directly_precedes.ensures _ p later (w.0 p told)) c.if-directly_precedes.true))

pub loop-j-preserved : goal.loop-j-preserved
loop-j-preserved c =
    let a = c.args in
    let w = c.loop-j.invariant in
    let lt : c.loop-j.j < length (slots_in a.s.now) = omega (arith, slotted-length a.s.now c.requires.slotted) in
    let room : c.loop-j.j < length a.found.now = omega arith in (
      w.0,
      λ p told. w.1 p told
          ∙ elim c.if-found-j-eq1.branch [
            | then-found-j-eq1+else-directly_precedes w' ↦
                let later = slot-told a.s.now c.requires.slotted c.loop-j.j lt _ w'.recorded-later.ensures.0 w'.order_of.result w'.order_of.ensures.told in
                after_on p a.found.now (slots_in a.s.now) c.loop-j.j room lt (eq-eqb _ _ w'.if-found-j-eq1.true)
                (settled (w'.directly_precedes.ensures _ p later (w.0 p told)) w'.if-directly_precedes.false)
            | else-found-j-eq1 w' ↦ after-off p a.found.now (slots_in a.s.now) c.loop-j.j room lt (ne_eqb _ _ w'.if-found-j-eq1.false)
          ],
    )

pub returns : goal.returns
returns c =
    let a = c.args in
    let w = c.loop-j.invariant in
    λ p told. sym (w.1 p told ∙ after-end p a.found.now (slots_in a.s.now) c.loop-j.j (omega (arith, slotted-length a.s.now c.requires.slotted)))
