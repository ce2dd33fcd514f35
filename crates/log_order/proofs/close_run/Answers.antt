-- `log_order::close_run` meets its contract. The loop's invariant: the pass has gone on to the place. Assumes nothing.
use Prim.Native.Nat.{◌+◌, ◌-◌}
use native.Mathlib.Omega.{arith}
use mathlib.Core.Path.{◌≡◌, refl, ◌∙◌}
use Rattle.log_rules.specs.Code.Slots.{slots_in}
use Rattle.log_order.specs.Laws.Close.{closed_none, closed_on}
use Rattle.log_order.proofs.close_run.Goals as goal

pub loop-j-init : goal.loop-j-init
loop-j-init c =
    let a = c.args in
    (c.requires.from_le_to.0, refl, closed_none (slots_in a.s.now) a.to a.found.now a.all.now a.others.now)

pub close_slot-count-requires : goal.close_slot-count-requires
close_slot-count-requires c =
    record { slotted = c.requires.slotted; j_in_bounds = (omega arith, omega arith); rising = c.requires.rising }

pub overflow_add-count : goal.overflow_add-count
overflow_add-count c = omega (arith, c.loop-j.invariant.2.most, c.close_slot-count.ensures.most)

pub loop-j-preserved : goal.loop-j-preserved
loop-j-preserved c =
    let a = c.args in
    let e : c.loop-j.j - 1 + 1 ≡ c.loop-j.j = omega arith in (
      omega arith,
      c.close_slot-count.auto.found ∙ c.loop-j.invariant.1,
      closed_on (slots_in a.s.now) a.to c.loop-j.j (c.loop-j.j - 1) a.found.now a.all.now a.others.now c.loop-j.found c.loop-j.all c.loop-j.others _ _ _
          c.loop-j.count c.close_slot-count.result _ refl c.loop-j.invariant.2 (rw e at c.close_slot-count.ensures),
    )

pub shape_of-found : goal.shape_of-found
shape_of-found c = c.loop-j.invariant.1

pub returns : goal.returns
returns c =
    let e : c.loop-j.j ≡ c.args.from = omega arith in
    rw e at c.loop-j.invariant.2
