-- `log_discard::discard_slots` meets its contract. The loop's invariant: the slots from i on are discarded, and the programs that
-- depended on them are found. Assumes nothing.
use native.Mathlib.Omega.{arith}
use Rattle.log_discard.specs.Laws.Discard.{done-start, done-slotted, done-count, done_next, done-length, done_end}
use Rattle.log_discard.proofs.discard_slots.Goals as goal

pub loop-i-init : goal.loop-i-init
loop-i-init c = done-start c.args.s.now c.requires

pub discard_slot-requires : goal.discard_slot-requires
discard_slot-requires c =
    let d = c.loop-i.invariant in
    record {
      slotted = done-slotted c.args.s.now c.requires d;
      i_in_bounds = omega (arith, d.within, done-count c.args.s.now c.requires d);
    }

pub union_of-found-requires : goal.union_of-found-requires
union_of-found-requires c = (c.discard_slot.ensures.2, c.loop-i.invariant.small)

pub loop-i-preserved : goal.loop-i-preserved
loop-i-preserved c =
    done_next c.args.s.now c.requires c.loop-i.invariant (omega arith) c.discard_slot.ensures.0 c.discard_slot.ensures.1 c.union_of-found.ensures

pub shape_of-s : goal.shape_of-s
shape_of-s c = done-length c.args.s.now c.requires c.loop-i.invariant

pub returns : goal.returns
returns c = done_end c.args.s.now c.requires c.loop-i.invariant (omega arith)
