-- `log_dependence::note_slots` meets its contract. The loop's invariant: the slots from the place on are noted, and what they reach is in
-- the set. Assumes nothing.
use Prim.Native.Nat.{ℕ, ◌/◌}
use native.Mathlib.Omega.{arith}
use mathlib.Core.Path.{◌≡◌, sym, ap, ◌∙◌, subst}
use mathlib.Core.List.{List}
use lib.ListN.{length, drop}
use Rattle.log_rules.specs.Stored.{slot_bytes, encode_slots}
use Rattle.log_rules.specs.Depend.{reach}
use Rattle.log_rules.proofs.Laws.Geometry.{slotted-length}
use Rattle.log_rules.proofs.Laws.Stored.{length-slots}
use Rattle.log_rules.specs.Code.Slots.{slots_in, Slotted}
use Rattle.log_rules.specs.Code.Flags.{Holds}
use Rattle.log_dependence.specs.Laws.Noted.{partly, partly-length, partly-good, partly-in, partly-slotted, note_step, note-start}
use Rattle.log_dependence.proofs.note_slots.Goals as goal

pub loop-i-init : goal.loop-i-init
loop-i-init c =
    let a = c.args in
    let e : length a.s.now / slot_bytes ≡ length (slots_in a.s.now) = omega (arith, slotted-length a.s.now c.requires.slotted) in
    (omega arith, λ ops k. let x = note-start a.program ops a.s.now c.requires.slotted (length a.s.now / slot_bytes) e in (subst (Holds a.reached.now) (sym x.0) k, x.1))

pub note_slot-requires : goal.note_slot-requires
note_slot-requires c =
    let a = c.args in
    let o = c.requires.by_index in
    let x = c.loop-i.invariant.1 o.0 o.1 in
    let k = c.loop-i.invariant.0 in record {
      slotted = subst Slotted (sym x.1) (partly-slotted a.program o.0 (slots_in a.s.now) c.requires.program_bound c.requires.slotted.good c.loop-i.i k c.requires.slotted.most);
      i_in_bounds = (
        omega (arith, ap (λ (s : List ℕ). length (slots_in s)) x.1 ∙ ap length (partly-in a.program o.0 (slots_in a.s.now) c.requires.program_bound c.requires.slotted.good c.loop-i.i) ∙ partly-length a.program o.0 (slots_in a.s.now) c.loop-i.i k),
        c.requires.program_bound,
      );
    }

pub loop-i-preserved : goal.loop-i-preserved
loop-i-preserved c =
    let a = c.args in (
      omega arith,
      λ ops k. let x = c.loop-i.invariant.1 ops k in
          note_step a.program ops (slots_in a.s.now) c.requires.program_bound c.requires.slotted.good c.loop-i.i (omega arith) c.loop-i.invariant.0 c.loop-i.s c.note_slot.new.s c.loop-i.reached c.note_slot.new.reached x.1 x.0 c.note_slot.ensures,
    )

pub shape_of-s : goal.shape_of-s
shape_of-s c =
    let a = c.args in
    let o = c.requires.by_index in
    let k = c.loop-i.invariant.0 in
    let x = c.loop-i.invariant.1 o.0 o.1 in
    let n = length-slots 256 64 (partly a.program o.0 (slots_in a.s.now) c.loop-i.i) (partly-good a.program o.0 (slots_in a.s.now) c.requires.program_bound c.requires.slotted.good c.loop-i.i) in
    ap length x.1 ∙ n ∙ omega (arith, partly-length a.program o.0 (slots_in a.s.now) c.loop-i.i k, slotted-length a.s.now c.requires.slotted)

pub returns : goal.returns
returns c =
    let a = c.args in
    let e : c.loop-i.i ≡ 0 = omega arith in record {
      by_index_2 = λ ops k. (c.loop-i.invariant.1 ops k).1 ∙ ap (λ (i : ℕ). encode_slots (partly a.program ops (slots_in a.s.now) i)) e;
      by_index_3 = λ ops k. subst (λ (i : ℕ). Holds c.loop-i.reached (reach ops (drop i (slots_in a.s.now)))) e (c.loop-i.invariant.1 ops k).0;
    }
