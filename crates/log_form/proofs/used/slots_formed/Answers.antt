-- `log_form::used::slots_formed` meets its contract. The loop's invariant: the test of all slots is that of the slots left, behind the last one.
-- Assumes nothing.
use Rattle.std.specs.Prelude.{Option, None}
use Prim.Native.Nat.{ℕ, suc, ◌+◌, ◌*◌, ◌-◌, ◌≤◌, ◌<◌}
use mathlib.Core.Bool.{Bool, true, false, ◌&&◌}
use mathlib.Core.List.{List}
use mathlib.Core.Path.{◌≡◌, refl, sym, ap, ◌∙◌}
use native.Mathlib.Nat.{add-zero, add-sub_cancel_left}
use native.Mathlib.Omega.{arith}
use lib.ListN.{length, get_or, take, drop, length-drop}
use lib.Seq.{length-take-le, drop-drop, get_or-drop}
use Rattle.buffer.specs.Code.Zero.{zeros}
use Rattle.buffer.specs.Laws.Span.{take_rest}
use Rattle.log_rules.specs.Stored.{slot_bytes}
use Rattle.log_rules.specs.Code.Slots.{slot_part}
use Rattle.volume_tree.specs.Laws.Answer.{settled}
use Rattle.log_form.specs.Code.Checks.{used_slot, slot_form, may_follow, slots_formed}
use Rattle.log_form.specs.Laws.Loop.{none_left, from-free, from-bad, from-used}
use Rattle.log_form.proofs.used.slots_formed.Invariants.{left}
use Rattle.log_form.proofs.used.slots_formed.Goals as goal

-- before the first slot all are left
begun : (s : List ℕ) (n b m next : ℕ) → left s n b m next 0 false 0 ≡ slots_formed n b next m 0 false s
begun s n b m next = let e : m - 0 ≡ m = omega arith in ap (λ (j : ℕ). slots_formed n b next j 0 false s) e

-- the slot that was asked about is the one at the position, and has a slot's length
part : (s : List ℕ) (n b i : ℕ) (r x : Option (ℕ × Bool)) → r ≡ slot_form n b (take (i * slot_bytes + slot_bytes - i * slot_bytes) (drop (i * slot_bytes) s)) → r ≡ x
    → slot_form n b (slot_part s i) ≡ x
part s n b i r x e h = sym (rw (add-sub_cancel_left (i * slot_bytes) slot_bytes) at e) ∙ h

part-long : (s : List ℕ) (i m : ℕ) → length s ≡ m * slot_bytes → i < m
    → length (take (i * slot_bytes + slot_bytes - i * slot_bytes) (drop (i * slot_bytes) s)) ≡ slot_bytes
part-long s i m size h = length-take-le _ (drop (i * slot_bytes) s) (rw (length-drop (i * slot_bytes) s) (omega arith)) ∙ add-sub_cancel_left (i * slot_bytes) slot_bytes

module _ (s : List ℕ) (n b m next last : ℕ) (waits : Bool) (i : ℕ) where
  none : m ≤ i → true ≡ left s n b m next last waits i
  none h = sym (none_left n b next (m - i) last waits (drop (i * slot_bytes) s) (omega arith))

  module _ (h : i < m) (k : ℕ) (told : k ≡ get_or s (i * slot_bytes) 0) where
    -- the slots left are one and those behind it
    one_more : left s n b m next last waits i ≡ slots_formed n b next (suc (m - (i + 1))) last waits (drop (i * slot_bytes) s)
    one_more = let e : m - i ≡ suc (m - (i + 1)) = omega arith in ap (λ (j : ℕ). slots_formed n b next j last waits (drop (i * slot_bytes) s)) e

    first : get_or (drop (i * slot_bytes) s) 0 0 ≡ k
    first = get_or-drop (i * slot_bytes) s 0 0 ∙ ap (λ (j : ℕ). get_or s j 0) (add-zero (i * slot_bytes)) ∙ sym told

    free : k ≡ 0 → zeros (drop (i * slot_bytes) s) ≡ left s n b m next last waits i
    free z = sym (one_more ∙ from-free n b next (m - (i + 1)) last waits (drop (i * slot_bytes) s) (first ∙ z))

    module _ (z : k ≡ 0 → ⊥) where
      bad : slot_form n b (slot_part s i) ≡ None → false ≡ left s n b m next last waits i
      bad e = sym (one_more ∙ from-bad n b next (m - (i + 1)) last waits (drop (i * slot_bytes) s) (λ y. z (sym first ∙ y)) e)

      module _ (q : ℕ) (w : Bool) (e : slot_form n b (slot_part s i) ≡ used_slot q w) where
        -- the test of the slots left is that of one, and that of those behind it
        both : left s n b m next last waits i ≡ may_follow next last waits q w && left s n b m next q w (i + 1)
        both =
            let at : i * slot_bytes + slot_bytes ≡ (i + 1) * slot_bytes = omega arith in
            one_more ∙ from-used n b next (m - (i + 1)) last waits (drop (i * slot_bytes) s) (λ y. z (sym first ∙ y)) q w e
            ∙ ap (λ (r : List ℕ). may_follow next last waits q w && slots_formed n b next (m - (i + 1)) q w r)
            (drop-drop slot_bytes (i * slot_bytes) s ∙ ap (λ (j : ℕ). drop j s) at)

        follows : may_follow next last waits q w ≡ true → left s n b m next q w (i + 1) ≡ left s n b m next last waits i
        follows t = sym (both ∙ ap (λ (y : Bool). y && left s n b m next q w (i + 1)) t)

        refused : may_follow next last waits q w ≡ false → false ≡ left s n b m next last waits i
        refused t = sym (both ∙ ap (λ (y : Bool). y && left s n b m next q w (i + 1)) t)

pub loop-i-init : goal.loop-i-init
loop-i-init c = let a = c.args in begun a.s.now a.n a.b a.m a.next

pub returns-then-byte_at-eq-FREE : goal.returns-then-byte_at-eq-FREE
returns-then-byte_at-eq-FREE c =
    let a = c.args in
    let i = c.loop-i.i in
    c.all_zero.ensures ∙ ap zeros (take_rest (i * slot_bytes) a.s.now)
    ∙ free a.s.now a.n a.b a.m a.next c.loop-i.last c.loop-i.waits i (omega arith) c.byte_at.result c.byte_at.ensures.0
    c.if-byte_at-eq-FREE.true
    ∙ c.loop-i.invariant

pub slot_formed-requires : goal.slot_formed-requires
slot_formed-requires c =
    record {
      b_bound = c.requires.b_bound;
      e_len = part-long c.args.s.now c.loop-i.i c.args.m c.requires.s_len (omega arith);
    }

pub returns-in_default : goal.returns-in_default
returns-in_default c =
    let a = c.args in
    let i = c.loop-i.i in
    let e = part a.s.now a.n a.b i c.slot_formed.result None c.slot_formed.ensures c.in_default.is in
    bad a.s.now a.n a.b a.m a.next c.loop-i.last c.loop-i.waits i (omega arith) c.byte_at.result c.byte_at.ensures.0
    c.if-byte_at-eq-FREE.false e
    ∙ c.loop-i.invariant

pub loop-i-preserved : goal.loop-i-preserved
loop-i-preserved c =
    let q = c.in-Some.sequence in
    let w = c.in-Some.waiting in
    let a = c.args in
    let i = c.loop-i.i in
    let e = part a.s.now a.n a.b i (used_slot q w) (used_slot q w) c.in-Some.ensures refl in
    follows a.s.now a.n a.b a.m a.next c.loop-i.last c.loop-i.waits i (omega arith) c.byte_at.result c.byte_at.ensures.0
    c.if-byte_at-eq-FREE.false q w e (settled c.may_follow.ensures c.if-not-may_follow.false)
    ∙ c.loop-i.invariant

pub returns-then-not-may_follow : goal.returns-then-not-may_follow
returns-then-not-may_follow c =
    let q = c.in-Some.sequence in
    let w = c.in-Some.waiting in
    let a = c.args in
    let i = c.loop-i.i in
    let e = part a.s.now a.n a.b i (used_slot q w) (used_slot q w) c.in-Some.ensures refl in
    refused a.s.now a.n a.b a.m a.next c.loop-i.last c.loop-i.waits i (omega arith) c.byte_at.result c.byte_at.ensures.0
    c.if-byte_at-eq-FREE.false q w e (settled c.may_follow.ensures c.if-not-may_follow.true)
    ∙ c.loop-i.invariant

pub returns : goal.returns
returns c =
    let a = c.args in
    none a.s.now a.n a.b a.m a.next c.loop-i.last c.loop-i.waits c.loop-i.i (omega arith) ∙ c.loop-i.invariant
