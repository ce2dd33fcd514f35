-- What the test of the slots comes to, by the first of them. Assumes nothing.
use Rattle.std.specs.Prelude.{ℕ, suc, ◌≡◌, Bool, true, false, ◌&&◌, List, get_or, take, drop, Option, None}
use Rattle.std.proofs.Math.Path.{ap}
use Rattle.std.proofs.Common.{◌∙◌, eq-eqb, ne_eqb}
use Rattle.std.proofs.Math.Bool.{cond}
use Rattle.buffer.specs.Code.Zero.{zeros}
use Rattle.log_rules.specs.Stored.{slot_bytes}
use Rattle.log_form.specs.Code.Checks.{used_slot, slot_form, may_follow, if_form, slots_formed}

-- Where no slot is left, nothing is asked.
pub none_left : (n b next m last : ℕ) (waits : Bool) (s : List ℕ) → m ≡ 0 → slots_formed n b next m last waits s ≡ true
unfolding slots_formed
none_left n b next m last waits s z = rw z

module _ (n b next m last : ℕ) (waits : Bool) (s : List ℕ) where
  -- the test of the first slot that is not free, by its form
  abbrev first_form : Option (ℕ × Bool) → Bool
  first_form x = if_form x (λ q w. may_follow next last waits q w && slots_formed n b next m q w (drop slot_bytes s))

  -- From a free slot on all bytes are zero.
  pub from-free : get_or s 0 0 ≡ 0 → slots_formed n b next (suc m) last waits s ≡ zeros s
  unfolding slots_formed
  from-free z = ap (λ (t : Bool). cond t (zeros s) (first_form (slot_form n b (take slot_bytes s)))) (eq-eqb (get_or s 0 0) 0 z)

  used-first : (get_or s 0 0 ≡ 0 → ⊥) → slots_formed n b next (suc m) last waits s ≡ first_form (slot_form n b (take slot_bytes s))
  unfolding slots_formed
  used-first z = ap (λ (t : Bool). cond t (zeros s) (first_form (slot_form n b (take slot_bytes s)))) (ne_eqb (get_or s 0 0) 0 z)

  -- A used slot that is not well formed by itself fails the test.
  pub from-bad : (get_or s 0 0 ≡ 0 → ⊥) → slot_form n b (take slot_bytes s) ≡ None → slots_formed n b next (suc m) last waits s ≡ false
  from-bad z e = used-first z ∙ ap first_form e

  -- A used slot that is well formed by itself comes behind the last, and the others behind it.
  pub from-used : (get_or s 0 0 ≡ 0 → ⊥) → (q : ℕ) (w : Bool) → slot_form n b (take slot_bytes s) ≡ used_slot q w
      → slots_formed n b next (suc m) last waits s ≡ may_follow next last waits q w && slots_formed n b next m q w (drop slot_bytes s)
  from-used z q w e = used-first z ∙ ap first_form e
