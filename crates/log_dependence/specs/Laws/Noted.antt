-- One slot noted after another, from the last to the first, are the slots that the definition has. Assumes nothing.
use Rattle.std.specs.Prelude.{ℕ, ◌+◌, ◌-◌, ◌≤◌, ◌<◌, ◌≡◌, List, [], ◌∷◌, ◌++◌, Bool, true, false, length, set, take, drop}
use Rattle.std.proofs.Common.{add-one, arith, sym, ap, ap₂, ◌∙◌, subst, append_assoc, append-nil, length-append, take-append-drop, take-suc, drop-cons, length-take-le}
use Rattle.std.proofs.Math.Seq.{take-length, drop-length}
use Rattle.std.proofs.lemmas.List.{set_at, set-get_or, get_or_at}
use Rattle.log_rules.specs.Programs.{with}
use Rattle.log_rules.specs.Slot.{Slot, with_dependents, good_slots}
use Rattle.log_rules.specs.Stored.{encode_slots}
use Rattle.log_rules.specs.Depend.{reach, noted}
use Rattle.log_rules.proofs.Laws.Change.{noted-good, noted-length}
use Rattle.log_rules.proofs.Laws.Geometry.{good-take, good-drop, good-both, slots-in, slotted-of}
use Rattle.log_rules.proofs.Laws.Needed.{reach-at}
use Rattle.log_rules.specs.Code.Slots.{slots_in, slot_at, no_slot, Slotted}
use Rattle.log_rules.specs.Code.Flags.{Holds}
use Rattle.log_dependence.specs.Code.Reached.{reached_by, Tried}
use Rattle.log_dependence.specs.Code.Noted.{noted_slot, NotedAt}

-- the slots with those from a position on noted
abbrev pub partly : ℕ → List ℕ → List Slot → ℕ → List Slot
partly p ops l i = take i l ++ noted p ops (drop i l)

module _ (p : ℕ) (ops : List ℕ) (l : List Slot) where
  -- The slot at a position is noted by what the later ones reach.
  noted-at : (i : ℕ) → i < length l → noted p ops (drop i l) ≡ noted_slot p (reach ops (drop (i + 1) l)) (slot_at l i) ∷ noted p ops (drop (i + 1) l)
  unfolding noted
  noted-at i h = rw (drop-cons l i no_slot h, add-one)

  -- What is reached from a position on.
  pub reached-next : (i : ℕ) → i < length l → reached_by (reach ops (drop (i + 1) l)) (slot_at l i) ≡ reach ops (drop i l)
  reached-next i h = sym (reach-at ops l i h)

  -- The slot before those that are noted is as it was.
  front : (i : ℕ) → i < length l → partly p ops l (i + 1) ≡ take i l ++ slot_at l i ∷ noted p ops (drop (i + 1) l)
  front i h =
      ap (λ (k : ℕ). take k l ++ noted p ops (drop (i + 1) l)) (add-one i) ∙ ap (λ (t : List Slot). t ++ noted p ops (drop (i + 1) l)) (take-suc l i no_slot h)
      ∙ append_assoc (take i l) (slot_at l i ∷ []) (noted p ops (drop (i + 1) l))

  pub partly-at : (i : ℕ) → i < length l → slot_at (partly p ops l (i + 1)) i ≡ slot_at l i
  partly-at i h = ap (λ (t : List Slot). slot_at t i) (front i h) ∙ get_or_at (take i l) (slot_at l i) (noted p ops (drop (i + 1) l)) no_slot i (length-take-le i l (omega arith))

  -- With it noted too, one more is.
  pub partly-set : (i : ℕ) → i < length l → set (partly p ops l (i + 1)) i (noted_slot p (reach ops (drop (i + 1) l)) (slot_at l i)) ≡ partly p ops l i
  partly-set i h =
      ap (λ (t : List Slot). set t i (noted_slot p (reach ops (drop (i + 1) l)) (slot_at l i))) (front i h)
      ∙ set_at (take i l) (slot_at l i) (noted p ops (drop (i + 1) l)) (noted_slot p (reach ops (drop (i + 1) l)) (slot_at l i)) i (length-take-le i l (omega arith))
      ∙ ap (λ (t : List Slot). take i l ++ t) (sym (noted-at i h))

  pub partly-length : (i : ℕ) → i ≤ length l → length (partly p ops l i) ≡ length l
  partly-length i h =
      length-append (take i l) (noted p ops (drop i l)) ∙ ap (λ (k : ℕ). length (take i l) + k) (noted-length p ops (drop i l)) ∙ sym (length-append (take i l) (drop i l)) ∙ ap length (take-append-drop i l)

  module _ (small : p < 32) (good : good_slots 256 64 l ≡ true) where
    pub partly-good : (i : ℕ) → good_slots 256 64 (partly p ops l i) ≡ true
    partly-good i = good-both 256 64 (take i l) (noted p ops (drop i l)) (good-take 256 64 i l good) (noted-good 256 64 p ops (drop i l) small (good-drop 256 64 i l good))

    -- They stand in their bytes.
    pub partly-in : (i : ℕ) → slots_in (encode_slots (partly p ops l i)) ≡ partly p ops l i
    partly-in i = slots-in 256 64 (partly p ops l i) (partly-good i)

    pub partly-slotted : (i : ℕ) → i ≤ length l → length l ≤ 1024 → Slotted (encode_slots (partly p ops l i))
    partly-slotted i h k = slotted-of 256 64 (partly p ops l i) (omega arith) (omega arith) (rw (partly-length i h) k) (partly-good i)

-- A slot that is reached is noted, and its operands are reached; one that is not stays as it is.
module _ (p i : ℕ) (s set₀ set₁ : List ℕ) (r : Bool) (tried : Tried (slot_at (slots_in s) i) set₀ set₁ r) where
  pub noted-slot-of : r ≡ true → (s' : List ℕ) → s' ≡ encode_slots (set (slots_in s) i (with_dependents (with (slot_at (slots_in s) i).dependents p) (slot_at (slots_in s) i)))
      → NotedAt p i s s' set₀ set₁
  noted-slot-of hit s' e = record { slot = λ ops k. rw (← tried.found ops k, hit) e; objects = tried.objects }

  pub passed-slot-of : r ≡ false → Slotted s → NotedAt p i s s set₀ set₁
  passed-slot-of miss h =
      record { slot = λ ops k. rw (← tried.found ops k, miss) (sym h.stored ∙ ap encode_slots (sym (set-get_or (slots_in s) i no_slot))); objects = tried.objects }

-- A turn of the pass: one more slot is noted, and what it reaches is reached.
module _ (p : ℕ) (ops : List ℕ) (l : List Slot) (small : p < 32) (good : good_slots 256 64 l ≡ true) where
  step : (j : ℕ) → j < length l → (s s' set₀ set₁ : List ℕ) → s ≡ encode_slots (partly p ops l (j + 1)) → Holds set₀ (reach ops (drop (j + 1) l))
      → NotedAt p j s s' set₀ set₁ → Holds set₁ (reach ops (drop j l)) × (s' ≡ encode_slots (partly p ops l j))
  step j h s s' set₀ set₁ e k n =
      let r = reach ops (drop (j + 1) l) in
      let is : slots_in s ≡ partly p ops l (j + 1) = ap slots_in e ∙ partly-in p ops l small good (j + 1) in
      let at : slot_at (slots_in s) j ≡ slot_at l j = ap (λ (y : List Slot). slot_at y j) is ∙ partly-at p ops l j h in (
        subst (Holds set₁) (ap (reached_by r) at ∙ reached-next p ops l j h) (n.objects r k),
        n.slot r k ∙ ap encode_slots (ap₂ (λ (y : List Slot) (t : Slot). set y j (noted_slot p r t)) is at ∙ partly-set p ops l j h),
      )

  pub note_step : (i : ℕ) → 1 ≤ i → i ≤ length l → (s s' set₀ set₁ : List ℕ) → s ≡ encode_slots (partly p ops l i) → Holds set₀ (reach ops (drop i l))
      → NotedAt p (i - 1) s s' set₀ set₁ → Holds set₁ (reach ops (drop (i - 1) l)) × (s' ≡ encode_slots (partly p ops l (i - 1)))
  note_step i least most s s' set₀ set₁ e k n =
      let a : i ≡ (i - 1) + 1 = omega arith in
      step (i - 1) (omega arith) s s' set₀ set₁ (rw (← a) e) (rw (← a) k) n

-- At its start no slot is noted and nothing more is reached.
pub note-start : (p : ℕ) (ops : List ℕ) (s : List ℕ) → Slotted s → (i : ℕ) → i ≡ length (slots_in s)
    → (reach ops (drop i (slots_in s)) ≡ ops) × (s ≡ encode_slots (partly p ops (slots_in s) i))
unfolding reach noted
note-start p ops s h i e =
    let l = slots_in s in
    (rw (e, drop-length l), rw (e, drop-length l, take-length l, append-nil) (sym h.stored))
