-- What a discard leaves of the slots, from the last to the first, and of the log. Assumes nothing.
use Prim.Native.Nat.{ℕ, zero, suc, ◌+◌, ◌*◌, ◌-◌, ◌/◌, ◌≤◌, ◌<◌}
use native.Mathlib.Omega.{arith}
use Rattle.std.specs.Prelude.{◌≡◌, refl, true, false, take}
use Rattle.std.proofs.Math.Path.{sym, ap, ap₂}
use Rattle.std.proofs.Common.{◌∙◌, drop-cons}
use mathlib.Core.List.{List, [], ◌∷◌, ◌++◌, map}
use Rattle.std.proofs.Math.Bool.{cond}
use Rattle.std.proofs.Math.ListN.{length, set, drop}
use Rattle.std.proofs.lemmas.List.{length-map, set-get_or}
use Rattle.std.proofs.Math.Seq.{drop-length}
use Rattle.log_rules.specs.Programs.{union}
use Rattle.log_rules.specs.Slot.{lost, Slot, with_state, with_dependents, Log, with_marks, with_slots, is_waiting, good_slots, well_formed_log}
use Rattle.log_rules.specs.Stored.{head_bytes, slot_bytes, encode_slots, encode_log, read_log}
use Rattle.log_rules.specs.Change.{discarded, dependents_of, discard}
use Rattle.log_rules.proofs.Laws.Slot.{slots-inv, slots-of, formed-inv, formed-of}
use Rattle.log_rules.proofs.Laws.Stored.{length-slots, read-log}
use Rattle.log_rules.proofs.Laws.Program.{union-below}
use Rattle.log_rules.proofs.Laws.Change.{all-discarded-good, discard-good}
use Rattle.log_rules.proofs.Laws.Geometry.{slotted-of, slots-in, used-good, logged-whole, slotted-length}
use Rattle.log_rules.specs.Code.Slots.{slots_in, no_slot, slot_at, Slotted, Logged, used_in}
use Rattle.log_slots.specs.Laws.Slot.{slots-count}
use Rattle.log_slots.specs.Laws.Head.{lent_part, lent-slots, used-back}

-- slots of which those from a position on are discarded
abbrev pub partly : ℕ → List Slot → List Slot
partly i l = take i l ++ map discarded (drop i l)

-- Past the last slot none is discarded.
partly_none : (l : List Slot) → partly (length l) l ≡ l
partly_none [] = refl
partly_none (s ∷ l) = ap (λ (y : List Slot). s ∷ y) (partly_none l)

-- The slot before such a position is as it was.
partly-last : (i : ℕ) (l : List Slot) → i < length l → slot_at (partly (suc i) l) i ≡ slot_at l i
partly-last i [] h = absurd (omega arith)
partly-last zero (s ∷ l) h = refl
partly-last (suc i) (s ∷ l) h = partly-last i l (omega arith)

-- One more is discarded in its place.
partly-next : (i : ℕ) (l : List Slot) → i < length l → set (partly (suc i) l) i (discarded (slot_at l i)) ≡ partly i l
partly-next i [] h = absurd (omega arith)
partly-next zero (s ∷ l) h = refl
partly-next (suc i) (s ∷ l) h = ap (λ (y : List Slot). s ∷ y) (partly-next i l (omega arith))

-- The slots stay as many.
partly-length : (i : ℕ) (l : List Slot) → length (partly i l) ≡ length l
partly-length zero l = length-map l discarded
partly-length (suc i) [] = refl
partly-length (suc i) (s ∷ l) = ap suc (partly-length i l)

-- Good slots are good on the way.
partly-good : (n b i : ℕ) (l : List Slot) → good_slots n b l ≡ true → good_slots n b (partly i l) ≡ true
partly-good n b zero l h = all-discarded-good n b l h
partly-good n b (suc i) [] h = h
partly-good n b (suc i) (s ∷ l) h = let g = slots-inv n b s l h in slots-of n b s (partly i l) g.0 (partly-good n b i l g.1)

-- Their bytes are used slots, and they are read back from them.
partly-slotted : (s : List ℕ) → Slotted s → (i : ℕ)
    → Slotted (encode_slots (partly i (slots_in s))) × (slots_in (encode_slots (partly i (slots_in s))) ≡ partly i (slots_in s))
partly-slotted s u i =
    let l = slots_in s in
    let g = partly-good 256 64 i l u.good in
    let c : length (partly i l) ≤ 1024 = rw (partly-length i l) u.most in
    (slotted-of 256 64 (partly i l) (omega arith) (omega arith) c g, slots-in 256 64 (partly i l) g)

-- A waiting slot of some used slots is discarded by making it a lost one, and its dependents are answered.
pub discard-waiting : (l : List Slot) (i : ℕ) → is_waiting (slot_at l i) ≡ true
    → (set l i (with_state lost (with_dependents 0 (slot_at l i))) ≡ set l i (discarded (slot_at l i))) × ((slot_at l i).dependents ≡ cond (is_waiting (slot_at l i)) (slot_at l i).dependents 0)
discard-waiting l i h = (rw h, rw h)

-- A lost one is discarded by leaving all as it is, and nothing is answered.
pub discard-lost : (s : List ℕ) → Slotted s → (i : ℕ) → is_waiting (slot_at (slots_in s) i) ≡ false
    → (s ≡ encode_slots (set (slots_in s) i (discarded (slot_at (slots_in s) i)))) × (0 ≡ cond (is_waiting (slot_at (slots_in s) i)) (slot_at (slots_in s) i).dependents 0)
discard-lost s u i h = (sym u.stored ∙ ap encode_slots (rw h (sym (set-get_or (slots_in s) i no_slot))), rw h)

-- a discard that has come down to a position: the slots from there on are discarded, and the programs that depended on them are found
pub record DoneFrom (i : ℕ) (l : List Slot) (s : List ℕ) (found : ℕ) : Type 0 where
  pub within : i ≤ length l
  pub stored : s ≡ encode_slots (partly i l)
  pub programs : found ≡ dependents_of (drop i l)
  pub small : found < 4294967296

module _ (s : List ℕ) (u : Slotted s) where
  -- It starts past the last slot.
  pub done-start : DoneFrom (length s / slot_bytes) (slots_in s) s 0
  unfolding dependents_of
  done-start =
      let l = slots_in s in
      let e = slots-count s u in
      record {
        within = omega arith;
        stored = sym u.stored ∙ ap encode_slots (sym (partly_none l) ∙ ap (λ (z : ℕ). partly z l) (sym e));
        programs = ap dependents_of (sym (drop-length l) ∙ ap (λ (z : ℕ). drop z l) (sym e));
        small = omega arith;
      }

  module _ {i : ℕ} {t : List ℕ} {found : ℕ} (d : DoneFrom i (slots_in s) t found) where
    -- The bytes are used slots on the way.
    pub done-slotted : Slotted t
    done-slotted = rw d.stored (partly-slotted s u i).0

    -- They are the slots discarded so far, and the others.
    done-slots : slots_in t ≡ partly i (slots_in s)
    done-slots = ap slots_in d.stored ∙ (partly-slotted s u i).1

    -- There are as many.
    pub done-count : length (slots_in t) ≡ length (slots_in s)
    done-count = ap length done-slots ∙ partly-length i (slots_in s)

    -- The slot before the position is discarded next.
    pub done_next : 1 ≤ i → {y : List ℕ} {r v : ℕ} → y ≡ encode_slots (set (slots_in t) (i - 1) (discarded (slot_at (slots_in t) (i - 1))))
        → r ≡ cond (is_waiting (slot_at (slots_in t) (i - 1))) (slot_at (slots_in t) (i - 1)).dependents 0 → v ≡ union r found → DoneFrom (i - 1) (slots_in s) y v
    unfolding dependents_of
    done_next h {y} {r} {v} e f g =
        let l = slots_in s in
        let k = i - 1 in
        let w = d.within in
        let lt : k < length l = omega arith in
        let j : i ≡ suc k = omega arith in
        let q : slots_in t ≡ partly (suc k) l = done-slots ∙ ap (λ (z : ℕ). partly z l) j in
        let p : slot_at (slots_in t) k ≡ slot_at l k = ap (λ (z : List Slot). slot_at z k) q ∙ partly-last k l lt in
        let x : found ≡ dependents_of (drop (suc k) l) = d.programs ∙ ap (λ (z : ℕ). dependents_of (drop z l)) j in
        record {
          within = omega arith;
          stored = e ∙ ap encode_slots (ap₂ (λ (z : List Slot) (a : Slot). set z k (discarded a)) q p ∙ partly-next k l lt);
          programs = g ∙ ap₂ union (f ∙ ap (λ (a : Slot). cond (is_waiting a) a.dependents 0) p) x ∙ ap dependents_of (sym (drop-cons l k no_slot lt));
          small = rw g (union-below r found);
        }

    -- The bytes stay as many.
    pub done-length : length t ≡ length s
    done-length = omega (arith, slotted-length t done-slotted, slotted-length s u, done-count)

    -- At the first slot all are discarded.
    pub done_end : i ≤ 0 → (t ≡ encode_slots (map discarded (slots_in s))) × (found ≡ dependents_of (slots_in s)) × (found < 4294967296)
    done_end h =
        let e : i ≡ 0 = omega arith in
        (d.stored ∙ ap (λ (z : ℕ). encode_slots (partly z (slots_in s))) e, d.programs ∙ ap (λ (z : ℕ). dependents_of (drop z (slots_in s))) e, d.small)

-- a log with its slots discarded, and its marks not yet changed
abbrev pub all_lost : Log → Log
all_lost l = with_slots (map discarded l.slots) l

-- It is well formed.
all-lost-good : (n b m : ℕ) (l : Log) → well_formed_log n b m l ≡ true → well_formed_log n b m (all_lost l) ≡ true
unfolding discard
all-lost-good n b m l w =
    let g = formed-inv n b m (discard l) (discard-good n b m l w) in
    formed-of n b m (all_lost l)
    (record { head = (formed-inv n b m l w).head; count = g.count; good = g.good; order = g.order })

module _ (m : ℕ) (s : List ℕ) (u : Logged 256 64 m s) {k : ℕ} (e : k ≡ used_in m s) where
  -- What comes back from the slots stands in the place of what was lent on.
  pub cut-back : {x : List ℕ} → x ≡ encode_slots (map discarded (slots_in (lent_part k s)))
      → take head_bytes s ++ (x ++ drop (head_bytes + k * slot_bytes - head_bytes) (drop head_bytes s)) ≡ encode_log m (all_lost (read_log m s))
  cut-back {x} h =
      let l = (read_log m s).slots in
      let w : length (encode_slots (map discarded l)) ≡ used_in m s * slot_bytes =
      length-slots 256 64 (map discarded l) (all-discarded-good 256 64 l (used-good 256 64 m s u)) ∙ ap (λ (z : ℕ). z * slot_bytes) (length-map l discarded) in
      used-back 256 64 m s u k e x (map discarded l) (h ∙ ap (λ (z : List Slot). encode_slots (map discarded z)) (lent-slots 256 64 m s u k e)) w

  -- The log without its new marks is well formed.
  lost-good : well_formed_log 256 64 m (all_lost (read_log m s)) ≡ true
  lost-good = all-lost-good 256 64 m (read_log m s) u.form

  module _ {t : List ℕ} (h : t ≡ encode_log m (all_lost (read_log m s))) where
    -- Then the bytes are a log again.
    pub lost-logged : Logged 256 64 m t
    lost-logged = rw h (logged-whole 256 64 m (all_lost (read_log m s)) lost-good (omega arith) (omega arith) u.most)

    -- With the programs that depended on the slots added to its marks it is the log that a cut leaves.
    pub cut-whole : {y : List ℕ} {a f v : ℕ} → a ≡ (read_log m t).head.marks → f ≡ dependents_of (slots_in (lent_part k s)) → v ≡ union a f
        → y ≡ encode_log m (with_marks v (read_log m t)) → y ≡ encode_log m (discard (read_log m s))
    unfolding discard
    cut-whole p q r z =
        let b : read_log m t ≡ all_lost (read_log m s) = ap (read_log m) h ∙ read-log 256 64 m (all_lost (read_log m s)) lost-good in
        z ∙ ap₂ (λ (j : ℕ) (l : Log). encode_log m (with_marks j l)) (r ∙ ap₂ union (p ∙ ap (λ (l : Log). l.head.marks) b) (q ∙ ap dependents_of (lent-slots 256 64 m s u k e))) b
