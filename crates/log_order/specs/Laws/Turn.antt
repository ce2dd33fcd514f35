-- Whether a slot's operation is found, by its flag, the sets and the pairs, and a turn as a step of the pass.
use Rattle.std.specs.Prelude.{ℕ, ◌+◌, ◌≤◌, ◌<◌, ◌≡◌, List, ◌∷◌, ◌++◌, Bool, false, ◌&&◌, cond, length, set, drop}
use Rattle.std.proofs.Common.{arith, sym, ap, ◌∙◌}
use Rattle.std.proofs.Math.Path.{refl}
use Rattle.std.proofs.Math.Bool.{true}
use Rattle.std.proofs.lemmas.Bool.{false≢true}
use Rattle.std.specs.Prelude.{Option, None, Some}
use Rattle.buffer.specs.Laws.Test.{same_test}
use Rattle.buffer.specs.Decoded.{is_some}
use Rattle.record.specs.Operation.{Operation, Record, operands, Stretch, overwrite_of}
use Rattle.volume_tree.specs.Laws.Answer.{settled}
use Rattle.log_rules.specs.Slot.{Slot, is_waiting, sequence_of}
use Rattle.log_rules.specs.Order.{shares}
use Rattle.log_rules.proofs.Laws.Order.{Rising}
use Rattle.log_rules.specs.Code.Slots.{slot_at}
use Rattle.log_rules.specs.Code.Flags.{stands, Holds, chosen}
use Rattle.log_operands.specs.declared.Order.{Order}
use Rattle.log_operands.specs.Code.Ordering.{Stretched, Ordering}
use Rattle.log_order.specs.Code.Closed.{is_found, found_in, some_after, is_overwrite, objects_found, others_found, Closed, ClosedMore, FoundAt}
use Rattle.log_order.specs.Laws.Close.{due, due-touches, plain-due, others-due, pairs-due, found-later, turn, turn-count}

-- an operation is told as an overwrite if it is one
overwrite-told : (rec : List ℕ) (p : Operation) (o : Order) → Ordering rec p o → is_overwrite p ≡ o.overwrite
overwrite-told rec p o told = go (overwrite_of p) told.stretch
  where
    go : (x : Option Stretch) → Stretched x o.overwrite o.offset o.len → is_some x ≡ o.overwrite
    go None e = sym e
    go (Some t) e = sym e.0

-- the answer whether an operand that is told is in a set
abbrev pub Shares : List ℕ → Order → List ℕ → Bool → Type 0
Shares rec o objects r = (p : Operation) (ops : List ℕ) → Ordering rec p o → Holds objects ops → r ≡ shares (operands p) ops

-- whether the operation of a slot is found: by its flag
module _ {l : List Slot} {j : ℕ} {found set₁ set₂ rec : List ℕ} {o : Order} (rise : Rising sequence_of l) (h : j < length l) where
  pub found-picked : stands found j ≡ true → FoundAt l j found set₁ set₂ rec o true
  found-picked e = record { is = λ pick ops wait told c. rw (settled (c.picks j (omega arith) wait) e) }

  -- else by what is found behind it
  module _ (e : stands found j ≡ false) where
    by-due : (r : Bool) → ((pick : Record → Bool) (ops : List ℕ) → Ordering rec (slot_at l j).recorded.operation o → Closed pick ops l (j + 1) found set₁ set₂
        → r ≡ due ops (slot_at l j).recorded (found_in pick ops (drop (j + 1) l)) (found-later pick ops l rise j h)) → FoundAt l j found set₁ set₂ rec o r
    by-due r d = record { is = λ pick ops wait told c. rw (settled (c.picks j (omega arith) wait) e) (d pick ops told c) }

    pub found-apart : {x : Bool} → Shares rec o set₁ x → x ≡ false → FoundAt l j found set₁ set₂ rec o false
    found-apart t f = by-due false (λ pick ops told c. same_test false _ (λ z. absurd (false≢true z)) (λ d. settled f (t _ _ told c.all) ∙ due-touches ops (slot_at l j).recorded _ (found-later pick ops l rise j h) d))

    pub found_plain : {x : Bool} → Shares rec o set₁ x → x ≡ true → o.overwrite ≡ false → FoundAt l j found set₁ set₂ rec o true
    found_plain t f w = by-due true (λ pick ops told c. sym (plain-due ops (slot_at l j).recorded _ (found-later pick ops l rise j h) (overwrite-told rec _ o told ∙ w) (settled (t _ _ told c.all) f)))

    pub found-others : {x : Bool} → Shares rec o set₂ x → x ≡ true → FoundAt l j found set₁ set₂ rec o true
    found-others t f = by-due true (λ pick ops told c. sym (others-due ops (slot_at l j).recorded _ (found-later pick ops l rise j h) (settled (t _ _ told c.others) f)))

    pub found-pairs : {x r : Bool} → Shares rec o set₂ x → x ≡ false → ((a : Operation) → Ordering rec a o → r ≡ some_after a (chosen (drop (j + 1) found) (drop (j + 1) l))) → FoundAt l j found set₁ set₂ rec o r
    found-pairs t f d = by-due _ (λ pick ops told c. d _ told ∙ ap (some_after _) c.these ∙ sym (pairs-due ops (slot_at l j).recorded _ (found-later pick ops l rise j h) (settled (t _ _ told c.others) f)))

-- a turn as a step of the pass: the slot's operation is found and its operands are put into the sets, or it is not
module _ {l : List Slot} {j : ℕ} {found set₁ set₂ : List ℕ} (h : j < length l) (room : j < length found) where
  one-turn : (b : Bool) (v : ℕ) → v ≡ cond b 1 0 → v ≤ 1 → (set₃ set₄ : List ℕ) → ((pick : Record → Bool) (ops : List ℕ) → Closed pick ops l (j + 1) found set₁ set₂
      → (b ≡ (is_waiting (slot_at l j) && is_found pick ops (slot_at l j).recorded (found_in pick ops (drop (j + 1) l))))
      × Holds set₃ (objects_found ops (cond b ((slot_at l j).recorded ∷ found_in pick ops (drop (j + 1) l)) (found_in pick ops (drop (j + 1) l))))
      × Holds set₄ (others_found ops (cond b ((slot_at l j).recorded ∷ found_in pick ops (drop (j + 1) l)) (found_in pick ops (drop (j + 1) l)))))
      → ClosedMore l (j + 1) j found set₁ set₂ (set found j v) set₃ set₄ v
  one-turn b v e le set₃ set₄ t =
      record {
        most = omega arith;
        closed = λ pick ops c. let u = t pick ops c in turn pick ops l j h found set₁ set₂ room c b v e u.0 set₃ set₄ u.1 u.2;
        count = λ pick ops c. turn-count pick ops l j h found set₁ set₂ room c b v e (t pick ops c).0;
      }

  pub turn-found : {rec : List ℕ} {o : Order} {r : Bool} → is_waiting (slot_at l j) ≡ true → Ordering rec (slot_at l j).recorded.operation o → FoundAt l j found set₁ set₂ rec o r → r ≡ true → {set₃ set₄ : List ℕ}
      → ((ops : List ℕ) → Holds set₁ ops → Holds set₃ (operands (slot_at l j).recorded.operation ++ ops))
      → ((ops : List ℕ) → Holds set₂ ops → Holds set₄ (cond o.overwrite ops (operands (slot_at l j).recorded.operation ++ ops)))
      → ClosedMore l (j + 1) j found set₁ set₂ (set found j 1) set₃ set₄ 1
  unfolding objects_found others_found
  turn-found w told f e x y = one-turn true 1 refl (omega arith) _ _ (λ pick ops c. (rw w (sym e ∙ f.is pick ops w told c), x _ c.all, rw (overwrite-told _ _ _ told) (y _ c.others)))

  pub turn-left : ((pick : Record → Bool) (ops : List ℕ) → Closed pick ops l (j + 1) found set₁ set₂ → false ≡ (is_waiting (slot_at l j) && is_found pick ops (slot_at l j).recorded (found_in pick ops (drop (j + 1) l))))
      → ClosedMore l (j + 1) j found set₁ set₂ (set found j 0) set₁ set₂ 0
  turn-left f = one-turn false 0 refl (omega arith) set₁ set₂ (λ pick ops c. (f pick ops c, c.all, c.others))
