-- Slots that come each behind the last are in order, and good slots in order come each behind the last. Assumes nothing.
use Rattle.std.specs.Prelude.{ℕ, ◌≡◌, refl, Bool, true, false, not, ◌&&◌, ◌||◌, List, [], ◌∷◌, leb, ltb}
use Rattle.std.proofs.Math.Bool.{and-eq-true_iff}
use Rattle.std.proofs.Common.{leb-true, lt-ltb}
use Rattle.record.specs.Fields.{valid_head, between}
use Rattle.record.proofs.Laws.Record.{valid-inv}
use Rattle.log_rules.specs.Slot.{Slot, is_waiting, sequence_of, good_slots, follows, rising}
use Rattle.log_rules.proofs.Laws.Slot.{and_both, slots-inv}
use Rattle.log_rules.proofs.Laws.Change.{rising-inv}
use Rattle.log_form.specs.Code.Checks.{may_follow}

-- what is asked of a slot that comes behind another, part by part
pub record Follows (next last : ℕ) (waits : Bool) (sequence : ℕ) (waiting : Bool) : Type 0 where
  pub above : ltb last sequence ≡ true
  pub below : ltb sequence next ≡ true
  pub kept : (not waits || waiting) ≡ true

-- A slot that may come behind another has each part.
pub follows-inv : (next last : ℕ) (waits : Bool) (q : ℕ) (w : Bool) → may_follow next last waits q w ≡ true → Follows next last waits q w
unfolding may_follow
follows-inv next last waits q w h =
    let x = (and-eq-true_iff (ltb last q) (ltb q next && (not waits || w))).0 h in
    let y = (and-eq-true_iff (ltb q next) (not waits || w)).0 x.1 in
    record { above = x.0; below = y.0; kept = y.1 }

-- A slot that has each part may come behind another.
pub follows_of : (next last : ℕ) (waits : Bool) (q : ℕ) (w : Bool) → Follows next last waits q w → may_follow next last waits q w ≡ true
unfolding may_follow
follows_of next last waits q w f =
    and_both (ltb last q) (ltb q next && (not waits || w)) f.above (and_both (ltb q next) (not waits || w) f.below f.kept)

-- the slots of a list, each behind the last
unfoldable pub behind : ℕ → ℕ → Bool → List Slot → Bool
behind next last waits [] = true
behind next last waits (s ∷ l) = may_follow next last waits (sequence_of s) (is_waiting s) && behind next (sequence_of s) (is_waiting s) l

-- Of slots each behind the last, the first is, and so are the others.
pub behind-inv : (next last : ℕ) (waits : Bool) (s : Slot) (l : List Slot) → behind next last waits (s ∷ l) ≡ true
    → Follows next last waits (sequence_of s) (is_waiting s) × (behind next (sequence_of s) (is_waiting s) l ≡ true)
unfolding behind
behind-inv next last waits s l h =
    let x = (and-eq-true_iff (may_follow next last waits (sequence_of s) (is_waiting s)) (behind next (sequence_of s) (is_waiting s) l)).0 h in
    (follows-inv next last waits (sequence_of s) (is_waiting s) x.0, x.1)

-- A slot behind the last, and others behind it, are each behind the last.
pub behind-of : (next last : ℕ) (waits : Bool) (s : Slot) (l : List Slot) → Follows next last waits (sequence_of s) (is_waiting s)
    → behind next (sequence_of s) (is_waiting s) l ≡ true → behind next last waits (s ∷ l) ≡ true
unfolding behind
behind-of next last waits s l f h =
    and_both (may_follow next last waits (sequence_of s) (is_waiting s)) (behind next (sequence_of s) (is_waiting s) l)
    (follows_of next last waits (sequence_of s) (is_waiting s) f) h

-- Where each slot is behind the last, neighbours are in order and the last slot is below the next number.
pub behind-rising : (next last : ℕ) (waits : Bool) (l : List Slot) → behind next last waits l ≡ true → rising next l ≡ true
unfolding rising
behind-rising next last waits [] h = refl
behind-rising next last waits (s ∷ []) h = (behind-inv next last waits s [] h).0.below
behind-rising next last waits (s ∷ t ∷ l) h =
    let x = (behind-inv next last waits s (t ∷ l) h).1 in
    let y = (behind-inv next (sequence_of s) (is_waiting s) t l x).0 in
    and_both (follows s t) (rising next (t ∷ l)) (and_both (ltb (sequence_of s) (sequence_of t)) (not (is_waiting s) || is_waiting t) y.above y.kept)
    (behind-rising next (sequence_of s) (is_waiting s) (t ∷ l) x)

-- Slots in order are each behind the last, if the first is behind what stands before it.
rising-behind : (next last : ℕ) (waits : Bool) (s : Slot) (l : List Slot) → ltb last (sequence_of s) ≡ true → (not waits || is_waiting s) ≡ true
    → rising next (s ∷ l) ≡ true → behind next last waits (s ∷ l) ≡ true
unfolding behind rising
rising-behind next last waits s [] a k h = behind-of next last waits s [] (record { above = a; below = h; kept = k }) refl
rising-behind next last waits s (t ∷ l) a k h =
    let x = (and-eq-true_iff (follows s t) (rising next (t ∷ l))).0 h in
    let y = (and-eq-true_iff (ltb (sequence_of s) (sequence_of t)) (not (is_waiting s) || is_waiting t)).0 x.0 in
    let below = lt-ltb (sequence_of s) next (rising-inv next (s ∷ t ∷ l) h).0 in
    behind-of next last waits s (t ∷ l) (record { above = a; below = below; kept = k })
    (rising-behind next (sequence_of s) (is_waiting s) t l y.0 y.1 x.1)

-- "sequence 1..4,294,967,294": good slots in order are behind the number 0.
pub rising-all : (n b next : ℕ) (l : List Slot) → good_slots n b l ≡ true → rising next l ≡ true → behind next 0 false l ≡ true
unfolding behind valid_head
rising-all n b next [] g h = refl
rising-all n b next (s ∷ l) g h =
    let v = (valid-inv s.recorded (slots-inv n b s l g).0.sound).head in
    let x = (and-eq-true_iff (between 1 4294967294 (sequence_of s)) (between 0 31 s.recorded.program)).0 v in
    let one = leb-true 1 (sequence_of s) ((and-eq-true_iff (leb 1 (sequence_of s)) (leb (sequence_of s) 4294967294)).0 x.0).0 in
    rising-behind next 0 false s l (lt-ltb 0 (sequence_of s) one) refl h
