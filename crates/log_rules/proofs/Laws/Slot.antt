-- What a well-formed log and its slots are, part by part.
use Rattle.std.specs.Prelude.{ℕ, ◌^◌, ◌≤◌, ◌<◌, ◌≡◌, refl, List, ◌∷◌, Bool, true, ◌&&◌, ◌||◌, length, leb, ltb, eqb}
use Rattle.std.proofs.Common.{arith, leb-true, ltb-true, le-leb, lt-ltb}
use Rattle.std.proofs.Math.Bool.{and-eq-true_iff}
use Rattle.record.specs.Fields.{valid, fits}
use Rattle.log_rules.specs.Slot.{Slot, Head, Log, with_next, with_marks, is_waiting, good_slot, good_slots, rising, good_head, well_formed_log, empty_log}

-- both tests are passed
pub and_both : (a b : Bool) → a ≡ true → b ≡ true → (a && b) ≡ true
and_both a b g h = (and-eq-true_iff a b).1 (g, h)

-- what is asked of a slot, part by part
pub record GoodSlot (n b : ℕ) (s : Slot) : Type 0 where
  pub sound : valid s.recorded ≡ true
  pub fit : fits n b s.recorded ≡ true
  pub small : s.dependents < 2 ^ 32
  pub none-if-lost : (is_waiting s || eqb s.dependents 0) ≡ true

-- a slot that passes the test has each part
pub slot-inv : (n b : ℕ) (s : Slot) → good_slot n b s ≡ true → GoodSlot n b s
slot-inv n b s h =
    let g = (and-eq-true_iff (valid s.recorded && fits n b s.recorded) (ltb s.dependents (2 ^ 32) && (is_waiting s || eqb s.dependents 0))).0 h in
    let v = (and-eq-true_iff (valid s.recorded) (fits n b s.recorded)).0 g.0 in
    let d = (and-eq-true_iff (ltb s.dependents (2 ^ 32)) (is_waiting s || eqb s.dependents 0)).0 g.1 in
    record { sound = v.0; fit = v.1; small = ltb-true s.dependents (2 ^ 32) d.0; none-if-lost = d.1 }

-- a slot that has each part passes the test
pub slot_of : (n b : ℕ) (s : Slot) → GoodSlot n b s → good_slot n b s ≡ true
slot_of n b s g =
    and_both (valid s.recorded && fits n b s.recorded) (ltb s.dependents (2 ^ 32) && (is_waiting s || eqb s.dependents 0))
    (and_both (valid s.recorded) (fits n b s.recorded) g.sound g.fit)
    (and_both (ltb s.dependents (2 ^ 32)) (is_waiting s || eqb s.dependents 0) (lt-ltb s.dependents (2 ^ 32) g.small) g.none-if-lost)

-- of good slots the first is good and so are the others
pub slots-inv : (n b : ℕ) (s : Slot) (l : List Slot) → good_slots n b (s ∷ l) ≡ true → GoodSlot n b s × (good_slots n b l ≡ true)
unfolding good_slots
slots-inv n b s l h = let g = (and-eq-true_iff (good_slot n b s) (good_slots n b l)).0 h in (slot-inv n b s g.0, g.1)

-- a good slot before good slots makes a list of good ones
pub slots-of : (n b : ℕ) (s : Slot) (l : List Slot) → GoodSlot n b s → good_slots n b l ≡ true → good_slots n b (s ∷ l) ≡ true
unfolding good_slots
slots-of n b s l g h = and_both (good_slot n b s) (good_slots n b l) (slot_of n b s g) h

-- what is asked of a log's head, part by part
pub record GoodHead (h : Head) : Type 0 where
  pub from_one : 1 ≤ h.next
  pub in_four : h.next < 2 ^ 32
  pub marks-small : h.marks < 2 ^ 32

-- a head that passes the test has each part
pub head-inv : (h : Head) → good_head h ≡ true → GoodHead h
head-inv h t =
    let g = (and-eq-true_iff (leb 1 h.next && ltb h.next (2 ^ 32)) (ltb h.marks (2 ^ 32))).0 t in
    let k = (and-eq-true_iff (leb 1 h.next) (ltb h.next (2 ^ 32))).0 g.0 in
    record { from_one = leb-true 1 h.next k.0; in_four = ltb-true h.next (2 ^ 32) k.1; marks-small = ltb-true h.marks (2 ^ 32) g.1 }

-- a head that has each part passes the test
pub head_of : (h : Head) → GoodHead h → good_head h ≡ true
head_of h g =
    and_both _ _ (and_both _ _ (le-leb 1 h.next g.from_one) (lt-ltb h.next (2 ^ 32) g.in_four)) (lt-ltb h.marks (2 ^ 32) g.marks-small)

-- another next number, and other marks, of a good head
pub next-good : (v : ℕ) (l : Log) → 1 ≤ v → v < 2 ^ 32 → GoodHead l.head → GoodHead (with_next v l).head
next-good v l f t g = record { from_one = f; in_four = t; marks-small = g.marks-small }

pub marks-good : (k : ℕ) (l : Log) → k < 2 ^ 32 → GoodHead l.head → GoodHead (with_marks k l).head
marks-good k l t g = record { from_one = g.from_one; in_four = g.in_four; marks-small = t }

-- what is asked of a log, part by part
pub record Formed (n b m : ℕ) (l : Log) : Type 0 where
  pub head : GoodHead l.head
  pub count : length l.slots ≤ m
  pub good : good_slots n b l.slots ≡ true
  pub order : rising l.head.next l.slots ≡ true

-- a well-formed log has each part
pub formed-inv : (n b m : ℕ) (l : Log) → well_formed_log n b m l ≡ true → Formed n b m l
unfolding well_formed_log
formed-inv n b m l h =
    let g₁ = (and-eq-true_iff _ _).0 h in
    let g₂ = (and-eq-true_iff _ _).0 g₁.1 in
    let g₃ = (and-eq-true_iff _ _).0 g₂.1 in
    record { head = head-inv l.head g₁.0; count = leb-true (length l.slots) m g₂.0; good = g₃.0; order = g₃.1 }

-- a log that has each part is well formed
pub formed-of : (n b m : ℕ) (l : Log) → Formed n b m l → well_formed_log n b m l ≡ true
unfolding well_formed_log
formed-of n b m l f =
    and_both _ _ (head_of l.head f.head) (and_both _ _ (le-leb (length l.slots) m f.count) (and_both _ _ f.good f.order))

-- the log that a mount begins is well formed
pub empty-good : (n b m : ℕ) → well_formed_log n b m empty_log ≡ true
unfolding good_slots rising
empty-good n b m =
    formed-of n b m empty_log
    (record { head = record { from_one = omega arith; in_four = omega arith; marks-small = omega arith }; count = omega arith; good = refl; order = refl })
