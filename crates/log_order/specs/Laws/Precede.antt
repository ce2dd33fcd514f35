-- Which of the candidates directly precede an operation, and that they decide whether a predecessor waits.
use Rattle.std.specs.Prelude.{ℕ, zero, suc, ◌+◌, ◌≤◌, ◌<◌, ◌≡◌, refl, Bool, true, false, ◌&&◌, ◌||◌, cond, length, take}
use Rattle.std.proofs.Common.{add-one, arith, sym, ap, ◌∙◌, take-append-drop, take-take, lt-ltb, le-ltb}
use mathlib.Core.List.{List, [], ◌∷◌, ◌++◌, Memᴰ}
use Rattle.std.proofs.Math.Bool.{or_assoc, or_comm}
use Rattle.std.proofs.Math.Seq.{slice, slice-cons}
use Rattle.record.specs.Operation.{Operation, Record}
use Rattle.log_rules.specs.Slot.{Slot, is_waiting, sequence_of}
use Rattle.log_rules.specs.Order.{directly_precedes, any, before, preceded}
use Rattle.log_rules.specs.Change.{waiting_of}
use Rattle.log_rules.proofs.Laws.Order.{Rising, direct-decides}
use Rattle.log_rules.proofs.Laws.Freed.{slot-in}
use Rattle.log_rules.specs.Code.Slots.{slot_at, no_slot}
use Rattle.log_order.specs.Code.Candidates.{waits_before, some_before}

-- among no candidates none precedes
pub some-none : (q : Operation) → some_before q [] ≡ false
unfolding any waiting_of
some-none q = refl

-- what the first of some candidates adds to the others
some_first : (q : Operation) (t : Slot) (l : List Slot) → some_before q (t ∷ l) ≡ (waits_before q t || some_before q l)
unfolding any waiting_of
some_first q t l = go (is_waiting t)
  where
    go : (w : Bool) → any (λ (a : Record). directly_precedes a.operation q) (cond w (t.recorded ∷ waiting_of l) (waiting_of l))
        ≡ ((w && directly_precedes t.recorded.operation q) || some_before q l)
    go true = refl
    go false = refl

-- among two lists of candidates one precedes if one of either list does
some-both : (q : Operation) (u v : List Slot) → some_before q (u ++ v) ≡ (some_before q u || some_before q v)
some-both q [] v = rw (some-none q)
some-both q (t ∷ u) v = rw (some_first q t (u ++ v), some-both q u v, some_first q t u) (sym (or_assoc (waits_before q t) (some_before q u) (some_before q v)))

-- in a run of candidates one precedes if the first does, or one of the others
pub run-next : (q : Operation) (l : List Slot) (j to : ℕ) → j < to → to ≤ length l
    → some_before q (slice j to l) ≡ (waits_before q (slot_at l j) || some_before q (slice (j + 1) to l))
run-next q l j to h k = rw (slice-cons j to l no_slot h k, add-one) (some_first q (slot_at l j) (slice (suc j) to l))

-- among the candidates before a position one precedes if one of the run there does, or one before that run
pub some_more : (q : Operation) (l : List Slot) (from i : ℕ) → from ≤ i → some_before q (take i l) ≡ (some_before q (slice from i l) || some_before q (take from l))
some_more q l from i h =
    ap (some_before q) (sym (take-append-drop from (take i l))) ∙ some-both q (take from (take i l)) (slice from i l)
    ∙ or_comm (some_before q (take from (take i l))) (some_before q (slice from i l)) ∙ rw (take-take from i l h)

-- no slot from an operation on is before it
none-later : (b : Record) (l : List Slot) → ((t : Slot) → Memᴰ t l → b.sequence ≤ sequence_of t) → any (λ (a : Record). before a b) (waiting_of l) ≡ false
unfolding any waiting_of
none-later b [] later = refl
none-later b (s ∷ l) later = go (is_waiting s) (none-later b l (λ t m. later t (Memᴰ.tail m)))
  where
    go : (w : Bool) → any (λ (a : Record). before a b) (waiting_of l) ≡ false → any (λ (a : Record). before a b) (cond w (s.recorded ∷ waiting_of l) (waiting_of l)) ≡ false
    go true e = rw (le-ltb (sequence_of s) b.sequence (later s (Memᴰ.head refl))) e
    go false e = e

-- of slots in order the first has the least sequence number
first-least : (s : Slot) (l : List Slot) → Rising sequence_of (s ∷ l) → (t : Slot) → Memᴰ t (s ∷ l) → sequence_of s ≤ sequence_of t
first-least s l rise t (Memᴰ.head e) = let z = ap sequence_of e in omega arith
first-least s l rise t (Memᴰ.tail m) = let z = rise.0 t m in omega arith

-- those before an operation are those of the slots before its own that directly precede it
before-those : (b : Record) (l : List Slot) → Rising sequence_of l → (i : ℕ) → i < length l → b.sequence ≡ sequence_of (slot_at l i)
    → any (λ (a : Record). before a b) (waiting_of l) ≡ some_before b.operation (take i l)
unfolding any waiting_of
before-those b [] rise i h e = absurd (omega arith)
before-those b (s ∷ l) rise zero h e = none-later b (s ∷ l) (λ t m. let z = first-least s l rise t m in omega arith)
before-those b (s ∷ l) rise (suc i) h e = go (is_waiting s) (before-those b l rise.1 i (omega arith) e)
  where
    go : (w : Bool) → any (λ (a : Record). before a b) (waiting_of l) ≡ some_before b.operation (take i l)
        → any (λ (a : Record). before a b) (cond w (s.recorded ∷ waiting_of l) (waiting_of l))
        ≡ any (λ (a : Record). directly_precedes a.operation b.operation) (cond w (s.recorded ∷ waiting_of (take i l)) (waiting_of (take i l)))
    go true k = let z = rise.0 (slot_at l i) (slot-in l i (omega arith)) in rw (lt-ltb (sequence_of s) b.sequence (omega arith), k)
    go false k = k

-- "a predecessor waits" just if one of the earlier slots' operations waits and directly precedes
pub earlier-decide : (l : List Slot) → Rising sequence_of l → (i : ℕ) → i < length l → preceded (waiting_of l) (slot_at l i).recorded ≡ some_before (slot_at l i).recorded.operation (take i l)
earlier-decide l rise i h = direct-decides (waiting_of l) (slot_at l i).recorded ∙ before-those (slot_at l i).recorded l rise i h refl
