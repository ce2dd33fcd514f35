-- What freeing slots leaves, by their positions: one slot, or all in a set.
use Rattle.std.specs.Prelude.{ℕ, zero, suc, ◌+◌, ◌≤◌, ◌<◌, ◌≡◌, refl, Bool, true, false, ◌&&◌, cond, length, get_or, take, drop, eqb}
use Rattle.std.proofs.Common.{add-one, arith, sym, ap, ◌∙◌, subst, ⊎_elim, take-suc, length-take-le, eq-eqb, ne_eqb}
use mathlib.Core.List.Memᴰ
use mathlib.Core.List.{List, [], ◌∷◌, ◌++◌, Memᴰ}
use Rattle.std.proofs.Math.Bool.{and-false}
use Rattle.std.specs.Prelude.{None, Some}
use Rattle.record.specs.Operation.{Record, operands}
use Rattle.log_rules.specs.Programs.{with}
use Rattle.log_rules.specs.Slot.{Slot, with_dependents, Log, with_slots, is_waiting, sequence_of, good_slots, well_formed_log}
use Rattle.log_rules.specs.Order.{shares}
use Rattle.log_rules.specs.Depend.{reach, noted}
use Rattle.log_rules.specs.Change.{removed, is_sequence, sent, earliest}
use Rattle.log_rules.specs.Sends.{sent_all}
use Rattle.log_rules.specs.Code.Slots.{no_slot, slot_at}
use Rattle.log_rules.specs.Code.Flags.{stands, chosen, kept, AllWait}
use Rattle.log_rules.proofs.Laws.Slot.{and_both, GoodSlot, slots-inv, slots-of, formed-inv, formed-of}
use Rattle.log_rules.proofs.Laws.Order.{Rising}
use Rattle.log_rules.proofs.Laws.Change.{Ordered, rising-inv, rising-of}
use Rattle.log_rules.proofs.Laws.Chain.{ordered-rising}

removed-on : (f : Slot → Bool) (l : List Slot) (i : ℕ) → i < length l → f (slot_at l i) ≡ true → ((j : ℕ) → j < i → f (slot_at l j) ≡ false)
    → removed f l ≡ take i l ++ drop (suc i) l
unfolding removed
removed-on f [] i lt h earlier = absurd (omega arith)
removed-on f (s ∷ l) zero lt h earlier = rw h
removed-on f (s ∷ l) (suc i) lt h earlier =
    rw (earlier 0 (omega arith)) (ap (λ (y : List Slot). s ∷ y) (removed-on f l i (omega arith) h (λ j k. earlier (suc j) (omega arith))))

-- "frees its slot": removing the first slot that passes a test moves the slots behind it down by one
pub removed-at : (f : Slot → Bool) (l : List Slot) (i : ℕ) → i < length l → f (slot_at l i) ≡ true → ((j : ℕ) → j < i → f (slot_at l j) ≡ false)
    → removed f l ≡ take i l ++ drop (i + 1) l
removed-at f l i lt h earlier = rw add-one (removed-on f l i lt h earlier)

-- its record is the earliest
pub earliest-at : (f : Slot → Bool) (l : List Slot) (i : ℕ) → i < length l → f (slot_at l i) ≡ true → ((j : ℕ) → j < i → f (slot_at l j) ≡ false)
    → earliest f l ≡ Some (slot_at l i).recorded
unfolding earliest
earliest-at f [] i lt h earlier = absurd (omega arith)
earliest-at f (s ∷ l) zero lt h earlier = rw h
earliest-at f (s ∷ l) (suc i) lt h earlier = rw (earlier 0 (omega arith)) (earliest-at f l i (omega arith) h (λ j k. earlier (suc j) (omega arith)))

-- where none passes there is no earliest
pub earliest-not : (f : Slot → Bool) (l : List Slot) → ((j : ℕ) → j < length l → f (slot_at l j) ≡ false) → earliest f l ≡ None
unfolding earliest
earliest-not f [] earlier = refl
earliest-not f (s ∷ l) earlier = rw (earlier 0 (omega arith)) (earliest-not f l (λ j k. earlier (suc j) (omega arith)))

-- the slot at a position is one of the slots
pub slot-in : (l : List Slot) (i : ℕ) → i < length l → Memᴰ (slot_at l i) l
slot-in [] i lt = absurd (omega arith)
slot-in (s ∷ l) zero lt = Memᴰ.head refl
slot-in (s ∷ l) (suc i) lt = Memᴰ.tail (slot-in l i (omega arith))

-- of slots in order an earlier one has the smaller sequence number
pub rising-at : (l : List Slot) → Rising sequence_of l → (i j : ℕ) → j < i → i < length l → sequence_of (slot_at l j) < sequence_of (slot_at l i)
rising-at [] rise i j k lt = absurd (omega arith)
rising-at (s ∷ l) rise zero j k lt = absurd (omega arith)
rising-at (s ∷ l) rise (suc i) zero k lt = rise.0 (slot_at l i) (slot-in l i (omega arith))
rising-at (s ∷ l) rise (suc i) (suc j) k lt = rising-at l rise.1 i j (omega arith) (omega arith)

-- the slots of a well-formed log are in order
pub formed-rising : (n b m : ℕ) (l : Log) → well_formed_log n b m l ≡ true → Rising sequence_of l.slots
formed-rising n b m l h = ordered-rising l.head.next l.slots (rising-inv l.head.next l.slots (formed-inv n b m l h).order)

-- no slot before one has its sequence number
pub sequence-alone : (l : List Slot) → Rising sequence_of l → (i q : ℕ) → i < length l → sequence_of (slot_at l i) ≡ q → (j : ℕ) → j < i → is_sequence q (slot_at l j) ≡ false
sequence-alone l rise i q lt e j k =
    let z = rising-at l rise i j k lt in
    rw (ne_eqb (sequence_of (slot_at l j)) q (λ y. omega arith)) (and-false (is_waiting (slot_at l j)))

is-sequence : (s : Slot) → is_waiting s ≡ true → is_sequence (sequence_of s) s ≡ true
is-sequence s w = and_both (is_waiting s) (eqb (sequence_of s) (sequence_of s)) w (eq-eqb (sequence_of s) (sequence_of s) refl)

-- "frees its slot": sending the waiting operation of a slot frees just that slot
pub sent-at : (n b m : ℕ) (l : Log) (i : ℕ) → well_formed_log n b m l ≡ true → i < length l.slots → is_waiting (slot_at l.slots i) ≡ true
    → sent (sequence_of (slot_at l.slots i)) l ≡ with_slots (take i l.slots ++ drop (i + 1) l.slots) l
sent-at n b m l i h lt w =
    let q = sequence_of (slot_at l.slots i) in
    ap (λ (y : List Slot). with_slots y l)
    (removed-at (is_sequence q) l.slots i lt (is-sequence (slot_at l.slots i) w) (sequence-alone l.slots (formed-rising n b m l h) i q lt refl))

-- a record chosen is that of one of the slots
pub chosen-in : (fs : List ℕ) (l : List Slot) {r : Record} → Memᴰ r (chosen fs l) → (s : Slot) × Memᴰ s l × (r ≡ s.recorded)
unfolding chosen
chosen-in [] l m = absurd (Memᴰ.not-nil m)
chosen-in (f ∷ fs) [] m = absurd (Memᴰ.not-nil m)
chosen-in (f ∷ fs) (s ∷ l) {r} m = go (eqb f 1) m (chosen-in fs l)
  where
    later : ((u : Slot) × Memᴰ u l × (r ≡ u.recorded)) → (u : Slot) × Memᴰ u (s ∷ l) × (r ≡ u.recorded)
    later w = (w.0, Memᴰ.tail w.1, w.2)

    go : (t : Bool) → Memᴰ r (cond t (s.recorded ∷ chosen fs l) (chosen fs l)) → (Memᴰ r (chosen fs l) → (u : Slot) × Memᴰ u l × (r ≡ u.recorded))
        → (u : Slot) × Memᴰ u (s ∷ l) × (r ≡ u.recorded)
    go true k down = ⊎_elim (λ (e : r ≡ s.recorded). (s, Memᴰ.head refl, e)) (λ (j : Memᴰ r (chosen fs l)). later (down j)) (Memᴰ.cases_cons k)
    go false k down = later (down k)

-- sends of later operations leave an earlier slot in its place
sent-behind : (s : Slot) (rs : List Record) (v w : List Slot) (l : Log) → ((r : Record) → Memᴰ r rs → sequence_of s < r.sequence)
    → sent_all rs (with_slots v l) ≡ with_slots w l → sent_all rs (with_slots (s ∷ v) l) ≡ with_slots (s ∷ w) l
unfolding sent_all removed
sent-behind s [] v w l later e = ap (λ (x : Log). with_slots (s ∷ x.slots) l) e
sent-behind s (r ∷ rs) v w l later e =
    let k = later r (Memᴰ.head refl) in
    let other : is_sequence r.sequence s ≡ false = rw (ne_eqb (sequence_of s) r.sequence (λ y. omega arith)) (and-false (is_waiting s)) in
    rw other (sent-behind s rs (removed (is_sequence r.sequence) v) w l (λ q m. later q (Memᴰ.tail m)) e)

sent-first : (s : Slot) (v : List Slot) (l : Log) → is_waiting s ≡ true → sent (sequence_of s) (with_slots (s ∷ v) l) ≡ with_slots v l
unfolding removed
sent-first s v l w = rw (is-sequence s w)

sent-kept-of : (l : Log) (k : List Slot) → Rising sequence_of k → (fs : List ℕ) → AllWait fs k → sent_all (chosen fs k) (with_slots k l) ≡ with_slots (kept fs k) l
unfolding chosen kept sent_all removed
sent-kept-of l k rise [] all = refl
sent-kept-of l [] rise (f ∷ fs) all = refl
sent-kept-of l (s ∷ k) rise (f ∷ fs) all = go (eqb f 1) all.0 (sent-kept-of l k rise.1 fs all.1)
  where
    go : (t : Bool) → (t ≡ true → is_waiting s ≡ true) → sent_all (chosen fs k) (with_slots k l) ≡ with_slots (kept fs k) l
        → sent_all (cond t (s.recorded ∷ chosen fs k) (chosen fs k)) (with_slots (s ∷ k) l) ≡ with_slots (cond t (kept fs k) (s ∷ kept fs k)) l
    go true w e = ap (sent_all (chosen fs k)) (sent-first s k l (w refl)) ∙ e
    go false w e =
        sent-behind s (chosen fs k) k (kept fs k) l
        (λ r m. let u = chosen-in fs k m in subst (λ (y : Record). sequence_of s < y.sequence) (sym u.2) (rise.0 u.0 u.1)) e

-- sending the records of a set of waiting slots leaves just the others
pub sent-kept : (l : Log) → Rising sequence_of l.slots → (fs : List ℕ) → AllWait fs l.slots → sent_all (chosen fs l.slots) l ≡ with_slots (kept fs l.slots) l
sent-kept l rise fs all = sent-kept-of l l.slots rise fs all

-- what an accepted call leaves of one slot keeps its record and whether it waits
noting : (p : ℕ) (t : Bool) (s : Slot)
    → ((cond t (with_dependents (with s.dependents p) s) s).recorded ≡ s.recorded) × (is_waiting (cond t (with_dependents (with s.dependents p) s) s) ≡ is_waiting s)
noting p true s = (refl, refl)
noting p false s = (refl, refl)

-- a call that is noted changes no record of a set
pub chosen-noted : (fs : List ℕ) (p : ℕ) (ops : List ℕ) (l : List Slot) → chosen fs (noted p ops l) ≡ chosen fs l
unfolding chosen noted
chosen-noted [] p ops l = refl
chosen-noted (f ∷ fs) p ops [] = refl
chosen-noted (f ∷ fs) p ops (s ∷ l) =
    rw (chosen-noted fs p ops l, (noting p (is_waiting s && shares (operands s.recorded.operation) (reach ops l)) s).0)

-- nor whether its slots wait
pub wait-noted : (fs : List ℕ) (p : ℕ) (ops : List ℕ) (l : List Slot) → AllWait fs l → AllWait fs (noted p ops l)
unfolding noted
wait-noted [] p ops l all = tt
wait-noted (f ∷ fs) p ops [] all = tt
wait-noted (f ∷ fs) p ops (s ∷ l) all =
    ((λ h. (noting p (is_waiting s && shares (operands s.recorded.operation) (reach ops l)) s).1 ∙ all.0 h), wait-noted fs p ops l all.1)

-- the slots chosen and those kept are all
pub kept-length : (fs : List ℕ) (l : List Slot) → length (kept fs l) + length (chosen fs l) ≡ length l
unfolding kept chosen
kept-length [] l = omega arith
kept-length (f ∷ fs) [] = refl
kept-length (f ∷ fs) (s ∷ l) = go (eqb f 1) (kept-length fs l)
  where
    go : (t : Bool) → length (kept fs l) + length (chosen fs l) ≡ length l
        → length (cond t (kept fs l) (s ∷ kept fs l)) + length (cond t (s.recorded ∷ chosen fs l) (chosen fs l)) ≡ suc (length l)
    go true e = omega arith
    go false e = omega arith

-- so no more are kept than there are
pub kept-most : (fs : List ℕ) (l : List Slot) → length (kept fs l) ≤ length l
kept-most fs l = let e = kept-length fs l in omega arith

-- of an empty set all slots are kept
pub kept-nothing : (fs : List ℕ) (l : List Slot) → ((i : ℕ) → i < length fs → stands fs i ≡ false) → kept fs l ≡ l
unfolding kept
kept-nothing [] l empty = refl
kept-nothing (f ∷ fs) [] empty = refl
kept-nothing (f ∷ fs) (s ∷ l) empty = rw (empty 0 (omega arith)) (ap (λ (y : List Slot). s ∷ y) (kept-nothing fs l (λ i h. empty (suc i) (omega arith))))

kept-last : (fs : List ℕ) (l : List Slot) (f : ℕ) (s : Slot) → length fs ≡ length l → kept (fs ++ (f ∷ [])) (l ++ (s ∷ [])) ≡ cond (eqb f 1) (kept fs l) (kept fs l ++ (s ∷ []))
unfolding kept
kept-last [] [] f s e = refl
kept-last [] (t ∷ l) f s e = absurd (omega arith)
kept-last (g ∷ fs) [] f s e = absurd (omega arith)
kept-last (g ∷ fs) (t ∷ l) f s e = rw (kept-last fs l f s (omega arith)) (go (eqb g 1) (eqb f 1))
  where
    go : (x y : Bool) → cond x (cond y (kept fs l) (kept fs l ++ (s ∷ []))) (t ∷ cond y (kept fs l) (kept fs l ++ (s ∷ [])))
        ≡ cond y (cond x (kept fs l) (t ∷ kept fs l)) (cond x (kept fs l) (t ∷ kept fs l) ++ (s ∷ []))
    go true true = refl
    go true false = refl
    go false true = refl
    go false false = refl

-- the slots kept of those up to and with a position: those before it, and that there, if it is not in the set
pub kept_on : (fs : List ℕ) (l : List Slot) (i : ℕ) → i < length fs → i < length l
    → kept (take (i + 1) fs) (take (i + 1) l) ≡ cond (stands fs i) (kept (take i fs) (take i l)) (kept (take i fs) (take i l) ++ (slot_at l i ∷ []))
kept_on fs l i g h =
    let e : length (take i fs) ≡ length (take i l) = length-take-le i fs (omega arith) ∙ sym (length-take-le i l (omega arith)) in
    rw (add-one, take-suc fs i 0 g, take-suc l i no_slot h) (kept-last (take i fs) (take i l) (get_or fs i 0) (slot_at l i) e)

-- what is kept was there
kept_in : (fs : List ℕ) (l : List Slot) {t : Slot} → Memᴰ t (kept fs l) → Memᴰ t l
unfolding kept
kept_in [] l m = m
kept_in (f ∷ fs) [] m = m
kept_in (f ∷ fs) (s ∷ l) {t} m = go (eqb f 1) m (kept_in fs l)
  where
    go : (c : Bool) → Memᴰ t (cond c (kept fs l) (s ∷ kept fs l)) → (Memᴰ t (kept fs l) → Memᴰ t l) → Memᴰ t (s ∷ l)
    go true k down = Memᴰ.tail (down k)
    go false k down = ⊎_elim (λ (e : t ≡ s). Memᴰ.head e) (λ (j : Memᴰ t (kept fs l)). Memᴰ.tail (down j)) (Memᴰ.cases_cons k)

-- what is kept of good slots is good
pub kept-good : (n b : ℕ) (fs : List ℕ) (l : List Slot) → good_slots n b l ≡ true → good_slots n b (kept fs l) ≡ true
unfolding kept
kept-good n b [] l h = h
kept-good n b (f ∷ fs) [] h = h
kept-good n b (f ∷ fs) (s ∷ l) h = let g = slots-inv n b s l h in go (eqb f 1) g.0 (kept-good n b fs l g.1)
  where
    go : (c : Bool) → GoodSlot n b s → good_slots n b (kept fs l) ≡ true → good_slots n b (cond c (kept fs l) (s ∷ kept fs l)) ≡ true
    go true g k = k
    go false g k = slots-of n b s (kept fs l) g k

kept-ordered : (next : ℕ) (fs : List ℕ) (l : List Slot) → Ordered next l → Ordered next (kept fs l)
unfolding kept
kept-ordered next [] l o = o
kept-ordered next (f ∷ fs) [] o = o
kept-ordered next (f ∷ fs) (s ∷ l) o = go (eqb f 1) (kept-ordered next fs l o.2)
  where
    go : (c : Bool) → Ordered next (kept fs l) → Ordered next (cond c (kept fs l) (s ∷ kept fs l))
    go true r = r
    go false r = (o.0, λ t m. o.1 t (kept_in fs l m), r)

-- freeing a set of slots keeps the log well formed
pub kept-formed : (n b m : ℕ) (fs : List ℕ) (l : Log) → well_formed_log n b m l ≡ true → well_formed_log n b m (with_slots (kept fs l.slots) l) ≡ true
kept-formed n b m fs l w =
    let g = formed-inv n b m l w in
    let e = kept-most fs l.slots in
    let c = g.count in
    formed-of n b m (with_slots (kept fs l.slots) l)
    (record {
      head = g.head;
      count = omega arith;
      good = kept-good n b fs l.slots g.good;
      order = rising-of l.head.next (kept fs l.slots) (kept-ordered l.head.next fs l.slots (rising-inv l.head.next l.slots g.order));
    })
