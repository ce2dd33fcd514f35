-- When an operation is found, by the objects of those found so far, and what a turn of the pass adds.
use Rattle.std.specs.Prelude.{ℕ, zero, suc, ◌+◌, ◌≤◌, ◌<◌, ◌≡◌, ◌⊎◌, Bool, ◌&&◌, ◌||◌, cond, length, set, drop, replicate, eqb, ltb}
use Rattle.std.proofs.Common.{add-one, arith, ap, ◌∙◌, subst, inl, inr, ⊎_elim, length-set, drop-cons, drop-set-lt, get_or-set_same, get_or-set_other, lt-ltb}
use Rattle.std.proofs.Math.Path.{refl, sym}
use mathlib.Core.List.{List, [], ◌∷◌, ◌++◌, Memᴰ}
use Rattle.std.proofs.Math.Bool.{true, false, not, or-false, and_comm, and-eq-true_iff}
use Rattle.std.proofs.lemmas.Bool.{false≢true, not-true}
use Rattle.std.specs.Prelude.{Option, None, Some}
use Rattle.std.proofs.lemmas.List.{get_or-replicate}
use Rattle.std.proofs.Math.Seq.{drop-length}
use Rattle.buffer.specs.Laws.Test.{or_cases, or_left, or_right}
use Rattle.buffer.specs.Decoded.{is_some}
use Rattle.record.specs.Operation.{Operation, Record, operands, Stretch, overwrite_of}
use Rattle.log_rules.specs.Slot.{Slot, is_waiting, sequence_of}
use Rattle.log_rules.specs.Order.{shares, touches, separate, directly_precedes, any, closure, before}
use Rattle.log_rules.specs.Change.{waiting_of}
use Rattle.log_rules.proofs.Laws.Order.{Rising, in-any, any-in, before_of, before-ordered, closure-in}
use Rattle.log_rules.proofs.Laws.Change.{waiting-in}
use Rattle.log_rules.proofs.Laws.Swap.{shares-sym}
use Rattle.log_rules.proofs.Laws.Chain.{shares-append}
use Rattle.log_rules.proofs.Laws.Needed.{chosen_at}
use Rattle.log_rules.specs.Code.Slots.{slot_at, no_slot}
use Rattle.log_rules.specs.Code.Flags.{stands, Holds, chosen, AllWait}
use Rattle.log_order.specs.Code.Closed.{is_found, found_in, some_after, is_overwrite, objects_found, others_found, Closed, ClosedMore, Picked, Closure}

swap_or : (a b c : Bool) → a || (b || c) ≡ b || (a || c)
swap_or true true c = refl
swap_or true false c = refl
swap_or false b c = refl

-- what shares one of the objects found: a given one, or an operand of one found
module _ (k ops : List ℕ) where
  objects-test : (c : List Record) → shares k (objects_found ops c) ≡ (shares k ops || any (λ (q : Record). shares k (operands q.operation)) c)
  unfolding objects_found any
  objects-test [] = sym (or-false (shares k ops))
  objects-test (r ∷ c) = rw (shares-append k (operands r.operation) (objects_found ops c), objects-test c) (swap_or (shares k (operands r.operation)) (shares k ops) _)

  others-test : (c : List Record) → shares k (others_found ops c) ≡ (shares k ops || any (λ (q : Record). not (is_overwrite q.operation) && shares k (operands q.operation)) c)
  unfolding others_found any
  others-test [] = sym (or-false (shares k ops))
  others-test (r ∷ c) = go (is_overwrite r.operation) (others-test c)
    where
      go : (w : Bool) → shares k (others_found ops c) ≡ (shares k ops || any (λ (q : Record). not (is_overwrite q.operation) && shares k (operands q.operation)) c)
          → shares k (cond w (others_found ops c) (operands r.operation ++ others_found ops c))
          ≡ (shares k ops || ((not w && shares k (operands r.operation)) || any (λ (q : Record). not (is_overwrite q.operation) && shares k (operands q.operation)) c))
      go true e = e
      go false e = rw (shares-append k (operands r.operation) (others_found ops c), e) (swap_or (shares k (operands r.operation)) (shares k ops) _)

-- an operation that touches another directly precedes it, unless both are overwrites
precedes-plain : (a b : Operation) → touches a b ≡ true → (is_overwrite a ≡ false) ⊎ (is_overwrite b ≡ false) → directly_precedes a b ≡ true
unfolding directly_precedes
precedes-plain a b t e = rw t (go (overwrite_of a) (overwrite_of b) e)
  where
    go : (x y : Option Stretch) → (is_some x ≡ false) ⊎ (is_some y ≡ false) → not (separate x y) ≡ true
    go None y h = refl
    go (Some s) None h = refl
    go (Some s) (Some t) (inl h) = absurd (false≢true (sym h))
    go (Some s) (Some t) (inr h) = absurd (false≢true (sym h))

precedes-touches : (a b : Operation) → directly_precedes a b ≡ true → touches a b ≡ true
unfolding directly_precedes
precedes-touches a b h = ((and-eq-true_iff (touches a b) (not (separate (overwrite_of a) (overwrite_of b)))).0 h).0

-- an operation that is earlier than all found so far
module _ (ops : List ℕ) (a : Record) (c : List Record) (later : (q : Record) → Memᴰ q c → a.sequence < q.sequence) where
  abbrev pub due : Bool
  due = shares (operands a.operation) ops || any (before a) c

  -- shares one of the objects found if it is found by them
  pub due-touches : due ≡ true → shares (operands a.operation) (objects_found ops c) ≡ true
  due-touches h =
      let k = operands a.operation in
      objects-test k ops c ∙ ⊎_elim (λ (g : shares k ops ≡ true). or_left (shares k ops) _ g)
      (λ (g : any (before a) c ≡ true). let w = any-in (before a) c g in
      or_right (shares k ops) _ (in-any (λ (q : Record). shares k (operands q.operation)) c w.1 (precedes-touches a.operation w.0.operation (before-ordered a w.0 w.2))))
      (or_cases (shares k ops) (any (before a) c) h)

  -- is found if it shares one and is no overwrite
  pub plain-due : is_overwrite a.operation ≡ false → shares (operands a.operation) (objects_found ops c) ≡ true → due ≡ true
  plain-due e h =
      let k = operands a.operation in
      ⊎_elim (λ (g : shares k ops ≡ true). or_left (shares k ops) (any (before a) c) g)
      (λ (g : any (λ (q : Record). shares k (operands q.operation)) c ≡ true). let w = any-in (λ (q : Record). shares k (operands q.operation)) c g in
      or_right (shares k ops) (any (before a) c) (in-any (before a) c w.1 (before_of a w.0 (later w.0 w.1) (precedes-plain a.operation w.0.operation w.2 (inl e)))))
      (or_cases (shares k ops) _ (sym (objects-test k ops c) ∙ h))

  -- or if it shares one of those that are no overwrites
  pub others-due : shares (operands a.operation) (others_found ops c) ≡ true → due ≡ true
  others-due h =
      let k = operands a.operation in
      let f : Record → Bool = λ q. not (is_overwrite q.operation) && shares k (operands q.operation) in
      ⊎_elim (λ (g : shares k ops ≡ true). or_left (shares k ops) (any (before a) c) g)
      (λ (g : any f c ≡ true). let w = any-in f c g in
      let u = (and-eq-true_iff (not (is_overwrite w.0.operation)) (shares k (operands w.0.operation))).0 w.2 in
      or_right (shares k ops) (any (before a) c) (in-any (before a) c w.1 (before_of a w.0 (later w.0 w.1) (precedes-plain a.operation w.0.operation u.1 (inr (not-true (is_overwrite w.0.operation) u.0))))))
      (or_cases (shares k ops) _ (sym (others-test k ops c) ∙ h))

  -- else only the pairs decide
  pub pairs-due : shares (operands a.operation) (others_found ops c) ≡ false → due ≡ any (λ (q : Record). directly_precedes a.operation q.operation) c
  unfolding any
  pairs-due h =
      let k = operands a.operation in
      rw (or-none (shares k ops) _ (sym (others-test k ops c) ∙ h)) (each c later)
    where
      or-none : (x y : Bool) → x || y ≡ false → x ≡ false
      or-none true y e = e
      or-none false y e = refl

      each : (l : List Record) → ((q : Record) → Memᴰ q l → a.sequence < q.sequence) → any (before a) l ≡ any (λ (q : Record). directly_precedes a.operation q.operation) l
      each [] lt = refl
      each (q ∷ l) lt = rw (lt-ltb a.sequence q.sequence (lt q (Memᴰ.head refl)), each l (λ p m. lt p (Memᴰ.tail m)))

-- the operations found from a position on: with that of the slot there, if it waits and is found
pub found_at : (pick : Record → Bool) (ops : List ℕ) (l : List Slot) (j : ℕ) → j < length l
    → found_in pick ops (drop j l) ≡ cond (is_waiting (slot_at l j) && is_found pick ops (slot_at l j).recorded (found_in pick ops (drop (j + 1) l)))
    ((slot_at l j).recorded ∷ found_in pick ops (drop (j + 1) l)) (found_in pick ops (drop (j + 1) l))
unfolding waiting_of closure
found_at pick ops l j h = rw (drop-cons l j no_slot h, add-one) (go (is_waiting (slot_at l j)))
  where
    go : (w : Bool) → closure (λ (r : Record). pick r || shares (operands r.operation) ops) before (cond w ((slot_at l j).recorded ∷ waiting_of (drop (suc j) l)) (waiting_of (drop (suc j) l)))
        ≡ cond (w && is_found pick ops (slot_at l j).recorded (found_in pick ops (drop (suc j) l))) ((slot_at l j).recorded ∷ found_in pick ops (drop (suc j) l)) (found_in pick ops (drop (suc j) l))
    go true = refl
    go false = refl

-- a turn: the flag of the slot is set, and its operands are in the sets, if it waits and is found
module _ (pick : Record → Bool) (ops : List ℕ) (l : List Slot) (j : ℕ) (h : j < length l) (found set₁ set₂ : List ℕ) (room : j < length found) (c : Closed pick ops l (j + 1) found set₁ set₂) where
  abbrev pub rest : List Record
  rest = found_in pick ops (drop (j + 1) l)

  module _ (b : Bool) (v : ℕ) (flag : v ≡ cond b 1 0) (is : b ≡ (is_waiting (slot_at l j) && is_found pick ops (slot_at l j).recorded rest)) where
    now-found : found_in pick ops (drop j l) ≡ cond b ((slot_at l j).recorded ∷ rest) rest
    now-found = rw is (found_at pick ops l j h)

    stands-now : stands (set found j v) j ≡ b
    stands-now = rw (get_or-set_same found j v 0 room, flag) (go b)
      where
        go : (x : Bool) → eqb (cond x 1 0) 1 ≡ x
        go true = refl
        go false = refl

    pub turn-count : length (found_in pick ops (drop j l)) ≡ v + length rest
    turn-count = ap length now-found ∙ rw flag (go b)
      where
        go : (x : Bool) → length (cond x ((slot_at l j).recorded ∷ rest) rest) ≡ cond x 1 0 + length rest
        go true = omega arith
        go false = omega arith

    pub turn : (set₃ set₄ : List ℕ) → Holds set₃ (objects_found ops (cond b ((slot_at l j).recorded ∷ rest) rest)) → Holds set₄ (others_found ops (cond b ((slot_at l j).recorded ∷ rest) rest))
        → Closed pick ops l j (set found j v) set₃ set₄
    turn set₃ set₄ e f =
        record {
          picks = λ i lt w. rw (get_or-set_other found j i v 0 (λ z. omega arith)) (c.picks i (omega arith) w);
          these = chosen_at (set found j v) l j (rw length-set room) h ∙ rw (stands-now, drop-set-lt (j + 1) found j v (omega arith), c.these) (sym now-found);
          wait = rw (drop-cons (set found j v) j 0 (rw length-set room), drop-cons l j no_slot h) (waits, rw (drop-set-lt (suc j) found j v (omega arith)) (rw add-one at c.wait));
          all = rw now-found e;
          others = rw now-found f;
        }
      where
        waits : stands (set found j v) j ≡ true → is_waiting (slot_at l j) ≡ true
        waits z = ((and-eq-true_iff (is_waiting (slot_at l j)) (is_found pick ops (slot_at l j).recorded rest)).0 (sym is ∙ sym stands-now ∙ z)).0

-- of two operations either directly precedes the other, or none does
pub precedes-both : (a b : Operation) → directly_precedes a b ≡ directly_precedes b a
unfolding directly_precedes
precedes-both a b = rw (shares-sym (operands a) (operands b), separate-both (overwrite_of a) (overwrite_of b))
  where
    separate-both : (x y : Option Stretch) → separate x y ≡ separate y x
    separate-both None None = refl
    separate-both None (Some t) = refl
    separate-both (Some s) None = refl
    separate-both (Some s) (Some t) = ap not (and_comm (ltb s.offset (t.offset + length t.content)) (ltb t.offset (s.offset + length s.content)))

-- each operation found behind a slot is later than the slot's
pub found-later : (pick : Record → Bool) (ops : List ℕ) (l : List Slot) → Rising sequence_of l → (j : ℕ) → j < length l → (q : Record)
    → Memᴰ q (found_in pick ops (drop (j + 1) l)) → (slot_at l j).recorded.sequence < q.sequence
found-later pick ops l rise j h q m =
    let u = waiting-in (drop (j + 1) l) (closure-in (λ (r : Record). pick r || shares (operands r.operation) ops) before (waiting_of (drop (j + 1) l)) m) in
    subst (λ (y : Record). (slot_at l j).recorded.sequence < y.sequence) (sym u.3) (behind l rise j h u.0 (subst (λ (k : ℕ). Memᴰ u.0 (drop k l)) (add-one j) u.1))
  where
    behind : (l : List Slot) → Rising sequence_of l → (j : ℕ) → j < length l → (t : Slot) → Memᴰ t (drop (suc j) l) → sequence_of (slot_at l j) < sequence_of t
    behind [] r j h t m = absurd (omega arith)
    behind (s ∷ l) r zero h t m = r.0 t m
    behind (s ∷ l) r (suc j) h t m = behind l r.1 j (omega arith) t m

-- no turn, and one pass after another
pub closed_none : (l : List Slot) (i : ℕ) (found set₁ set₂ : List ℕ) → ClosedMore l i i found set₁ set₂ found set₁ set₂ 0
closed_none l i found set₁ set₂ = record { most = omega arith; closed = λ pick ops c. c; count = λ pick ops c. omega arith }

pub closed_on : (l : List Slot) (i k j : ℕ) (f₀ a₀ o₀ f₁ a₁ o₁ f₂ a₂ o₂ : List ℕ) (r t n : ℕ) → n ≡ r + t → ClosedMore l i k f₀ a₀ o₀ f₁ a₁ o₁ r → ClosedMore l k j f₁ a₁ o₁ f₂ a₂ o₂ t
    → ClosedMore l i j f₀ a₀ o₀ f₂ a₂ o₂ n
closed_on l i k j f₀ a₀ o₀ f₁ a₁ o₁ f₂ a₂ o₂ r t n e x y =
    record {
      most = let p = x.most in let q = y.most in omega arith;
      closed = λ pick ops c. y.closed pick ops (x.closed pick ops c);
      count = λ pick ops c. let p = x.count pick ops c in let q = y.count pick ops (x.closed pick ops c) in omega arith;
    }

-- before the first turn the flags tell the picked, and the sets have the given objects
closed-start : (pick : Record → Bool) (ops : List ℕ) (l : List Slot) (n : ℕ) → n ≡ length l → (found given : List ℕ)
    → ((j : ℕ) → j < n → is_waiting (slot_at l j) ≡ true → stands found j ≡ pick (slot_at l j).recorded) → Holds given ops → Closed pick ops l n found given given
unfolding chosen waiting_of closure objects_found others_found
closed-start pick ops l n e found given picks held =
    let z : drop n l ≡ [] = rw e (drop-length l) in
    record { picks = picks; these = rw z (none (drop n found)); wait = rw z (all (drop n found)); all = rw z held; others = rw z held }
  where
    none : (x : List ℕ) → chosen x [] ≡ []
    none [] = refl
    none (f ∷ x) = refl

    all : (x : List ℕ) → AllWait x []
    all [] = tt
    all (f ∷ x) = tt

-- after the last turn the flags tell those found
pub closed-end : (pick : Record → Bool) (ops : List ℕ) (l : List Slot) (n : ℕ) → n ≡ length l → (found₀ given found set₁ set₂ : List ℕ) (r : ℕ) → Holds given ops → Picked pick l found₀
    → ClosedMore l n 0 found₀ given given found set₁ set₂ r → Closure (found_in pick ops l) l found r
unfolding waiting_of closure
closed-end pick ops l n e found₀ given found set₁ set₂ r held picks m =
    let c = closed-start pick ops l n e found₀ given (λ j lt. picks j (omega arith)) held in
    let none : length (found_in pick ops (drop n l)) ≡ 0 = rw (e, drop-length l) in
    let k = m.count pick ops c in
    record { tells = (m.closed pick ops c).these; wait = (m.closed pick ops c).wait; count = omega arith }

-- where all flags are clear nothing is picked
pub none-picked : (l : List Slot) (n : ℕ) → length l ≤ n → Picked (λ r. false) l (replicate n 0)
none-picked l n h j lt w = rw (get_or-replicate {A = ℕ} n j 0 0 (omega arith))

-- a search among those found from a position on
module _ (a : Operation) (found : List ℕ) (l : List Slot) (j : ℕ) where
  abbrev pub after : ℕ → Bool
  after i = some_after a (chosen (drop i found) (drop i l))

  pub after-hit : j < length found → j < length l → stands found j ≡ true → directly_precedes (slot_at l j).recorded.operation a ≡ true → after j ≡ true
  unfolding any
  after-hit g h e f = rw (chosen_at found l j g h, e, precedes-both a (slot_at l j).recorded.operation, f)

  pub after_on : j < length found → j < length l → stands found j ≡ true → directly_precedes (slot_at l j).recorded.operation a ≡ false → after j ≡ after (j + 1)
  unfolding any
  after_on g h e f = rw (chosen_at found l j g h, e, precedes-both a (slot_at l j).recorded.operation, f)

  pub after-off : j < length found → j < length l → stands found j ≡ false → after j ≡ after (j + 1)
  after-off g h e = rw (chosen_at found l j g h, e)

  pub after-end : j ≡ length l → after j ≡ false
  unfolding any chosen
  after-end e = rw (e, drop-length l) (none (drop (length l) found))
    where
      none : (x : List ℕ) → some_after a (chosen x []) ≡ false
      none [] = refl
      none (f ∷ x) = refl
