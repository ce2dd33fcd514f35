-- The losses of one program that a log keeps, in order, and what each change of the log leaves of them.
use Rattle.std.specs.Prelude.{ℕ, ◌≡◌, refl, Bool, true, false, not, ◌&&◌, cond, eqb}
use Rattle.std.proofs.Common.{arith, sym, ap, ◌∙◌, eqb-true, ne_eqb}
use mathlib.Core.List.{List, [], ◌∷◌, ◌++◌, map, Memᴰ, append-nil}
use Rattle.std.proofs.Math.Bool.{and-eq-true_iff}
use Rattle.std.specs.Prelude.{Some}
use Rattle.record.specs.Operation.{Operation, Record, operands}
use Rattle.log_rules.specs.Programs.{with}
use Rattle.log_rules.specs.Slot.{state_number, Slot, with_dependents, Log, is_waiting, sequence_of}
use Rattle.log_rules.specs.Order.{shares}
use Rattle.log_rules.specs.Depend.{reach, noted}
use Rattle.log_rules.specs.Change.{waiting_of, waiting_slot, issue, removed, is_sequence, discarded, is_loss_of, earliest, losses_of}
use Rattle.log_rules.proofs.Laws.Change.{Ordered, discarded-lost}
use Rattle.log_rules.proofs.Laws.Partition.{picked}

-- a record is of a program
abbrev pub is_of : ℕ → Record → Bool
is_of p r = eqb r.program p

-- an accepted call brings dependence only
pub noted-lost : (p q : ℕ) (ops : List ℕ) (l : List Slot) → losses_of p (noted q ops l) ≡ losses_of p l
unfolding losses_of noted
noted-lost p q ops [] = refl
noted-lost p q ops (s ∷ l) = go (is_waiting s && shares (operands s.recorded.operation) (reach ops l)) (noted-lost p q ops l)
  where
    go : (t : Bool) → losses_of p (noted q ops l) ≡ losses_of p l
        → losses_of p (cond t (with_dependents (with s.dependents q) s) s ∷ noted q ops l) ≡ losses_of p (s ∷ l)
    go true e = ap (λ (x : List Record). cond (is_loss_of p s) (s.recorded ∷ x) x) e
    go false e = ap (λ (x : List Record). cond (is_loss_of p s) (s.recorded ∷ x) x) e

pub append-lost : (p : ℕ) (u v : List Slot) → losses_of p (u ++ v) ≡ losses_of p u ++ losses_of p v
unfolding losses_of
append-lost p [] v = refl
append-lost p (s ∷ u) v = go (is_loss_of p s) (append-lost p u v)
  where
    go : (t : Bool) → losses_of p (u ++ v) ≡ losses_of p u ++ losses_of p v → cond t (s.recorded ∷ losses_of p (u ++ v)) (losses_of p (u ++ v)) ≡ cond t (s.recorded ∷ losses_of p u) (losses_of p u) ++ losses_of p v
    go true e = ap (λ (x : List Record). s.recorded ∷ x) e
    go false e = e

-- what is issued waits
pub issue-lost : (p q : ℕ) (o : Operation) (l : Log) → losses_of p (issue q o l).slots ≡ losses_of p l.slots
unfolding issue losses_of
issue-lost p q o l = append-lost p l.slots (waiting_slot (record { sequence = l.head.next; program = q; operation = o }) ∷ []) ∙ append-nil (losses_of p l.slots)

waits-no-loss : (p : ℕ) (s : Slot) → is_waiting s ≡ true → is_loss_of p s ≡ false
waits-no-loss p s e = ap (λ (b : Bool). not b && eqb s.recorded.program p) e

-- a send frees a waiting slot
pub sent-lost : (p n : ℕ) (l : List Slot) → losses_of p (removed (is_sequence n) l) ≡ losses_of p l
unfolding removed losses_of
sent-lost p n [] = refl
sent-lost p n (s ∷ l) = go (is_sequence n s) refl (sent-lost p n l)
  where
    go : (t : Bool) → is_sequence n s ≡ t → losses_of p (removed (is_sequence n) l) ≡ losses_of p l → losses_of p (cond t l (s ∷ removed (is_sequence n) l)) ≡ losses_of p (s ∷ l)
    go true e ih = sym (ap (λ (b : Bool). cond b (s.recorded ∷ losses_of p l) (losses_of p l)) (waits-no-loss p s ((and-eq-true_iff (is_waiting s) (eqb (sequence_of s) n)).0 e).0))
    go false e ih = ap (λ (x : List Record). cond (is_loss_of p s) (s.recorded ∷ x) x) ih

-- "Take writes the earliest loss of a program and frees its slot": the first of its losses
pub taken_own : (p : ℕ) (l : List Slot) (r : Record) → earliest (is_loss_of p) l ≡ Some r → losses_of p l ≡ r ∷ losses_of p (removed (is_loss_of p) l)
unfolding earliest removed losses_of
taken_own p [] r e = let z : ◌≡◌ {A = ℕ} 0 1 = cc in absurd (omega arith)
taken_own p (s ∷ l) r e = go (is_loss_of p s) refl e (taken_own p l r)
  where
    go : (t : Bool) → is_loss_of p s ≡ t → cond t (Some s.recorded) (earliest (is_loss_of p) l) ≡ Some r
        → (earliest (is_loss_of p) l ≡ Some r → losses_of p l ≡ r ∷ losses_of p (removed (is_loss_of p) l))
        → cond t (s.recorded ∷ losses_of p l) (losses_of p l) ≡ r ∷ losses_of p (cond t l (s ∷ removed (is_loss_of p) l))
    go true h k down = let z : s.recorded ≡ r = cc in ap (λ (x : Record). x ∷ losses_of p l) z
    go false h k down = down k ∙ ap (λ (x : List Record). r ∷ x) (sym (ap (λ (b : Bool). cond b (s.recorded ∷ losses_of p (removed (is_loss_of p) l)) (losses_of p (removed (is_loss_of p) l))) h))

-- and no other program's
pub taken-other : (p q : ℕ) → (p ≡ q → ⊥) → (l : List Slot) → losses_of q (removed (is_loss_of p) l) ≡ losses_of q l
unfolding removed losses_of
taken-other p q ne [] = refl
taken-other p q ne (s ∷ l) = go (is_loss_of p s) refl (taken-other p q ne l)
  where
    go : (t : Bool) → is_loss_of p s ≡ t → losses_of q (removed (is_loss_of p) l) ≡ losses_of q l → losses_of q (cond t l (s ∷ removed (is_loss_of p) l)) ≡ losses_of q (s ∷ l)
    go true e ih =
        let is = eqb-true s.recorded.program p ((and-eq-true_iff (not (is_waiting s)) (eqb s.recorded.program p)).0 e).1 in
        let no : is_loss_of q s ≡ false = ap (λ (b : Bool). not (is_waiting s) && b) (ne_eqb s.recorded.program q (λ z. ne (sym is ∙ z))) ∙ neither (not (is_waiting s)) in
        sym (ap (λ (b : Bool). cond b (s.recorded ∷ losses_of q l) (losses_of q l)) no)
      where
        neither : (b : Bool) → (b && false) ≡ false
        neither true = refl
        neither false = refl
    go false e ih = ap (λ (x : List Record). cond (is_loss_of q s) (s.recorded ∷ x) x) ih

-- where all wait, none is lost
all-wait : (p : ℕ) (l : List Slot) → ((t : Slot) → Memᴰ t l → is_waiting t ≡ true) → losses_of p l ≡ []
unfolding losses_of
all-wait p [] h = refl
all-wait p (s ∷ l) h = ap (λ (b : Bool). cond b (s.recorded ∷ losses_of p l) (losses_of p l)) (waits-no-loss p s (h s (Memᴰ.head refl))) ∙ all-wait p l (λ t m. h t (Memᴰ.tail m))

discarded-loss : (p : ℕ) (s : Slot) → is_loss_of p (discarded s) ≡ is_of p s.recorded
discarded-loss p s = λ i. not (eqb (state_number ((discarded-lost s).0 i)) 1) && eqb ((discarded-lost s).1 i).program p

-- a cut puts a program's waiting operations behind its losses
pub discard-lost : (p next : ℕ) (l : List Slot) → Ordered next l → losses_of p (map discarded l) ≡ losses_of p l ++ picked (is_of p) (waiting_of l)
unfolding losses_of waiting_of picked
discard-lost p next [] o = refl
discard-lost p next (s ∷ l) o = head ∙ go (is_waiting s) refl (discard-lost p next l o.2)
  where
    head : cond (is_loss_of p (discarded s)) ((discarded s).recorded ∷ losses_of p (map discarded l)) (losses_of p (map discarded l)) ≡ cond (is_of p s.recorded) (s.recorded ∷ losses_of p (map discarded l)) (losses_of p (map discarded l))
    head = λ i. cond (discarded-loss p s i) ((discarded-lost s).1 i ∷ losses_of p (map discarded l)) (losses_of p (map discarded l))

    go : (t : Bool) → is_waiting s ≡ t → losses_of p (map discarded l) ≡ losses_of p l ++ picked (is_of p) (waiting_of l)
        → cond (is_of p s.recorded) (s.recorded ∷ losses_of p (map discarded l)) (losses_of p (map discarded l))
        ≡ cond (not t && is_of p s.recorded) (s.recorded ∷ losses_of p l) (losses_of p l) ++ picked (is_of p) (cond t (s.recorded ∷ waiting_of l) (waiting_of l))
    go true e ih =
        let none = all-wait p l (λ t m. (o.1 t m).1 e) in
        ap (λ (x : List Record). cond (is_of p s.recorded) (s.recorded ∷ x) x) (ih ∙ ap (λ (x : List Record). x ++ picked (is_of p) (waiting_of l)) none)
        ∙ sym (ap (λ (x : List Record). x ++ cond (is_of p s.recorded) (s.recorded ∷ picked (is_of p) (waiting_of l)) (picked (is_of p) (waiting_of l))) none)
    go false e ih = both (is_of p s.recorded)
      where
        both : (b : Bool) → cond b (s.recorded ∷ losses_of p (map discarded l)) (losses_of p (map discarded l)) ≡ cond b (s.recorded ∷ losses_of p l) (losses_of p l) ++ picked (is_of p) (waiting_of l)
        both true = ap (λ (x : List Record). s.recorded ∷ x) ih
        both false = ih
