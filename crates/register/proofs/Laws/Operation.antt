-- The register's operations: their numbers rise, what is chosen of them, and which of them wait.
use Rattle.std.specs.Prelude.{ℕ, suc, ◌+◌, ◌≤◌, ◌<◌, ◌≡◌, refl, Bool, true, false, cond, length}
use Rattle.std.proofs.Common.{arith, sym, ap, ◌∙◌, subst, ⊎_elim}
use mathlib.Core.List.Memᴰ
use mathlib.Core.List.{List, [], ◌∷◌, ◌++◌, map, Memᴰ}
use Rattle.record.specs.Operation.{Record}
use Rattle.log_rules.proofs.Laws.Order.{Rising, InOrder}
use Rattle.log_rules.proofs.Laws.Partition.{picked, picked-in}
use Rattle.register.specs.Register.{Acknowledged, is_waiting, chosen, recorded_of}
use Rattle.register.proofs.Laws.Fate.{Among}
use Rattle.register.proofs.Laws.Invariant.{NumberedFrom}
use Rattle.register.proofs.Laws.Send.{in-picked, there-picked}

-- operations numbered on rise from their first number on
numbers-above : (k : ℕ) (l : List Acknowledged) → NumberedFrom k l → (a : Acknowledged) → Among a l → k ≤ a.recorded.sequence
numbers-above k [] n a m = absurd (Memᴰ.not-nil m)
numbers-above k (b ∷ l) n a m =
    ⊎_elim (λ (e : a ≡ b). let z = ap (λ (x : Acknowledged). x.recorded.sequence) e in let y = n.0 in omega arith)
    (λ (t : Among a l). let h = numbers-above (k + 1) l n.1 a t in omega arith) (Memᴰ.cases_cons m)

pub numbers-rise : (k : ℕ) (l : List Acknowledged) → NumberedFrom k l → Rising (λ a. a.recorded.sequence) l
numbers-rise k [] n = tt
numbers-rise k (b ∷ l) n = ((λ a m. let h = numbers-above (k + 1) l n.1 a m in let y = n.0 in omega arith), numbers-rise (k + 1) l n.1)

pub numbers-below : (j : ℕ) (l : List Acknowledged) → NumberedFrom j l → (a : Acknowledged) → Among a l → a.recorded.sequence < j + length l
numbers-below j [] n a m = absurd (Memᴰ.not-nil m)
numbers-below j (b ∷ l) n a m =
    ⊎_elim (λ (e : a ≡ b). let z = ap (λ (c : Acknowledged). c.recorded.sequence) e in let y = n.0 in omega arith)
    (λ (t : Among a l). let z = numbers-below (j + 1) l n.1 a t in omega arith) (Memᴰ.cases_cons m)

-- a change that keeps the records keeps the numbers
pub numbers-map : (g : Acknowledged → Acknowledged) → ((a : Acknowledged) → recorded_of (g a) ≡ recorded_of a) → (k : ℕ) (l : List Acknowledged) → NumberedFrom k l → NumberedFrom k (map g l)
numbers-map g s k [] n = tt
numbers-map g s k (a ∷ l) n = (ap (λ (r : Record). r.sequence) (s a) ∙ n.0, numbers-map g s (k + 1) l n.1)

pub numbers-end : (k : ℕ) (l : List Acknowledged) (a : Acknowledged) → NumberedFrom k l → a.recorded.sequence ≡ k + length l → NumberedFrom k (l ++ (a ∷ []))
numbers-end k [] a n e = (omega arith, tt)
numbers-end k (b ∷ l) a n e = (n.0, numbers-end (k + 1) l a n.1 (omega arith))

pub map-record : (g : Acknowledged → Acknowledged) → ((a : Acknowledged) → recorded_of (g a) ≡ recorded_of a) → (l : List Acknowledged) → map recorded_of (map g l) ≡ map recorded_of l
map-record g s [] = refl
map-record g s (a ∷ l) = (λ i. s a i ∷ map-record g s l i)

pub length-map : (g : Acknowledged → Acknowledged) (l : List Acknowledged) → length (map g l) ≡ length l
length-map g [] = refl
length-map g (a ∷ l) = ap suc (length-map g l)

pub in_map : (h : Acknowledged → Acknowledged) (l : List Acknowledged) (a : Acknowledged) → Among a l → Among (h a) (map h l)
in_map h [] a m = absurd (Memᴰ.not-nil m)
in_map h (b ∷ l) a m = ⊎_elim (λ e. Memᴰ.head (ap h e)) (λ k. Memᴰ.tail (in_map h l a k)) (Memᴰ.cases_cons m)

pub record-in : (l : List Acknowledged) (a : Acknowledged) → Among a l → Memᴰ a.recorded (map recorded_of l)
record-in [] a m = absurd (Memᴰ.not-nil m)
record-in (b ∷ l) a m = ⊎_elim (λ e. Memᴰ.head (ap recorded_of e)) (λ t. Memᴰ.tail (record-in l a t)) (Memᴰ.cases_cons m)

pub from-records : (l : List Acknowledged) (q : Record) → Memᴰ q (map recorded_of l) → (a : Acknowledged) × Among a l × (q ≡ a.recorded)
from-records [] q m = absurd (Memᴰ.not-nil m)
from-records (a ∷ l) q m = ⊎_elim (λ e. (a, Memᴰ.head refl, e)) (λ k. let r = from-records l q k in (r.0, Memᴰ.tail r.1, r.2)) (Memᴰ.cases_cons m)

-- what is chosen are the records of what is picked
pub chosen-picked : (f : Acknowledged → Bool) (l : List Acknowledged) → chosen f l ≡ map recorded_of (picked f l)
unfolding chosen picked
chosen-picked f [] = refl
chosen-picked f (a ∷ l) = go (f a) (chosen-picked f l)
  where
    go : (t : Bool) → chosen f l ≡ map recorded_of (picked f l) → cond t (a.recorded ∷ chosen f l) (chosen f l) ≡ map recorded_of (cond t (a ∷ picked f l) (picked f l))
    go true e = ap (λ (x : List Record). a.recorded ∷ x) e
    go false e = e

-- an operation of the register that waits, with a record
pub record Waits (ops : List Acknowledged) (r : Record) : Type 0 where
  pub who : Acknowledged
  pub among : Among who ops
  pub recorded : who.recorded ≡ r
  pub waiting : is_waiting who ≡ true

-- a record among those of the waiting operations is some operation's
pub waits-of : (ops : List Acknowledged) (q : Record) → Memᴰ q (map recorded_of (picked is_waiting ops)) → Waits ops q
waits-of ops q m =
    let x = from-records (picked is_waiting ops) q m in
    record { who = x.0; among = picked-in is_waiting ops x.0 x.1; recorded = sym x.2; waiting = in-picked recorded_of is_waiting ops x.0 x.1 }

-- what is chosen of operations: the record of each that passes the test
pub chosen-there : (f : Acknowledged → Bool) (l : List Acknowledged) (a : Acknowledged) → Among a l → f a ≡ true → Memᴰ a.recorded (chosen f l)
chosen-there f l a m e = subst (λ (x : List Record). Memᴰ a.recorded x) (sym (chosen-picked f l)) (record-in (picked f l) a (there-picked recorded_of f l a m e))

-- and nothing else
pub chosen-in : (f : Acknowledged → Bool) (l : List Acknowledged) (q : Record) → Memᴰ q (chosen f l) → (a : Acknowledged) × Among a l × (f a ≡ true) × (a.recorded ≡ q)
chosen-in f l q m =
    let x = from-records (picked f l) q (subst (λ (y : List Record). Memᴰ q y) (chosen-picked f l) m) in
    (x.0, picked-in f l x.0 x.1, in-picked recorded_of f l x.0 x.1, sym x.2)

-- what is chosen of operations whose numbers rise is in issue order
pub chosen-rising : (f : Acknowledged → Bool) (l : List Acknowledged) → Rising (λ a. a.recorded.sequence) l → InOrder (chosen f l)
unfolding chosen
chosen-rising f [] r = tt
chosen-rising f (a ∷ l) r = go (f a) (chosen-rising f l r.1)
  where
    go : (t : Bool) → InOrder (chosen f l) → InOrder (cond t (a.recorded ∷ chosen f l) (chosen f l))
    go true ih = ((λ q m. let c = chosen-in f l q m in let lt = r.0 c.0 c.1 in let e = ap (λ (z : Record). z.sequence) c.3 in omega arith), ih)
    go false ih = ih
