-- Sends in issue order of waiting operations, with every waiting predecessor of a member: each may be sent in its turn, as far as they
-- apply.
use Rattle.std.specs.Prelude.{ℕ, zero, suc, ◌≤◌, ◌<◌, ◌≡◌, refl, Bool, true, false, cond, length, take}
use Rattle.std.proofs.Common.{arith, sym, ap, ◌∙◌, subst, ⊎_elim}
use mathlib.Core.List.Memᴰ
use mathlib.Core.List.{List, [], ◌∷◌, ◌++◌, Memᴰ, Sublistᴰ}
use Rattle.std.specs.Prelude.{Some}
use Rattle.record.specs.Operation.{Record}
use Rattle.volume_tree.specs.Volume.{Volume}
use Rattle.volume_apply.specs.Apply.{applies, apply}
use Rattle.log_rules.specs.Change.{waiting_of, waiting_at}
use Rattle.log_rules.proofs.Laws.Change.{waiting-at, sent-waiting, waiting-in-order}
use Rattle.log_rules.specs.Order.{any, closure, before, needed, direct}
use Rattle.log_rules.proofs.Laws.Order.{InOrder, any-in, before-earlier, has_operand, closure-sublist, closure-in, closure-chain}
use Rattle.session.specs.Call.{Geometry}
use Rattle.session.specs.Model.{Model}
use Rattle.session.specs.Effect.{send, perform, sends}
use Rattle.log_rules.specs.Sends.{applying}
use Rattle.session.proofs.Laws.Possible.{Sound, Sendable, AllPossible}
use Rattle.session.proofs.Laws.Effect.{send-is, perform-sound}

-- some of the waiting operations w, in issue order, with every one of them that stands directly before a member
pub record Ready (w l : List Record) : Type 0 where
  pub order : InOrder l
  pub wait : (q : Record) → Memᴰ q l → Memᴰ q w
  pub full : (q a : Record) → Memᴰ q l → Memᴰ a w → before a q ≡ true → Memᴰ a l

-- nothing that waits stands before the first
pub ready-free : (w l : List Record) (q : Record) → Ready w (q ∷ l) → any (λ a. before a q) w ≡ false
ready-free w l q d = go (any (λ a. before a q) w) refl
  where
    go : (t : Bool) → any (λ a. before a q) w ≡ t → any (λ a. before a q) w ≡ false
    go true e =
        let s = any-in (λ (a : Record). before a q) w e in
        let lt = before-earlier s.0 q s.2 in
        ⊎_elim (λ (z : s.0 ≡ q). let y = ap (λ (r : Record). r.sequence) z in absurd (omega arith)) (λ (z : Memᴰ s.0 l). let y = d.order.0 s.0 z in absurd (omega arith))
        (Memᴰ.cases_cons (d.full q s.0 (Memᴰ.head refl) s.1 s.2))
    go false e = e

-- of a list in issue order, the member of a number is one
pub order-apart : (u v : List Record) (q : Record) → InOrder (u ++ (q ∷ v)) → (a : Record) → Memᴰ a (u ++ v) → a.sequence ≡ q.sequence → ⊥
order-apart [] v q o a m e = let lt = o.0 a m in omega arith
order-apart (b ∷ u) v q o a m e =
    ⊎_elim (λ (z : a ≡ b). let lt = o.0 q (Memᴰ.append_right u (Memᴰ.head refl)) in let y = ap (λ (r : Record). r.sequence) z in omega arith)
    (λ (z : Memᴰ a (u ++ v)). order-apart u v q o.1 a z e) (Memᴰ.cases_cons m)

pub around : (u v : List Record) (q a : Record) → Memᴰ a (u ++ (q ∷ v)) → (a ≡ q → ⊥) → Memᴰ a (u ++ v)
around u v q a m n =
    ⊎_elim (λ (z : Memᴰ a u). Memᴰ.append_left v z)
    (λ (z : Memᴰ a (q ∷ v)). ⊎_elim (λ (y : a ≡ q). absurd (n y)) (λ (y : Memᴰ a v). Memᴰ.append_right u y) (Memᴰ.cases_cons z)) (Memᴰ.append_cases u m)

within : (u v : List Record) (q a : Record) → Memᴰ a (u ++ v) → Memᴰ a (u ++ (q ∷ v))
within u v q a m =
    ⊎_elim (λ (z : Memᴰ a u). Memᴰ.append_left (q ∷ v) z) (λ (z : Memᴰ a v). Memᴰ.append_right u (Memᴰ.tail z)) (Memᴰ.append_cases u m)

-- after the first is sent, the others are ready
pub ready-next : (u v l : List Record) (q : Record) → InOrder (u ++ (q ∷ v)) → Ready (u ++ (q ∷ v)) (q ∷ l) → Ready (u ++ v) l
ready-next u v l q o d =
    record {
      order = d.order.1;
      wait = λ r m.
          let lt = d.order.0 r m in
          around u v q r (d.wait r (Memᴰ.tail m)) (λ e. let y = ap (λ (z : Record). z.sequence) e in omega arith);
      full = λ r a m n e.
          ⊎_elim (λ (z : a ≡ q). absurd (order-apart u v q o a n (ap (λ (y : Record). y.sequence) z))) (λ (z : Memᴰ a l). z)
          (Memᴰ.cases_cons (d.full r a (Memᴰ.tail m) (within u v q a n) e));
    }

pub in_take : (k : ℕ) (l : List Record) (r : Record) → Memᴰ r (take k l) → Memᴰ r l
in_take zero l r m = absurd (Memᴰ.not-nil m)
in_take (suc k) [] r m = absurd (Memᴰ.not-nil m)
in_take (suc k) (a ∷ l) r m = ⊎_elim (λ e. Memᴰ.head e) (λ t. Memᴰ.tail (in_take k l r t)) (Memᴰ.cases_cons m)

take-order : (k : ℕ) (l : List Record) → InOrder l → InOrder (take k l)
take-order zero l o = tt
take-order (suc k) [] o = tt
take-order (suc k) (r ∷ l) o = ((λ q m. o.0 q (in_take k l q m)), take-order k l o.1)

-- of a list in issue order, who is earlier than one of the first few is among them
take-before : (k : ℕ) (l : List Record) → InOrder l → (r w : Record) → Memᴰ r (take k l) → Memᴰ w l → w.sequence < r.sequence → Memᴰ w (take k l)
take-before zero l o r w m n lt = absurd (Memᴰ.not-nil m)
take-before (suc k) [] o r w m n lt = absurd (Memᴰ.not-nil m)
take-before (suc k) (q ∷ l) o r w m n lt =
    ⊎_elim (λ (e : w ≡ q). Memᴰ.head e)
    (λ (nl : Memᴰ w l).
    ⊎_elim (λ (e : r ≡ q). let z = ap (λ (x : Record). x.sequence) e in let y = o.0 w nl in absurd (omega arith))
    (λ (ml : Memᴰ r (take k l)). Memᴰ.tail (take-before k l o.1 r w ml nl lt)) (Memᴰ.cases_cons m))
    (Memᴰ.cases_cons n)

-- the first few of what is ready are ready
pub ready-take : (w l : List Record) (k : ℕ) → Ready w l → Ready w (take k l)
ready-take w l k d =
    record {
      order = take-order k l d.order;
      wait = λ q m. d.wait q (in_take k l q m);
      full = λ q a m n e. take-before k l d.order q a m (d.full q a (in_take k l q m) n e) (before-earlier a q e);
    }

sub_in : {k l : List Record} → Sublistᴰ k l → (r : Record) → Memᴰ r k → Memᴰ r l
sub_in Sublistᴰ.slnil r m = absurd (Memᴰ.not-nil m)
sub_in (Sublistᴰ.cons s) r m = Memᴰ.tail (sub_in s r m)
sub_in (Sublistᴰ.cons-cons e s) r m = ⊎_elim (λ z. Memᴰ.head (z ∙ e)) (λ t. Memᴰ.tail (sub_in s r t)) (Memᴰ.cases_cons m)

sub_order : {k l : List Record} → Sublistᴰ k l → InOrder l → InOrder k
sub_order Sublistᴰ.slnil o = tt
sub_order (Sublistᴰ.cons s) o = sub_order s o.1
sub_order (Sublistᴰ.cons-cons e s) o = ((λ q m. subst (λ (x : Record). x.sequence < q.sequence) (sym e) (o.0 q (sub_in s q m))), sub_order s o.1)

-- what a test picks, with its predecessors, is ready
pub closure-ready : (pick : Record → Bool) (w : List Record) → InOrder w → Ready w (closure pick before w)
closure-ready pick w i =
    record {
      order = sub_order (closure-sublist pick before w) i;
      wait = λ q m. closure-in pick before w m;
      full = λ q a m n e. closure-chain pick w i n m (direct e);
    }

-- what fsync needs is ready
pub needed-ready : (w : List Record) (o : ℕ) → InOrder w → Ready w (needed o w)
unfolding needed
needed-ready w o i = closure-ready (has_operand o) w i

-- how many apply: at most all, and of the first few as many as of all
pub applying-most : (l : List Record) (v : Volume) → applying l v ≤ length l
unfolding applying
applying-most [] v = omega arith
applying-most (r ∷ l) v = go (applies v r.operation) (applying-most l (apply v r.operation))
  where
    go : (t : Bool) → applying l (apply v r.operation) ≤ length l → cond t (suc (applying l (apply v r.operation))) 0 ≤ suc (length l)
    go true h = omega arith
    go false h = omega arith

pub applying-take : (k : ℕ) (l : List Record) (v : Volume) → applying (take k l) v ≤ applying l v
unfolding applying
applying-take zero l v = omega arith
applying-take (suc k) [] v = omega arith
applying-take (suc k) (r ∷ l) v = go (applies v r.operation) (applying-take k l (apply v r.operation))
  where
    go : (t : Bool) → applying (take k l) (apply v r.operation) ≤ applying l (apply v r.operation)
        → cond t (suc (applying (take k l) (apply v r.operation))) 0 ≤ cond t (suc (applying l (apply v r.operation))) 0
    go true h = omega arith
    go false h = omega arith

pub applying-first : (k : ℕ) (l : List Record) (v : Volume) → k ≤ applying l v → length (take k l) ≤ applying (take k l) v
unfolding applying
applying-first zero l v h = omega arith
applying-first (suc k) [] v h = omega arith
applying-first (suc k) (r ∷ l) v h = go (applies v r.operation) h (applying-first k l (apply v r.operation))
  where
    go : (t : Bool) → suc k ≤ cond t (suc (applying l (apply v r.operation))) 0 → (k ≤ applying l (apply v r.operation) → length (take k l) ≤ applying (take k l) (apply v r.operation))
        → suc (length (take k l)) ≤ cond t (suc (applying (take k l) (apply v r.operation))) 0
    go true m f = let y = f (omega arith) in omega arith
    go false m f = absurd (omega arith)

-- where all of a list apply, the first does, and then the others
applying-on : (r : Record) (l : List Record) (v : Volume) → length (r ∷ l) ≤ applying (r ∷ l) v → (applies v r.operation ≡ true) × (length l ≤ applying l (apply v r.operation))
unfolding applying
applying-on r l v h = go (applies v r.operation) refl h
  where
    go : (t : Bool) → applies v r.operation ≡ t → suc (length l) ≤ cond t (suc (applying l (apply v r.operation))) 0
        → (applies v r.operation ≡ true) × (length l ≤ applying l (apply v r.operation))
    go true e m = (e, omega arith)
    go false e m = absurd (omega arith)

module _ (g : Geometry) where
  -- what the send of the first of a list that is ready leaves
  pub record Sent (x : Model) (q : Record) (l : List Record) : Type 0 where
    pub found : waiting_at q.sequence x.log ≡ Some q
    pub free : any (λ a. before a q) (waiting_of x.log.slots) ≡ false
    pub server : (perform (send q.sequence) x).server ≡ apply x.server q.operation
    pub ready : Ready (waiting_of (perform (send q.sequence) x).log.slots) l

  pub first-sent : (x : Model) (q : Record) (l : List Record) → Sound g x → Ready (waiting_of x.log.slots) (q ∷ l) → Sent x q l
  first-sent x q l s d =
      let w = waiting_of x.log.slots in
      let at = waiting-at g.objects g.blocks g.capacity x.log s.log (d.wait q (Memᴰ.head refl)) in
      let cut = sent-waiting q.sequence x.log q at in
      let is = send-is q.sequence x q at in
      let order : InOrder (cut.0 ++ (q ∷ cut.1)) = subst InOrder cut.2 (waiting-in-order g.objects g.blocks g.capacity x.log s.log) in
      let next : Ready (cut.0 ++ cut.1) l = ready-next cut.0 cut.1 l q order (subst (λ (z : List Record). Ready z (q ∷ l)) cut.2 d) in
      record {
        found = at;
        free = ready-free w l q d;
        server = ap (λ (y : Model). y.server) is;
        ready = subst (λ (z : List Record). Ready z l) (sym (ap (λ (y : Model). waiting_of y.log.slots) is ∙ cut.3)) next;
      }

  pub sends-possible : (l : List Record) (x : Model) → Sound g x → Ready (waiting_of x.log.slots) l → length l ≤ applying l x.server → AllPossible g x (sends l)
  sends-possible [] x s d h = tt
  sends-possible (q ∷ l) x s d h =
      let a = applying-on q l x.server h in
      let f = first-sent x q l s d in
      let can : Sendable x q.sequence q = record { found = f.found; fit = a.0; free = f.free } in
      ((q, can), sends-possible l (perform (send q.sequence) x) (perform-sound g x (send q.sequence) s (q, can)) f.ready (subst (λ (v : Volume). length l ≤ applying l v) (sym f.server) a.1))
