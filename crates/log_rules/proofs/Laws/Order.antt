-- What Order.antt says: closures have exactly what is picked and what precedes it, so do the operations that fsync needs; and the
-- direct test decides whether a predecessor waits.
use Rattle.std.specs.Prelude.{ℕ, ◌<◌, ◌≡◌, refl, ◌↔◌, ◌⊎◌, Bool, false, ◌||◌, cond, length, ltb}
use native.Mathlib.Omega.{arith}
use Rattle.std.proofs.Math.Path.{sym, ap, subst}
use Rattle.std.proofs.Common.{◌∙◌, ltb-true, lt-ltb}
use Rattle.std.proofs.Math.Logic.{inl, inr, ⊎_elim}
use Rattle.std.proofs.Math.Bool.{true, and-eq-true_iff}
use Rattle.std.proofs.lemmas.Bool.{false≢true}
use mathlib.Core.List.Memᴰ
use mathlib.Core.List.{List, [], ◌∷◌, Memᴰ, Sublistᴰ}
use Rattle.buffer.specs.Laws.Test.{or_cases, or_left, or_right}
use Rattle.record.specs.Operation.{Record, operands}
use Rattle.record.specs.Fields.{member}
use Rattle.log_rules.specs.Order.{directly_precedes, any, closure, before, needed, predecessors, preceded, PrecedesIn, direct, through}

-- if a member passes a test, some member does
pub in-any : {A : Type 0} (f : A → Bool) (l : List A) {a : A} → Memᴰ a l → f a ≡ true → any f l ≡ true
unfolding any
in-any f [] m h = elim m [ ]
in-any f (x ∷ l) (Memᴰ.head e) h = or_left (f x) (any f l) (ap f (sym e) ∙ h)
in-any f (x ∷ l) (Memᴰ.tail m) h = or_right (f x) (any f l) (in-any f l m h)

-- if some member passes a test, here is one
pub any-in : {A : Type 0} (f : A → Bool) (l : List A) → any f l ≡ true → (a : A) × Memᴰ a l × (f a ≡ true)
unfolding any
any-in f [] e = absurd (false≢true e)
any-in {A} f (x ∷ l) e =
    ⊎_elim (λ (h : f x ≡ true). (x, Memᴰ.head refl, h))
    (λ (h : any f l ≡ true). let r = any-in f l h in (r.0, Memᴰ.tail r.1, r.2)) (or_cases (f x) (any f l) e)

-- if no member passes a test, each fails it
pub any_none : {A : Type 0} (f : A → Bool) (l : List A) → any f l ≡ false → (a : A) → Memᴰ a l → f a ≡ false
any_none f l e a m = go (f a) refl
  where
    go : (t : Bool) → f a ≡ t → t ≡ false
    go true h = absurd (false≢true (sym e ∙ in-any f l m h))
    go false h = refl

-- what one record's standing directly before another goes by
pub before-earlier : (a b : Record) → before a b ≡ true → a.sequence < b.sequence
before-earlier a b h = ltb-true a.sequence b.sequence ((and-eq-true_iff (ltb a.sequence b.sequence) (directly_precedes a.operation b.operation)).0 h).0

pub before-ordered : (a b : Record) → before a b ≡ true → directly_precedes a.operation b.operation ≡ true
before-ordered a b h = ((and-eq-true_iff (ltb a.sequence b.sequence) (directly_precedes a.operation b.operation)).0 h).1

pub before_of : (a b : Record) → a.sequence < b.sequence → directly_precedes a.operation b.operation ≡ true → before a b ≡ true
before_of a b lt h = (and-eq-true_iff (ltb a.sequence b.sequence) (directly_precedes a.operation b.operation)).1 (lt-ltb a.sequence b.sequence lt, h)

-- an operation that precedes another has the smaller sequence number
pub precedes-earlier : {l : List Record} {a b : Record} → PrecedesIn l a b → a.sequence < b.sequence
precedes-earlier (direct {a = a} {b = b} h) = before-earlier a b h
precedes-earlier (through k p q) = let g = precedes-earlier p in let h = precedes-earlier q in omega arith

-- a chain within a list is one within a longer list
pub precedes-more : {l : List Record} (x : Record) {a b : Record} → PrecedesIn l a b → PrecedesIn (x ∷ l) a b
precedes-more x (direct h) = direct h
precedes-more x (through k p q) = through (Memᴰ.tail k) (precedes-more x p) (precedes-more x q)

-- the numbers of a list's members rise
abbrev pub Rising : {A : Type 0} → (A → ℕ) → List A → Type 0
Rising key [] = Unit {0}
Rising {A} key (a ∷ l) = ((b : A) → Memᴰ b l → key a < key b) × Rising key l

module _ {A : Type 0} where
  kept : (x : A) {a : A} {c : List A} (t : Bool) → Memᴰ a c → Memᴰ a (cond t (x ∷ c) c)
  kept x true m = Memᴰ.tail m
  kept x false m = m

  added : {x a : A} (c : List A) (t : Bool) → t ≡ true → a ≡ x → Memᴰ a (cond t (x ∷ c) c)
  added c true h e = Memᴰ.head e
  added c false h e = absurd (false≢true h)

  parted : {x a : A} {c : List A} (t : Bool) → Memᴰ a (cond t (x ∷ c) c) → ((a ≡ x) × (t ≡ true)) ⊎ Memᴰ a c
  parted {x} {a} {c} true m = ⊎_elim (λ (e : a ≡ x). inl (e, refl)) (λ (k : Memᴰ a c). inr k) (Memᴰ.cases_cons m)
  parted false m = inr m

  sublisted : {x : A} {c l : List A} (t : Bool) → Sublistᴰ c l → Sublistᴰ (cond t (x ∷ c) c) (x ∷ l)
  sublisted true s = Sublistᴰ.cons-cons refl s
  sublisted false s = Sublistᴰ.cons s

module _ {A : Type 0} (pick : A → Bool) (before : A → A → Bool) where
  module _ (key : A → ℕ) where
    -- with one member, the closure has each earlier member of the list that stands directly before it
    pub closure-closed : (l : List A) → Rising key l → {a b : A} → Memᴰ b (closure pick before l) → Memᴰ a l → key a < key b → before a b ≡ true
        → Memᴰ a (closure pick before l)
    unfolding closure
    closure-closed [] r n m s h = elim n [ ]
    closure-closed (x ∷ l) r {a} {b} n (Memᴰ.head e) s h =
        let c = closure pick before l in
        ⊎_elim (λ (g : (b ≡ x) × ((pick x || any (before x) c) ≡ true)). let z : key a ≡ key b = ap key (e ∙ sym g.0) in absurd (omega arith))
        (λ (k : Memᴰ b c). let t : any (before x) c ≡ true = in-any (before x) c k (ap (λ (y : A). before y b) (sym e) ∙ h) in
        added c (pick x || any (before x) c) (or_right (pick x) (any (before x) c) t) e)
        (parted (pick x || any (before x) c) n)
    closure-closed (x ∷ l) r {a} {b} n (Memᴰ.tail m) s h =
        let c = closure pick before l in
        ⊎_elim (λ (g : (b ≡ x) × ((pick x || any (before x) c) ≡ true)). let y : key x < key a = r.0 a m in let z : key b ≡ key x = ap key g.0 in absurd (omega arith))
        (λ (k : Memᴰ b c). kept x (pick x || any (before x) c) (closure-closed l r.1 k m s h))
        (parted (pick x || any (before x) c) n)

  -- a closure is a part of the list, in the list's order
  pub closure-sublist : (l : List A) → Sublistᴰ (closure pick before l) l
  unfolding closure
  closure-sublist [] = Sublistᴰ.slnil
  closure-sublist (x ∷ l) = sublisted (pick x || any (before x) (closure pick before l)) (closure-sublist l)

  -- each member of a closure is one of the list
  pub closure-in : (l : List A) {a : A} → Memᴰ a (closure pick before l) → Memᴰ a l
  unfolding closure
  closure-in [] m = m
  closure-in (x ∷ l) {a} m =
      ⊎_elim (λ (h : (a ≡ x) × ((pick x || any (before x) (closure pick before l)) ≡ true)). Memᴰ.head h.0)
      (λ (k : Memᴰ a (closure pick before l)). Memᴰ.tail (closure-in l k)) (parted (pick x || any (before x) (closure pick before l)) m)

  -- each member of the list that the test picks is in the closure
  pub closure-picked : (l : List A) {a : A} → Memᴰ a l → pick a ≡ true → Memᴰ a (closure pick before l)
  unfolding closure
  closure-picked [] m h = elim m [ ]
  closure-picked (x ∷ l) (Memᴰ.head e) h =
      added (closure pick before l) (pick x || any (before x) (closure pick before l)) (or_left (pick x) (any (before x) (closure pick before l)) (ap pick (sym e) ∙ h)) e
  closure-picked (x ∷ l) (Memᴰ.tail m) h = kept x (pick x || any (before x) (closure pick before l)) (closure-picked l m h)

  module _ (key : A → ℕ) where
    -- each member of the closure is picked or stands directly before a later member
    pub closure-why : (l : List A) → Rising key l → {a : A} → Memᴰ a (closure pick before l)
        → (pick a ≡ true) ⊎ ((b : A) × Memᴰ b (closure pick before l) × (key a < key b) × (before a b ≡ true))
    unfolding closure
    closure-why [] r m = absurd (Memᴰ.not-nil m)
    closure-why (x ∷ l) r {a} m =
        let c = closure pick before l in
        let t = pick x || any (before x) c in
        ⊎_elim (λ (g : (a ≡ x) × (t ≡ true)). ⊎_elim (λ (h : pick x ≡ true). inl (ap pick g.0 ∙ h))
        (λ (h : any (before x) c ≡ true). let w = any-in (before x) c h in
        let y : key x < key w.0 = r.0 w.0 (closure-in l w.1) in
        let z : key a ≡ key x = ap key g.0 in
        inr (w.0, kept x t w.1, omega arith, ap (λ (y : A). before y w.0) g.0 ∙ w.2))
        (or_cases (pick x) (any (before x) c) g.1))
        (λ (k : Memᴰ a c). ⊎_elim (λ (h : pick a ≡ true). inl h)
        (λ (w : (b : A) × Memᴰ b c × (key a < key b) × (before a b ≡ true)). inr (w.0, kept x t w.1, w.2, w.3))
        (closure-why l r.1 k))
        (parted t m)

-- sequence numbers rise, as in a log
abbrev pub InOrder : List Record → Type 0
InOrder l = Rising (λ (r : Record). r.sequence) l

module _ (pick : Record → Bool) where
  -- why an operation is in a closure: it is picked, or it precedes one that is
  abbrev pub Reason : List Record → Record → Type 0
  Reason l a = (pick a ≡ true) ⊎ ((b : Record) × Memᴰ b l × (pick b ≡ true) × PrecedesIn l a b)

  reason-more : (l : List Record) (x a : Record) → Reason l a → Reason (x ∷ l) a
  reason-more l x a (inl h) = inl h
  reason-more l x a (inr w) = inr (w.0, Memᴰ.tail w.1, w.2, precedes-more x w.3)

  reason-before : (l : List Record) (a c : Record) → Memᴰ c l → PrecedesIn l a c → Reason l c → Reason l a
  reason-before l a c m p (inl h) = inr (c, m, h, p)
  reason-before l a c m p (inr w) = inr (w.0, w.1, w.2, through m p w.3)

  pub closure-reason : (l : List Record) {a : Record} → Memᴰ a (closure pick before l) → Reason l a
  unfolding closure
  closure-reason [] m = absurd (Memᴰ.not-nil m)
  closure-reason (x ∷ l) {a} m =
      let c = closure pick before l in
      let t = pick x || any (before x) c in
      ⊎_elim (λ (g : (a ≡ x) × (t ≡ true)).
      subst (Reason (x ∷ l)) (sym g.0)
      (⊎_elim (λ (h : pick x ≡ true). inl h)
      (λ (h : any (before x) c ≡ true). let w = any-in (before x) c h in
      reason-before (x ∷ l) x w.0 (Memᴰ.tail (closure-in pick before l w.1)) (direct w.2) (reason-more l x w.0 (closure-reason l w.1)))
      (or_cases (pick x) (any (before x) c) g.1)))
      (λ (k : Memᴰ a c). reason-more l x a (closure-reason l k))
      (parted t m)

  -- of a list in issue order, each operation that precedes one of a closure is in it
  pub closure-chain : (l : List Record) → InOrder l → {a b : Record} → Memᴰ a l → Memᴰ b (closure pick before l) → PrecedesIn l a b
      → Memᴰ a (closure pick before l)
  closure-chain l r {a} {b} m n (direct h) = closure-closed pick before (λ (y : Record). y.sequence) l r n m (before-earlier a b h) h
  closure-chain l r m n (through k p q) = closure-chain l r m (closure-chain l r k n q) p

  -- a closure has exactly what is picked and what precedes it
  pub closure-exact : (l : List Record) → InOrder l → (a : Record) → Memᴰ a (closure pick before l) ↔ (Memᴰ a l × Reason l a)
  closure-exact l r a = (
    λ m. (closure-in pick before l m, closure-reason l m),
    λ h. ⊎_elim (λ (g : pick a ≡ true). closure-picked pick before l h.0 g)
        (λ (w : (b : Record) × Memᴰ b l × (pick b ≡ true) × PrecedesIn l a b). closure-chain l r h.0 (closure-picked pick before l w.1 w.2) w.3) h.1,
  )

-- whether a record's operation has an object as operand
abbrev pub has_operand : ℕ → Record → Bool
has_operand o r = member o (operands r.operation)

-- each waiting operation that precedes a needed one is needed
pub needed-closed : (o : ℕ) (l : List Record) → InOrder l → {a b : Record} → Memᴰ a l → Memᴰ b (needed o l) → PrecedesIn l a b → Memᴰ a (needed o l)
unfolding needed
needed-closed o l r m n p = closure-chain (has_operand o) l r m n p

-- "all waiting operations with that object as operand and their predecessors": exactly those are needed
pub needed-exact : (o : ℕ) (l : List Record) → InOrder l → (a : Record) → Memᴰ a (needed o l) ↔ (Memᴰ a l × Reason (has_operand o) l a)
unfolding needed
needed-exact o l r a = closure-exact (has_operand o) l r a

reason-precedes : (l : List Record) (b a : Record) → Reason (λ c. before c b) l a → PrecedesIn l a b
reason-precedes l b a (inl h) = direct h
reason-precedes l b a (inr w) = through w.1 w.3 (direct w.2)

precedes-reason : (l : List Record) (b : Record) {a : Record} → PrecedesIn l a b → Reason (λ c. before c b) l a
precedes-reason l b (direct h) = inl h
precedes-reason l b {a} (through {c = c} k p q) = reason-before (λ d. before d b) l a c k p (precedes-reason l b q)

-- "An operation precedes another also through a third and further ones": the predecessors are exactly those of the list that precede
pub predecessors-exact : (l : List Record) (b : Record) → InOrder l → (a : Record) → Memᴰ a (predecessors l b) ↔ (Memᴰ a l × PrecedesIn l a b)
unfolding predecessors
predecessors-exact l b r a =
    let e = closure-exact (λ c. before c b) l r a in
    ((λ m. ((e.0 m).0, reason-precedes l b a (e.0 m).1)), λ w. e.1 (w.0, precedes-reason l b w.1))

-- the direct test decides whether a predecessor waits: whoever precedes through others does so through one that precedes directly
pub direct-decides : (l : List Record) (b : Record) → preceded l b ≡ any (λ a. before a b) l
unfolding preceded predecessors
direct-decides l b = go (predecessors l b) refl (any (λ a. before a b) l) refl
  where
    go : (k : List Record) → closure (λ a. before a b) before l ≡ k → (t : Bool) → any (λ a. before a b) l ≡ t → ltb 0 (length k) ≡ t
    go [] e true h =
        let w = any-in (λ (a : Record). before a b) l h in
        absurd (Memᴰ.not-nil (subst (λ (z : List Record). Memᴰ w.0 z) e (closure-picked (λ a. before a b) before l w.1 w.2)))
    go [] e false h = refl
    go (a ∷ k) e true h = lt-ltb 0 (length (a ∷ k)) (omega arith)
    go (a ∷ k) e false h =
        let r = closure-reason (λ c. before c b) l (subst (λ (z : List Record). Memᴰ a z) (sym e) (Memᴰ.head refl)) in
        absurd (false≢true (sym h ∙
        ⊎_elim (λ (g : before a b ≡ true). in-any (λ c. before c b) l (closure-in (λ c. before c b) before l (subst (λ (z : List Record). Memᴰ a z) (sym e) (Memᴰ.head refl))) g)
        (λ (w : (d : Record) × Memᴰ d l × (before d b ≡ true) × PrecedesIn l a d). in-any (λ c. before c b) l w.1 w.2) r))

-- a predecessor waits exactly if some operation of the list precedes the given one, directly or through others
pub preceded-exact : (l : List Record) (b : Record) → (preceded l b ≡ true) ↔ ((a : Record) × Memᴰ a l × PrecedesIn l a b)
preceded-exact l b = (
  λ h. let w = any-in (λ (a : Record). before a b) l (sym (direct-decides l b) ∙ h) in (w.0, w.1, direct w.2),
  λ w. direct-decides l b ∙ found w.1 w.2,
)
  where
    found : {a : Record} → Memᴰ a l → PrecedesIn l a b → any (λ c. before c b) l ≡ true
    found m (direct h) = in-any (λ c. before c b) l m h
    found m (through k p q) = found k q
