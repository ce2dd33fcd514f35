-- For a list of operations that applies in order and a part of it that leaves out no predecessor of a member: the part applies
-- in order by itself, and the whole is the part followed by the rest.
use Rattle.std.specs.Prelude.{ℕ, ◌≡◌, true, false, cond}
use Rattle.std.proofs.Math.Path.{refl, ap, subst}
use Rattle.std.proofs.Common.{sym, ◌∙◌, ⊎_elim}
use mathlib.Core.List.Memᴰ
use mathlib.Core.List.{List, [], ◌∷◌, Memᴰ}
use Rattle.std.proofs.Math.Bool.{Bool, not}
use Rattle.record.specs.Operation.{Record}
use Rattle.record.specs.Fields.{valid, fits}
use Rattle.volume_tree.specs.Volume.{Volume}
use Rattle.volume_tree.specs.Form.{well_formed}
use Rattle.volume_apply.specs.Apply.{applies, apply}
use Rattle.volume_apply.proofs.Laws.Apply.{apply-good}
use Rattle.log_rules.specs.Order.{directly_precedes}

-- elements of some type, each with its record: records themselves, or what a register keeps of them
module _ {A : Type 0} (rec : A → Record) where
  -- the operations of a list, one after the other
  unfoldable pub apply_each : Volume → List A → Volume
  apply_each v [] = v
  apply_each v (r ∷ l) = apply_each (apply v (rec r).operation) l

  -- each applies where it stands
  abbrev pub EachApplies : Volume → List A → Type 0
  EachApplies v [] = Unit {0}
  EachApplies v (r ∷ l) = (applies v (rec r).operation ≡ true) × EachApplies (apply v (rec r).operation) l

  -- an operation directly precedes none of a list
  abbrev pub PrecedesNone : A → List A → Type 0
  PrecedesNone r l = (q : A) → Memᴰ q l → directly_precedes (rec r).operation (rec q).operation ≡ false

  -- every record of a list is valid and fits
  abbrev pub AllFit : ℕ → ℕ → List A → Type 0
  AllFit n b l = (r : A) → Memᴰ r l → (valid (rec r) ≡ true) × (fits n b (rec r) ≡ true)

-- those of a list that a test picks
unfoldable pub picked : {A : Type 0} → (A → Bool) → List A → List A
picked f [] = []
picked f (r ∷ l) = cond (f r) (r ∷ picked f l) (picked f l)

pub picked-yes : {A : Type 0} (f : A → Bool) (r : A) (l : List A) → f r ≡ true → picked f (r ∷ l) ≡ r ∷ picked f l
unfolding picked
picked-yes f r l e = rw e

pub picked-no : {A : Type 0} (f : A → Bool) (r : A) (l : List A) → f r ≡ false → picked f (r ∷ l) ≡ picked f l
unfolding picked
picked-no f r l e = rw e

pub picked-in : {A : Type 0} (f : A → Bool) (l : List A) (r : A) → Memᴰ r (picked f l) → Memᴰ r l
unfolding picked
picked-in f [] r m = absurd (Memᴰ.not-nil m)
picked-in f (q ∷ l) r m = go (f q) m (picked-in f l r)
  where
    go : (t : Bool) → Memᴰ r (cond t (q ∷ picked f l) (picked f l)) → (Memᴰ r (picked f l) → Memᴰ r l) → Memᴰ r (q ∷ l)
    go true k ih = ⊎_elim (λ e. Memᴰ.head e) (λ x. Memᴰ.tail (ih x)) (Memᴰ.cases_cons k)
    go false k ih = Memᴰ.tail (ih k)

-- a part of a list leaves out no direct predecessor of a member
abbrev pub Closed : {A : Type 0} → (A → Record) → (A → Bool) → List A → Type 0
Closed rec f [] = Unit {0}
Closed rec f (r ∷ l) = (f r ≡ false → PrecedesNone rec r (picked f l)) × Closed rec f l

abbrev pub Swap : ℕ → ℕ → Type 0
Swap n b =
    (v : Volume) (r q : Record) → well_formed n b v ≡ true → valid r ≡ true → fits n b r ≡ true → valid q ≡ true → fits n b q ≡ true
    → directly_precedes r.operation q.operation ≡ false → applies v r.operation ≡ true → applies (apply v r.operation) q.operation ≡ true
    → (applies v q.operation ≡ true) × (applies (apply v q.operation) r.operation ≡ true) × (apply (apply v r.operation) q.operation ≡ apply (apply v q.operation) r.operation)

module _ {A : Type 0} (rec : A → Record) (n b : ℕ) (swap : Swap n b) where
  good-after : (v : Volume) (r : A) → well_formed n b v ≡ true → (valid (rec r) ≡ true) × (fits n b (rec r) ≡ true) → applies v (rec r).operation ≡ true → well_formed n b (apply v (rec r).operation) ≡ true
  good-after v r w h a = apply-good n b v (rec r) w h.0 h.1 a

  pub good-all : (v : Volume) (l : List A) → well_formed n b v ≡ true → AllFit rec n b l → EachApplies rec v l → well_formed n b (apply_each rec v l) ≡ true
  unfolding apply_each
  good-all v [] w h a = w
  good-all v (r ∷ l) w h a = good-all (apply v (rec r).operation) l (good-after v r w (h r (Memᴰ.head refl)) a.0) (λ q m. h q (Memᴰ.tail m)) a.1

  -- an operation moved behind a list of which it precedes none
  record Moved (v : Volume) (r : A) (l : List A) : Type 0 where
    turn : EachApplies rec v l
    last : applies (apply_each rec v l) (rec r).operation ≡ true
    same : apply_each rec (apply v (rec r).operation) l ≡ apply (apply_each rec v l) (rec r).operation

  move : (v : Volume) (r : A) (l : List A) → well_formed n b v ≡ true → (valid (rec r) ≡ true) × (fits n b (rec r) ≡ true) → AllFit rec n b l → PrecedesNone rec r l
      → applies v (rec r).operation ≡ true → EachApplies rec (apply v (rec r).operation) l → Moved v r l
  unfolding apply_each
  move v r [] w hr hl free a t = record { turn = tt; last = a; same = refl }
  move v r (q ∷ l) w hr hl free a t =
      let hq = hl q (Memᴰ.head refl) in
      let s = swap v (rec r) (rec q) w hr.0 hr.1 hq.0 hq.1 (free q (Memᴰ.head refl)) a t.0 in
      let w₁ = good-after v q w hq s.0 in
      let t₁ : EachApplies rec (apply (apply v (rec q).operation) (rec r).operation) l = subst (λ (x : Volume). EachApplies rec x l) s.2 t.1 in
      let m = move (apply v (rec q).operation) r l w₁ hr (λ p k. hl p (Memᴰ.tail k)) (λ p k. free p (Memᴰ.tail k)) s.1 t₁ in
      record { turn = (s.0, m.turn); last = m.last; same = ap (λ (x : Volume). apply_each rec x l) s.2 ∙ m.same }

  -- the part applies by itself, the rest after it, and both leave what the whole leaves
  pub record Parted (v : Volume) (f : A → Bool) (l : List A) : Type 0 where
    pub part : EachApplies rec v (picked f l)
    pub rest : EachApplies rec (apply_each rec v (picked f l)) (picked (λ r. not (f r)) l)
    pub whole : apply_each rec (apply_each rec v (picked f l)) (picked (λ r. not (f r)) l) ≡ apply_each rec v l

  pub partition : (f : A → Bool) (l : List A) (v : Volume) → well_formed n b v ≡ true → AllFit rec n b l → Closed rec f l → EachApplies rec v l → Parted v f l
  unfolding picked apply_each
  partition f [] v w h c t = record { part = tt; rest = tt; whole = refl }
  partition f (r ∷ l) v w h c t =
      let hr = h r (Memᴰ.head refl) in
      let w₁ = good-after v r w hr t.0 in
      go (f r) refl (partition f l (apply v (rec r).operation) w₁ (λ q m. h q (Memᴰ.tail m)) c.1 t.1)
    where
      other : A → Bool
      other q = not (f q)

      go : (s : Bool) → f r ≡ s → Parted (apply v (rec r).operation) f l → Parted v f (r ∷ l)
      go true e p =
          let y = picked-yes f r l e in
          let z = picked-no other r l (ap not e) in
          record {
            part = subst (λ (x : List A). EachApplies rec v x) (sym y) (t.0, p.part);
            rest = subst (λ (x : List A). EachApplies rec (apply_each rec v x) (picked other (r ∷ l))) (sym y) (subst (λ (x : List A). EachApplies rec (apply_each rec v (r ∷ picked f l)) x) (sym z) p.rest);
            whole = ap (λ (x : List A). apply_each rec (apply_each rec v x) (picked other (r ∷ l))) y ∙ ap (λ (x : List A). apply_each rec (apply_each rec v (r ∷ picked f l)) x) z ∙ p.whole;
          }
      go false e p =
          let y = picked-no f r l e in
          let z = picked-yes other r l (ap not e) in
          let m = move v r (picked f l) w (h r (Memᴰ.head refl)) (λ q k. h q (Memᴰ.tail (picked-in f l q k))) (c.0 e) t.0 p.part in
          let rest₁ : EachApplies rec (apply (apply_each rec v (picked f l)) (rec r).operation) (picked other l) = subst (λ (x : Volume). EachApplies rec x (picked other l)) m.same p.rest in
          record {
            part = subst (λ (x : List A). EachApplies rec v x) (sym y) m.turn;
            rest = subst (λ (x : List A). EachApplies rec (apply_each rec v x) (picked other (r ∷ l))) (sym y) (subst (λ (x : List A). EachApplies rec (apply_each rec v (picked f l)) x) (sym z) (m.last, rest₁));
            whole =
                ap (λ (x : List A). apply_each rec (apply_each rec v x) (picked other (r ∷ l))) y ∙ ap (λ (x : List A). apply_each rec (apply_each rec v (picked f l)) x) z
                ∙ ap (λ (x : Volume). apply_each rec x (picked other l)) (sym m.same) ∙ p.whole;
          }
