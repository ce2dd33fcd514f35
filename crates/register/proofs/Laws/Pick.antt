-- Lists of operations that tests pick: after a change of their elements, picked twice, and put end to end.
use Rattle.std.specs.Prelude.{ℕ, Bool}
use Rattle.std.proofs.Common.{arith, ◌∙◌, subst, ⊎_elim}
use Rattle.std.proofs.Math.Path.{◌≡◌, refl, sym, ap}
use mathlib.Core.List.Memᴰ
use mathlib.Core.List.{List, [], ◌∷◌, ◌++◌, map, Memᴰ, append-nil}
use Rattle.std.proofs.Math.Bool.{true, false, cond}
use Rattle.record.specs.Operation.{Record}
use Rattle.record.specs.Fields.{valid, fits}
use Rattle.volume_tree.specs.Volume.{Volume}
use Rattle.volume_apply.specs.Apply.{applies, apply}
use Rattle.log_rules.specs.Order.{directly_precedes}
use Rattle.log_rules.proofs.Laws.Partition.{apply_each, EachApplies, AllFit, picked, picked-yes, picked-no, Closed}

pub picked_none : {A : Type 0} (f : A → Bool) → picked f [] ≡ []
unfolding picked
picked_none f = refl

module _ {A : Type 0} where
  -- tests that agree on a list pick the same
  pub picked_same : (f h : A → Bool) (l : List A) → ((a : A) → Memᴰ a l → f a ≡ h a) → picked f l ≡ picked h l
  unfolding picked
  picked_same f h [] e = refl
  picked_same f h (a ∷ l) e = (λ i. cond (e a (Memᴰ.head refl) i) (a ∷ picked f l) (picked f l)) ∙ ap (λ (x : List A). cond (h a) (a ∷ x) x) (picked_same f h l (λ b m. e b (Memᴰ.tail m)))

  -- picked of a changed list is the change of what the changed test picks
  pub picked-map : (f : A → Bool) (g : A → A) (l : List A) → picked f (map g l) ≡ map g (picked (λ a. f (g a)) l)
  unfolding picked
  picked-map f g [] = refl
  picked-map f g (a ∷ l) = go (f (g a)) (picked-map f g l)
    where
      go : (t : Bool) → picked f (map g l) ≡ map g (picked (λ b. f (g b)) l)
          → cond t (g a ∷ picked f (map g l)) (picked f (map g l)) ≡ map g (cond t (a ∷ picked (λ b. f (g b)) l) (picked (λ b. f (g b)) l))
      go true e = ap (λ (x : List A). g a ∷ x) e
      go false e = e

  -- a stricter test picks the same of what a looser one picked
  pub picked-twice : (f h : A → Bool) (l : List A) → ((a : A) → Memᴰ a l → f a ≡ true → h a ≡ true) → picked f (picked h l) ≡ picked f l
  unfolding picked
  picked-twice f h [] imp = refl
  picked-twice f h (a ∷ l) imp = go (f a) (h a) refl refl (picked-twice f h l (λ b m. imp b (Memᴰ.tail m)))
    where
      go : (s t : Bool) → f a ≡ s → h a ≡ t → picked f (picked h l) ≡ picked f l
          → picked f (cond t (a ∷ picked h l) (picked h l)) ≡ cond s (a ∷ picked f l) (picked f l)
      go true true e k ih = picked-yes f a (picked h l) e ∙ ap (λ (x : List A). a ∷ x) ih
      go false true e k ih = picked-no f a (picked h l) e ∙ ih
      go true false e k ih = let z : false ≡ true = sym k ∙ imp a (Memᴰ.head refl) e in let y : ◌≡◌ {A = ℕ} 0 1 = cc in absurd (omega arith)
      go false false e k ih = ih

  pub picked-append : (f : A → Bool) (l k : List A) → picked f (l ++ k) ≡ picked f l ++ picked f k
  unfolding picked
  picked-append f [] k = refl
  picked-append f (a ∷ l) k = go (f a) (picked-append f l k)
    where
      go : (t : Bool) → picked f (l ++ k) ≡ picked f l ++ picked f k → cond t (a ∷ picked f (l ++ k)) (picked f (l ++ k)) ≡ cond t (a ∷ picked f l) (picked f l) ++ picked f k
      go true e = ap (λ (x : List A). a ∷ x) e
      go false e = e

module _ {A : Type 0} (rec : A → Record) where
  -- a change that keeps the records keeps what they do
  pub apply-map : (g : A → A) → ((a : A) → rec (g a) ≡ rec a) → (v : Volume) (l : List A) → apply_each rec v (map g l) ≡ apply_each rec v l
  unfolding apply_each
  apply-map g k v [] = refl
  apply-map g k v (a ∷ l) = ap (λ (r : Record). apply_each rec (apply v r.operation) (map g l)) (k a) ∙ apply-map g k (apply v (rec a).operation) l

  pub turn-map : (g : A → A) → ((a : A) → rec (g a) ≡ rec a) → (v : Volume) (l : List A) → EachApplies rec v l → EachApplies rec v (map g l)
  turn-map g k v [] t = tt
  turn-map g k v (a ∷ l) t =
      subst (λ (r : Record). (applies v r.operation ≡ true) × EachApplies rec (apply v r.operation) (map g l)) (sym (k a)) (t.0, turn-map g k (apply v (rec a).operation) l t.1)

  pub map-in : (g : A → A) (l : List A) (b : A) → Memᴰ b (map g l) → (a : A) × Memᴰ a l × (b ≡ g a)
  map-in g [] b m = absurd (Memᴰ.not-nil m)
  map-in g (a ∷ l) b m = ⊎_elim (λ e. (a, Memᴰ.head refl, e)) (λ k. let r = map-in g l b k in (r.0, Memᴰ.tail r.1, r.2)) (Memᴰ.cases_cons m)

  pub fit-map : (n b : ℕ) (g : A → A) → ((a : A) → rec (g a) ≡ rec a) → (l : List A) → AllFit rec n b l → AllFit rec n b (map g l)
  fit-map n b g k l h c m =
      let r = map-in g l c m in
      subst (λ (y : Record). (valid y ≡ true) × (fits n b y ≡ true)) (sym (ap rec r.2 ∙ k r.0)) (h r.0 r.1)

  pub closed-map : (f : A → Bool) (g : A → A) → ((a : A) → rec (g a) ≡ rec a) → (l : List A) → Closed rec (λ a. f (g a)) l → Closed rec f (map g l)
  closed-map f g k [] c = tt
  closed-map f g k (a ∷ l) c = (
    λ e q m.
        let y = subst (λ (x : List A). Memᴰ q x) (picked-map f g l) m in
        let r = map-in g (picked (λ b. f (g b)) l) q y in
        subst (λ (z : Record). directly_precedes z.operation (rec q).operation ≡ false) (sym (k a))
        (subst (λ (z : Record). directly_precedes (rec a).operation z.operation ≡ false) (sym (ap rec r.2 ∙ k r.0)) (c.0 e r.0 r.1)),
    closed-map f g k l c.1,
  )

  pub apply-append : (v : Volume) (l k : List A) → apply_each rec v (l ++ k) ≡ apply_each rec (apply_each rec v l) k
  unfolding apply_each
  apply-append v [] k = refl
  apply-append v (a ∷ l) k = apply-append (apply v (rec a).operation) l k

  pub turn-append : (v : Volume) (l k : List A) → EachApplies rec v l → EachApplies rec (apply_each rec v l) k → EachApplies rec v (l ++ k)
  unfolding apply_each
  turn-append v [] k t u = u
  turn-append v (a ∷ l) k t u = (t.0, turn-append (apply v (rec a).operation) l k t.1 u)

  -- tests that agree on a list close it alike
  pub closed_same : (f h : A → Bool) (l : List A) → ((a : A) → Memᴰ a l → f a ≡ h a) → Closed rec f l → Closed rec h l
  closed_same f h [] e c = tt
  closed_same f h (a ∷ l) e c = (
    λ k q m. c.0 (e a (Memᴰ.head refl) ∙ k) q (subst (λ (x : List A). Memᴰ q x) (sym (picked_same f h l (λ b n. e b (Memᴰ.tail n)))) m),
    closed_same f h l (λ b n. e b (Memᴰ.tail n)) c.1,
  )

  -- a part that is closed is closed within a larger part
  pub closed-within : (f h : A → Bool) (l : List A) → ((a : A) → Memᴰ a l → f a ≡ true → h a ≡ true) → Closed rec f l → Closed rec f (picked h l)
  unfolding picked
  closed-within f h [] imp c = tt
  closed-within f h (a ∷ l) imp c = go (h a) (closed-within f h l (λ b m. imp b (Memᴰ.tail m)) c.1)
    where
      go : (t : Bool) → Closed rec f (picked h l) → Closed rec f (cond t (a ∷ picked h l) (picked h l))
      go true ih = ((λ e q m. c.0 e q (subst (λ (x : List A). Memᴰ q x) (picked-twice f h l (λ b k. imp b (Memᴰ.tail k))) m)), ih)
      go false ih = ih

  -- one more at the end that is not in the part
  pub closed-end : (f : A → Bool) (l : List A) (a : A) → f a ≡ false → Closed rec f l → Closed rec f (l ++ (a ∷ []))
  closed-end f [] a e c = ((λ k q m. absurd (Memᴰ.not-nil (subst (λ (x : List A). Memᴰ q x) (picked_none f) m))), tt)
  closed-end f (b ∷ l) a e c =
      ((λ k q m. c.0 k q (subst (λ (x : List A). Memᴰ q x) (picked-append f l (a ∷ []) ∙ ap (λ (x : List A). picked f l ++ x) (picked-no f a [] e ∙ picked_none f) ∙ append-nil (picked f l)) m)), closed-end f l a e c.1)

  -- a list all of whose members are in the part
  pub closed_all : (f : A → Bool) (l : List A) → ((a : A) → Memᴰ a l → f a ≡ true) → Closed rec f l
  closed_all f [] h = tt
  closed_all f (a ∷ l) h = ((λ e. let z : true ≡ false = sym (h a (Memᴰ.head refl)) ∙ e in let y : ◌≡◌ {A = ℕ} 0 1 = cc in absurd (omega arith)), closed_all f l (λ b m. h b (Memᴰ.tail m)))
