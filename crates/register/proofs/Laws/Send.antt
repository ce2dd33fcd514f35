-- One more send: a waiting operation with no waiting direct predecessor applies to the server, and the server is then the replay
-- in issue order of the sent ones with it.
use Rattle.std.specs.Prelude.{ℕ, ◌<◌, Bool, not, ◌||◌, cond}
use Rattle.std.proofs.Common.{arith, sym, ◌∙◌, eqb-true, eq-eqb, ne_eqb}
use Rattle.std.proofs.Math.Path.{◌≡◌, refl, ap, subst}
use Rattle.std.proofs.Math.Logic.{⊎_elim}
use mathlib.Core.List.Memᴰ
use mathlib.Core.List.{List, [], ◌∷◌, Memᴰ}
use Rattle.std.proofs.Math.Bool.{true, false}
use Rattle.std.proofs.Math.Dec.{eqb}
use Rattle.buffer.specs.Laws.Test.{or_cases}
use Rattle.record.specs.Operation.{Record}
use Rattle.volume_tree.specs.Volume.{Volume}
use Rattle.volume_tree.specs.Form.{well_formed}
use Rattle.volume_apply.specs.Apply.{applies, apply}
use Rattle.log_rules.specs.Order.{directly_precedes}
use Rattle.log_rules.proofs.Laws.Order.{Rising}
use Rattle.log_rules.proofs.Laws.Partition.{apply_each, EachApplies, AllFit, picked, picked-yes, picked-no, picked-in, Closed, Swap, partition}
use Rattle.register.proofs.Laws.Pick.{picked-twice, closed-within}

module _ {A : Type 0} (rec : A → Record) where
  key : A → ℕ
  key a = (rec a).sequence

  -- the part with one more, told by its number
  abbrev pub adding : (A → Bool) → ℕ → A → Bool
  adding f q a = f a || eqb (rec a).sequence q

  pub in-picked : (f : A → Bool) (l : List A) (a : A) → Memᴰ a (picked f l) → f a ≡ true
  unfolding picked
  in-picked f [] a m = absurd (Memᴰ.not-nil m)
  in-picked f (b ∷ l) a m = go (f b) refl m (in-picked f l a)
    where
      go : (t : Bool) → f b ≡ t → Memᴰ a (cond t (b ∷ picked f l) (picked f l)) → (Memᴰ a (picked f l) → f a ≡ true) → f a ≡ true
      go true e k ih = ⊎_elim (λ z. ap f z ∙ e) ih (Memᴰ.cases_cons k)
      go false e k ih = ih k

  pub there-picked : (f : A → Bool) (l : List A) (a : A) → Memᴰ a l → f a ≡ true → Memᴰ a (picked f l)
  unfolding picked
  there-picked f [] a m k = absurd (Memᴰ.not-nil m)
  there-picked f (b ∷ l) a m k = ⊎_elim (λ z. go (f b) (sym (ap f z) ∙ k) z) (λ t. on (f b) (there-picked f l a t k)) (Memᴰ.cases_cons m)
    where
      go : (t : Bool) → t ≡ true → a ≡ b → Memᴰ a (cond t (b ∷ picked f l) (picked f l))
      go true e z = Memᴰ.head z
      go false e z = let y : ◌≡◌ {A = ℕ} 0 1 = cc in absurd (omega arith)

      on : (t : Bool) → Memᴰ a (picked f l) → Memᴰ a (cond t (b ∷ picked f l) (picked f l))
      on true x = Memᴰ.tail x
      on false x = x

  -- nobody outside the part directly precedes the one that is added
  pub closed-add : (f : A → Bool) (q : ℕ) (l : List A) → Rising (λ a. (rec a).sequence) l
      → ((w a : A) → Memᴰ w l → Memᴰ a l → f w ≡ false → (rec w).sequence < (rec a).sequence → (rec a).sequence ≡ q → directly_precedes (rec w).operation (rec a).operation ≡ false)
      → Closed rec f l → Closed rec (adding f q) l
  closed-add f q [] rise free c = tt
  closed-add f q (w ∷ l) rise free c = (
    λ e a m.
        let fw : f w ≡ false = (or-none (f w) (eqb (rec w).sequence q) e).0 in
        let al = picked-in (adding f q) l a m in
        ⊎_elim
        (λ (k : f a ≡ true). c.0 fw a (there-picked f l a al k))
        (λ (k : eqb (rec a).sequence q ≡ true). free w a (Memᴰ.head refl) (Memᴰ.tail al) fw (rise.0 a al) (eqb-true _ _ k))
        (or_cases (f a) (eqb (rec a).sequence q) (in-picked (adding f q) l a m)),
    closed-add f q l rise.1 (λ x y mx my. free x y (Memᴰ.tail mx) (Memᴰ.tail my)) c.1,
  )
    where
      or-none : (s t : Bool) → (s || t) ≡ false → (s ≡ false) × (t ≡ false)
      or-none true t k = let z : ◌≡◌ {A = ℕ} 0 1 = cc in absurd (omega arith)
      or-none false t k = (refl, k)

  -- behind the one that is added, only members of the part are picked
  none_after : (f : A → Bool) (q : ℕ) (k : List A) → ((c : A) → Memᴰ c k → q < (rec c).sequence) → picked (λ c. not (f c)) (picked (adding f q) k) ≡ []
  unfolding picked
  none_after f q [] above = refl
  none_after f q (c ∷ k) above = go (f c) refl (none_after f q k (λ d m. above d (Memᴰ.tail m)))
    where
      lt : q < (rec c).sequence
      lt = above c (Memᴰ.head refl)

      other : eqb (rec c).sequence q ≡ false
      other = ne_eqb (rec c).sequence q (λ e. let w = lt in omega arith)

      go : (t : Bool) → f c ≡ t → picked (λ d. not (f d)) (picked (adding f q) k) ≡ [] → picked (λ d. not (f d)) (picked (adding f q) (c ∷ k)) ≡ []
      go true e ih =
          ap (picked (λ d. not (f d))) (picked-yes (adding f q) c k (ap (λ (s : Bool). s || eqb (rec c).sequence q) e)) ∙ picked-no (λ d. not (f d)) c (picked (adding f q) k) (ap not e) ∙ ih
      go false e ih = ap (picked (λ d. not (f d))) (picked-no (adding f q) c k (ap (λ (s : Bool). s || eqb (rec c).sequence q) e ∙ other)) ∙ ih

  -- what is added is the one of that number
  pub added-one : (f : A → Bool) (l : List A) (a : A) → Rising (λ b. (rec b).sequence) l → Memᴰ a l → f a ≡ false
      → picked (λ b. not (f b)) (picked (adding f (rec a).sequence) l) ≡ a ∷ []
  added-one f [] a rise m e = absurd (Memᴰ.not-nil m)
  added-one f (b ∷ l) a rise m e = ⊎_elim first (λ t. later t (added-one f l a rise.1 t e)) (Memᴰ.cases_cons m)
    where
      q : ℕ
      q = (rec a).sequence

      rest : A → Bool
      rest c = not (f c)

      first : a ≡ b → picked (λ c. not (f c)) (picked (adding f (rec a).sequence) (b ∷ l)) ≡ a ∷ []
      first z =
          let fb : f b ≡ false = ap f (sym z) ∙ e in
          let at : eqb (rec b).sequence q ≡ true = eq-eqb _ _ (ap (λ (x : A). (rec x).sequence) (sym z)) in
          ap (picked rest) (picked-yes (adding f q) b l (ap (λ (s : Bool). s || eqb (rec b).sequence q) fb ∙ at)) ∙ picked-yes rest b (picked (adding f q) l) (ap not fb)
          ∙ ap (λ (x : List A). b ∷ x) (none_after f q l (λ c k. subst (λ (x : A). (rec x).sequence < (rec c).sequence) (sym z) (rise.0 c k))) ∙ ap (λ (x : A). x ∷ []) (sym z)

      later : Memᴰ a l → picked (λ c. not (f c)) (picked (adding f (rec a).sequence) l) ≡ a ∷ [] → picked (λ c. not (f c)) (picked (adding f (rec a).sequence) (b ∷ l)) ≡ a ∷ []
      later t ih = go (f b) refl
        where
          lt : (rec b).sequence < (rec a).sequence
          lt = rise.0 a t

          other : eqb (rec b).sequence q ≡ false
          other = ne_eqb (rec b).sequence q (λ k. let w = lt in omega arith)

          go : (s : Bool) → f b ≡ s → picked (λ c. not (f c)) (picked (adding f (rec a).sequence) (b ∷ l)) ≡ a ∷ []
          go true k = ap (picked rest) (picked-yes (adding f q) b l (ap (λ (x : Bool). x || eqb (rec b).sequence q) k)) ∙ picked-no rest b (picked (adding f q) l) (ap not k) ∙ ih
          go false k = ap (picked rest) (picked-no (adding f q) b l (ap (λ (x : Bool). x || eqb (rec b).sequence q) k ∙ other)) ∙ ih

  -- a number is one member's only
  pub rising-unique : (l : List A) → Rising (λ b. (rec b).sequence) l → (a b : A) → Memᴰ a l → Memᴰ b l → (rec a).sequence ≡ (rec b).sequence → a ≡ b
  rising-unique [] rise a b m k e = absurd (Memᴰ.not-nil m)
  rising-unique (c ∷ l) rise a b m k e =
      ⊎_elim
      (λ (x : a ≡ c). ⊎_elim (λ (y : b ≡ c). x ∙ sym y) (λ (y : Memᴰ b l). let z = ap (λ (u : A). (rec u).sequence) x in let w = rise.0 b y in absurd (omega arith)) (Memᴰ.cases_cons k))
      (λ (x : Memᴰ a l). ⊎_elim (λ (y : b ≡ c). let z = ap (λ (u : A). (rec u).sequence) y in let w = rise.0 a x in absurd (omega arith)) (λ (y : Memᴰ b l). rising-unique l rise.1 a b x y e) (Memᴰ.cases_cons k))
      (Memᴰ.cases_cons m)

  -- the sent ones, told by f, are closed in the list of all live ones; one more that nobody unsent precedes directly
  pub record OneMore (v : Volume) (f : A → Bool) (l : List A) (a : A) : Type 0 where
    pub fit : applies (apply_each rec v (picked f l)) (rec a).operation ≡ true
    pub after : apply (apply_each rec v (picked f l)) (rec a).operation ≡ apply_each rec v (picked (adding f (rec a).sequence) l)
    pub still : Closed rec (adding f (rec a).sequence) l

  pub one_more : (n b : ℕ) → Swap n b → (v : Volume) (f : A → Bool) (l : List A) (a : A) → well_formed n b v ≡ true → AllFit rec n b l → EachApplies rec v l → Closed rec f l
      → Rising (λ b. (rec b).sequence) l → Memᴰ a l → f a ≡ false
      → ((w : A) → Memᴰ w l → f w ≡ false → (rec w).sequence < (rec a).sequence → directly_precedes (rec w).operation (rec a).operation ≡ false)
      → OneMore v f l a
  unfolding apply_each
  one_more n b swap v f l a w h t c rise m e free =
      let q = (rec a).sequence in
      let more = adding f q in
      let c₁ : Closed rec more l = closed-add f q l rise (λ x y mx my fx lt is. let z : a ≡ y = rising-unique l rise a y m my (sym is) in subst (λ (u : A). directly_precedes (rec x).operation (rec u).operation ≡ false) z (free x mx fx (subst (λ (u : A). (rec x).sequence < (rec u).sequence) (sym z) lt))) c in
      let p₁ = partition rec n b swap more l v w h c₁ t in
      let c₂ : Closed rec f (picked more l) = closed-within rec f more l (λ x mx k. ap (λ (s : Bool). s || eqb (rec x).sequence q) k) c in
      let p₂ = partition rec n b swap f (picked more l) v w (λ x mx. h x (picked-in more l x mx)) c₂ p₁.part in
      let same : picked f (picked more l) ≡ picked f l = picked-twice f more l (λ x mx k. ap (λ (s : Bool). s || eqb (rec x).sequence q) k) in
      let one = added-one f l a rise m e in
      let rest : EachApplies rec (apply_each rec v (picked f l)) (a ∷ []) =
      subst (λ (x : List A). EachApplies rec (apply_each rec v x) (a ∷ [])) same (subst (λ (x : List A). EachApplies rec (apply_each rec v (picked f (picked more l))) x) one p₂.rest) in
      let whole : apply_each rec (apply_each rec v (picked f l)) (a ∷ []) ≡ apply_each rec v (picked more l) =
      ap (λ (x : List A). apply_each rec (apply_each rec v x) (a ∷ [])) (sym same) ∙ ap (λ (x : List A). apply_each rec (apply_each rec v (picked f (picked more l))) x) (sym one) ∙ p₂.whole in
      record { fit = rest.0; after = whole; still = c₁ }
