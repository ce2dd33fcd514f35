-- A change at one entry of a well-formed volume leaves it well-formed, if the new entry fits there.
-- Assumes nothing.
use Rattle.std.specs.Prelude.{ℕ, ◌*◌, ◌≤◌, ◌<◌, ◌≡◌, refl, Bool, true, false, ◌&&◌, List, length, set, eqb}
use Rattle.std.proofs.Common.{arith, sym, ap, ◌∙◌, subst, length-set, eqb-true}
use Rattle.std.proofs.Math.Bool.{and-eq-true_iff}
use Rattle.std.proofs.lemmas.Bool.{false≢true, eqb-false}
use Rattle.names.specs.Name.{valid_name, same_name}
use Rattle.names.proofs.Laws.Name.{same_refl, same-sym, same-trans}
use Rattle.volume_entry.specs.Entry.{Entry, root, is_used, is_directory, has_name, name_of, parent_of, contents_of}
use Rattle.volume_entry.specs.Laws.Entry.{unused-free}
use Rattle.volume_entry.specs.Laws.Field.{unnamed-fields}
use Rattle.volume_tree.specs.Volume.{Volume, entry_at, is_child}
use Rattle.volume_tree.specs.Form.{twins, well_formed}
use Rattle.volume_tree.specs.Laws.Form.{InTree, placed-inv, placed-intro, Good, well-formed-inv, good-well-formed}
use Rattle.volume_tree.specs.Laws.Climb.{Climb, here, step, climbs-climb, climb-climbs}
use Rattle.volume_tree.specs.Laws.Search.{entry-set-same, entry_set_other, used-below, directory-below, named-below, Named, child-intro, named-inv}

-- two numbers are equal or not
pub same_or : {C : Type 0} (i j : ℕ) → (i ≡ j → C) → ((i ≡ j → ⊥) → C) → C
same_or {C} i j f g = go (eqb i j) refl
  where
    go : (b : Bool) → eqb i j ≡ b → C
    go true e = f (eqb-true i j e)
    go false e = g (eqb-false i j e)

-- a well-formed volume, each rule for itself: what holds of an entry with a name other than the root, and of two with one name
pub record Sound (n b : ℕ) (v : Volume) : Type 0 where
  pub size : length v ≡ n
  pub root : entry_at v 0 ≡ root
  pub name : (i : ℕ) → (i ≡ 0 → ⊥) → has_name (entry_at v i) ≡ true → valid_name (name_of (entry_at v i)) ≡ true
  pub parent : (i : ℕ) → (i ≡ 0 → ⊥) → has_name (entry_at v i) ≡ true → is_directory (entry_at v (parent_of (entry_at v i))) ≡ true
  pub leads : (i : ℕ) → Climb v i
  pub short : (i : ℕ) → length (contents_of (entry_at v i)) ≤ 1024 * b
  pub one : (d : ℕ) (m : List ℕ) (i j : ℕ) → Named v d m i → Named v d m j → i ≡ j

-- an entry of a volume with a root has parent 0, or has a name and is not the root
pub parent-cases : {C : Type 0} (v : Volume) → entry_at v 0 ≡ root → (i : ℕ) → (parent_of (entry_at v i) ≡ 0 → C) → ((i ≡ 0 → ⊥) → has_name (entry_at v i) ≡ true → C) → C
parent-cases {C} v r i f g = same_or i 0 (λ e. f (ap (λ (j : ℕ). parent_of (entry_at v j)) e ∙ ap parent_of r)) (λ z. go z (has_name (entry_at v i)) refl)
  where
    go : (i ≡ 0 → ⊥) → (b : Bool) → has_name (entry_at v i) ≡ b → C
    go z true t = g z t
    go z false t = f (unnamed-fields (entry_at v i) t).1

-- Two entries that share parent and name have that name in that directory, and the reverse.
twins-named : (v : Volume) (i j : ℕ) → twins v i j ≡ true
    → Named v (parent_of (entry_at v i)) (name_of (entry_at v i)) i × Named v (parent_of (entry_at v i)) (name_of (entry_at v i)) j
twins-named v i j t =
    let d = parent_of (entry_at v i) in
    let m = name_of (entry_at v i) in
    let a = (and-eq-true_iff (is_child v d i && is_child v d j) (same_name m (name_of (entry_at v j)))).0 t in
    let c = (and-eq-true_iff (is_child v d i) (is_child v d j)).0 a.0 in (
      named-inv v d m i ((and-eq-true_iff (is_child v d i) (same_name m m)).1 (c.0, same_refl m)),
      named-inv v d m j ((and-eq-true_iff (is_child v d j) (same_name (name_of (entry_at v j)) m)).1 (c.1, same-sym m (name_of (entry_at v j)) a.1)),
    )

named-twins : (v : Volume) (d : ℕ) (m : List ℕ) (i j : ℕ) → Named v d m i → Named v d m j → twins v i j ≡ true
named-twins v d m i j x y =
    let p = parent_of (entry_at v i) in
    (and-eq-true_iff (is_child v p i && is_child v p j) (same_name (name_of (entry_at v i)) (name_of (entry_at v j)))).1 (
      (and-eq-true_iff (is_child v p i) (is_child v p j)).1 (child-intro v p i x.other x.named refl, child-intro v p j y.other y.named (y.parent ∙ sym x.parent)),
      same-trans (name_of (entry_at v i)) m (name_of (entry_at v j)) x.name (same-sym (name_of (entry_at v j)) m y.name),
    )

-- Each entry with a name but the root of a well-formed volume has what is asked of it.
pub good_placed : (n b : ℕ) (v : Volume) → Good n b v → (i : ℕ) → (i ≡ 0 → ⊥) → has_name (entry_at v i) ≡ true → InTree v i (entry_at v i)
good_placed n b v g i z u = (placed-inv b v i (entry_at v i) (g.each i (named-below v i u) z)).1 u

-- A well-formed volume keeps each rule.
pub good-sound : (n b : ℕ) (v : Volume) → Good n b v → Sound n b v
good-sound n b v g =
    record {
      size = g.size;
      root = g.root;
      name = λ i z u. (good_placed n b v g i z u).name;
      parent = λ i z u. (good_placed n b v g i z u).parent;
      leads = λ i. parent-cases v g.root i (λ p. step i (here _ p)) (λ z u. climbs-climb (length v) v i (good_placed n b v g i z u).leads);
      short = λ i. same_or i 0 (λ e. rw (e, g.root) (omega arith)) (λ z. go i z (is_used (entry_at v i)) refl);
      one = λ d m i j x y. same_or i j (λ e. e) (λ z. absurd (false≢true (sym (g.apart i j (named-below v i x.named) (named-below v j y.named) z) ∙ named-twins v d m i j x y)));
    }
  where
    go : (i : ℕ) → (i ≡ 0 → ⊥) → (t : Bool) → is_used (entry_at v i) ≡ t → length (contents_of (entry_at v i)) ≤ 1024 * b
    go i z true u = (placed-inv b v i (entry_at v i) (g.each i (used-below v i u) z)).0
    go i z false u = rw (unused-free (entry_at v i) u) (omega arith)

-- every entry's parent is an entry
pub parent-below : (n b : ℕ) (v : Volume) → Sound n b v → (i : ℕ) → parent_of (entry_at v i) < length v
parent-below n b v s i =
    parent-cases v s.root i (λ p. rw p (directory-below v 0 (ap is_directory s.root))) (λ z u. directory-below v (parent_of (entry_at v i)) (s.parent i z u))

-- A volume that keeps each rule is well-formed.
pub sound-good : (n b : ℕ) (v : Volume) → Sound n b v → Good n b v
sound-good n b v s =
    record {
      size = s.size;
      root = s.root;
      each = λ i h z.
          placed-intro b v i (entry_at v i) (s.short i) (λ u.
          record { name = s.name i z u; parent = s.parent i z u; leads = climb-climbs v (parent-below n b v s) i h (s.leads i) });
      apart = λ i j h k z. go i j z (twins v i j) refl;
    }
  where
    go : (i j : ℕ) → (i ≡ j → ⊥) → (t : Bool) → twins v i j ≡ t → twins v i j ≡ false
    go i j z true t = let x = twins-named v i j t in absurd (z (s.one _ _ i j x.0 x.1))
    go i j z false t = t

-- The same two of the test of a well-formed volume.
pub well-formed-sound : (n b : ℕ) (v : Volume) → well_formed n b v ≡ true → Sound n b v
well-formed-sound n b v t = good-sound n b v (well-formed-inv n b v t)

pub sound-well-formed : (n b : ℕ) (v : Volume) → Sound n b v → well_formed n b v ≡ true
sound-well-formed n b v s = good-well-formed n b v (sound-good n b v s)

-- An entry that has a parent other than the root has a name, and is not the root.
pub child-named : (n b : ℕ) (v : Volume) → Sound n b v → (o : ℕ) → (o ≡ 0 → ⊥) → (i : ℕ) → parent_of (entry_at v i) ≡ o
    → (i ≡ 0 → ⊥) × (has_name (entry_at v i) ≡ true)
child-named n b v s o z i p = parent-cases v s.root i (λ q. absurd (z (sym p ∙ q))) (λ y u. (y, u))

-- An entry that is no directory is nobody's parent.
pub no-directory : (n b : ℕ) (v : Volume) → Sound n b v → (o : ℕ) → (o ≡ 0 → ⊥) → is_directory (entry_at v o) ≡ false
    → (i : ℕ) → parent_of (entry_at v i) ≡ o → ⊥
no-directory n b v s o z f i p =
    let c = child-named n b v s o z i p in
    false≢true (sym f ∙ ap (λ (j : ℕ). is_directory (entry_at v j)) (sym p) ∙ s.parent i c.0 c.1)

-- No path is changed by an entry that is nobody's parent and not its own, nor by a directory that stays in its parent.
pub data Keeps (v : Volume) (o : ℕ) (e : Entry) : Type 0 where
  leaf : ((i : ℕ) → parent_of (entry_at v i) ≡ o → ⊥) → (parent_of e ≡ o → ⊥) → Keeps v o e
  place : is_directory e ≡ true → parent_of e ≡ parent_of (entry_at v o) → Keeps v o e

-- what an entry must be to be put at a number: its name, parent and length in order, and no other entry so named
pub record Placeable (b : ℕ) (v : Volume) (o : ℕ) (e : Entry) : Type 0 where
  pub name : has_name e ≡ true → valid_name (name_of e) ≡ true
  pub parent : has_name e ≡ true → is_directory (entry_at v (parent_of e)) ≡ true
  pub short : length (contents_of e) ≤ 1024 * b
  pub alone : has_name e ≡ true → (i : ℕ) → Named v (parent_of e) (name_of e) i → i ≡ o
  pub keeps : Keeps v o e

module _ (v : Volume) (o : ℕ) (e : Entry) (inside : o < length v) where
  -- what holds of the new entry and of the others in their places holds of each after the change
  pub after-set : (C : ℕ → Entry → Type 0) → C o e → ((i : ℕ) → (i ≡ o → ⊥) → C i (entry_at v i)) → (i : ℕ) → C i (entry_at (set v o e) i)
  after-set C x y i =
      same_or i o (λ q. subst (λ (j : ℕ). C j (entry_at (set v o e) j)) (sym q) (subst (C o) (sym (entry-set-same v o e inside)) x))
      (λ z. subst (C i) (sym (entry_set_other v o e i z)) (y i z))

  directory-after : (q : ℕ) → is_directory (entry_at v q) ≡ true → (q ≡ o → is_directory e ≡ true) → is_directory (entry_at (set v o e) q) ≡ true
  directory-after q d h =
      same_or q o (λ z. ap (λ (j : ℕ). is_directory (entry_at (set v o e) j)) z ∙ ap is_directory (entry-set-same v o e inside) ∙ h z)
      (λ z. ap is_directory (entry_set_other v o e q z) ∙ d)

  -- a path that does not end at the changed entry does not cross it, if that is nobody's parent
  climb-past : ((i : ℕ) → parent_of (entry_at v i) ≡ o → ⊥) → (i : ℕ) → (i ≡ o → ⊥) → Climb v i → Climb (set v o e) i
  climb-past l i z (here _ q) = here i q
  climb-past l i z (step _ c) =
      step i (subst (Climb (set v o e)) (ap parent_of (sym (entry_set_other v o e i z))) (climb-past l (parent_of (entry_at v i)) (l i) c))

  climb-kept : ((i : ℕ) → parent_of (entry_at (set v o e) i) ≡ parent_of (entry_at v i)) → (i : ℕ) → Climb v i → Climb (set v o e) i
  climb-kept h i (here _ q) = here i q
  climb-kept h i (step _ c) = step i (subst (Climb (set v o e)) (sym (h i)) (climb-kept h (parent_of (entry_at v i)) c))

  climb-after : Keeps v o e → ((i : ℕ) → Climb v i) → (i : ℕ) → Climb (set v o e) i
  climb-after (leaf l own) h i =
      same_or i o
      (λ q. step i (subst (Climb (set v o e)) (sym (ap (λ (j : ℕ). parent_of (entry_at (set v o e) j)) q ∙ ap parent_of (entry-set-same v o e inside))) (climb-past l (parent_of e) own (h (parent_of e)))))
      (λ z. climb-past l i z (h i))
  climb-after (place d p) h i =
      climb-kept (after-set (λ j x. parent_of x ≡ parent_of (entry_at v j)) p (λ j z. refl)) i (h i)

  -- what another entry is named after the change it was named before
  pub named-before : (d : ℕ) (m : List ℕ) (i : ℕ) → (i ≡ o → ⊥) → Named (set v o e) d m i → Named v d m i
  named-before d m i z x =
      let q = entry_set_other v o e i z in
      record { other = x.other; named = sym (ap has_name q) ∙ x.named; parent = sym (ap parent_of q) ∙ x.parent; name = ap (λ (y : Entry). same_name (name_of y) m) (sym q) ∙ x.name }

  -- A change at one entry of a well-formed volume leaves it well-formed, if the new entry fits.
  pub set-sound : (n b : ℕ) → Sound n b v → (o ≡ 0 → ⊥) → Placeable b v o e → Sound n b (set v o e)
  set-sound n b s z f =
      record {
        size = length-set v o e ∙ s.size;
        root = entry_set_other v o e 0 (λ q. z (sym q)) ∙ s.root;
        name = after-set (λ i x. (i ≡ 0 → ⊥) → has_name x ≡ true → valid_name (name_of x) ≡ true) (λ y u. f.name u) (λ i y. s.name i);
        parent = after-set (λ i x. (i ≡ 0 → ⊥) → has_name x ≡ true → is_directory (entry_at (set v o e) (parent_of x)) ≡ true)
            (λ y u. directory-after (parent_of e) (f.parent u) (own f.keeps))
            (λ i y w u. directory-after (parent_of (entry_at v i)) (s.parent i w u) (others f.keeps i));
        leads = climb-after f.keeps s.leads;
        short = after-set (λ i x. length (contents_of x) ≤ 1024 * b) f.short (λ i y. s.short i);
        one = λ d m i j x y.
            same_or i o (λ p. same_or j o (λ q. p ∙ sym q) (λ q. p ∙ sym (only d m (subst (Named (set v o e) d m) p x) j (named-before d m j q y))))
            (λ p. same_or j o (λ q. only d m (subst (Named (set v o e) d m) q y) i (named-before d m i p x) ∙ sym q) (λ q. s.one d m i j (named-before d m i p x) (named-before d m j q y)));
      }
    where
      own : Keeps v o e → parent_of e ≡ o → is_directory e ≡ true
      own (leaf l h) q = absurd (h q)
      own (place d p) q = d

      others : Keeps v o e → (i : ℕ) → parent_of (entry_at v i) ≡ o → is_directory e ≡ true
      others (leaf l h) i q = absurd (l i q)
      others (place d p) i q = d

      only : (d : ℕ) (m : List ℕ) → Named (set v o e) d m o → (i : ℕ) → Named v d m i → i ≡ o
      only d m x i y =
          let q = entry-set-same v o e inside in
          f.alone (sym (ap has_name q) ∙ x.named) i
          (record { other = y.other; named = y.named; parent = y.parent ∙ sym x.parent ∙ ap parent_of q; name = same-trans (name_of (entry_at v i)) m (name_of e) y.name (same-sym (name_of e) m (ap (λ (y : Entry). same_name (name_of y) m) (sym q) ∙ x.name)) })
