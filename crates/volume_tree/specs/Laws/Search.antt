-- The entries of a volume after a change at one of them, and what the search of a name finds.
-- Assumes nothing.
use Rattle.std.specs.Prelude.{ℕ, ◌<◌, ◌≡◌, refl, Bool, true, false, not, ◌&&◌, List, length, set, ltb, eqb}
use Rattle.std.proofs.Common.{arith, sym, ap, ◌∙◌, length-set, get_or-set_same, get_or-set_other, ltb-true, ltb-false, eq-eqb, ne_eqb, eqb-true}
use Rattle.std.proofs.Math.Bool.{and-eq-true_iff}
use Rattle.std.proofs.lemmas.Bool.{false≢true, eqb-false, not-true}
use Rattle.std.specs.Prelude.{Option, None, Some}
use Rattle.std.proofs.Math.ListN.{get_or-eq_default}
use Rattle.volume_entry.specs.Laws.Entry.{file-used, directory-used, named-used}
use Rattle.names.specs.Name.{same_name}
use Rattle.names.proofs.Laws.Name.{same-either}
use Rattle.volume_entry.specs.Entry.{Entry, free, is_used, is_file, is_directory, has_name, name_of, parent_of}
use Rattle.volume_tree.specs.Volume.{Volume, entry_at, every, lowest, is_child, is_named, search, has_children}
use Rattle.volume_tree.specs.Laws.Form.{every-inv, every-intro, every-not, lowest-none, lowest-some, none-lowest, some-lowest}

-- an entry that is set is what it was set to
pub entry-set-same : (v : Volume) (o : ℕ) (e : Entry) → o < length v → entry_at (set v o e) o ≡ e
entry-set-same v o e h = get_or-set_same v o e free h

-- the others stay
pub entry_set_other : (v : Volume) (o : ℕ) (e : Entry) (i : ℕ) → (i ≡ o → ⊥) → entry_at (set v o e) i ≡ entry_at v i
entry_set_other v o e i h = get_or-set_other v o i e free h

-- a used entry is no entry past the end
pub used-below : (v : Volume) (i : ℕ) → is_used (entry_at v i) ≡ true → i < length v
used-below v i u = go (ltb i (length v)) refl
  where
    go : (b : Bool) → ltb i (length v) ≡ b → i < length v
    go true e = ltb-true i (length v) e
    go false e = absurd (false≢true (sym (ap is_used (get_or-eq_default v free (ltb-false i (length v) e))) ∙ u))

-- a file is no entry past the end
pub file-below : (v : Volume) (o : ℕ) → is_file (entry_at v o) ≡ true → o < length v
file-below v o t = used-below v o (file-used (entry_at v o) t)

-- a directory is no entry past the end
pub directory-below : (v : Volume) (o : ℕ) → is_directory (entry_at v o) ≡ true → o < length v
directory-below v o t = used-below v o (directory-used (entry_at v o) t)

-- what has a name is no entry past the end
pub named-below : (v : Volume) (i : ℕ) → has_name (entry_at v i) ≡ true → i < length v
named-below v i t = used-below v i (named-used (entry_at v i) t)

-- an entry has a name in a directory, with no test in it
pub record Named (v : Volume) (d : ℕ) (n : List ℕ) (i : ℕ) : Type 0 where
  pub other : i ≡ 0 → ⊥
  pub named : has_name (entry_at v i) ≡ true
  pub parent : parent_of (entry_at v i) ≡ d
  pub name : same_name (name_of (entry_at v i)) n ≡ true

-- an entry with a name, other than the root, is a child of its parent
pub child-intro : (v : Volume) (d i : ℕ) → (i ≡ 0 → ⊥) → has_name (entry_at v i) ≡ true → parent_of (entry_at v i) ≡ d → is_child v d i ≡ true
child-intro v d i z u p = rw (ne_eqb i 0 z, u, eq-eqb (parent_of (entry_at v i)) d p)

-- the test of a name in a directory says that the entry has it
pub named-inv : (v : Volume) (d : ℕ) (n : List ℕ) (i : ℕ) → is_named v d n i ≡ true → Named v d n i
named-inv v d n i t =
    let a = (and-eq-true_iff (is_child v d i) (same_name (name_of (entry_at v i)) n)).0 t in
    let c = (and-eq-true_iff (not (eqb i 0)) (has_name (entry_at v i) && eqb (parent_of (entry_at v i)) d)).0 a.0 in
    let u = (and-eq-true_iff (has_name (entry_at v i)) (eqb (parent_of (entry_at v i)) d)).0 c.1 in
    record {
      other = eqb-false i 0 (not-true (eqb i 0) c.0);
      named = u.0;
      parent = eqb-true (parent_of (entry_at v i)) d u.1;
      name = a.1;
    }

-- an entry that has the name in the directory passes the test
pub named-intro : (v : Volume) (d : ℕ) (n : List ℕ) (i : ℕ) → Named v d n i → is_named v d n i ≡ true
named-intro v d n i h =
    (and-eq-true_iff (is_child v d i) (same_name (name_of (entry_at v i)) n)).1
    (child-intro v d i h.other h.named h.parent, h.name)

-- what is found has the name in the directory
pub search-found : (v : Volume) (d : ℕ) (n : List ℕ) (i : ℕ) → search v d n ≡ Some i → (is_named v d n i ≡ true) × (i < length v)
unfolding search
search-found v d n i e = let r = lowest-some (length v) (is_named v d n) i e in (r.1, r.0)

-- where nothing is found, nothing has the name in the directory
pub search-none : (v : Volume) (d : ℕ) (n : List ℕ) → search v d n ≡ None → (i : ℕ) → i < length v → is_named v d n i ≡ false
unfolding search
search-none v d n e i h = lowest-none (length v) (is_named v d n) e i h

-- where nothing has the name in the directory, nothing is found
pub none-search : (v : Volume) (d : ℕ) (n : List ℕ) → ((i : ℕ) → i < length v → is_named v d n i ≡ false) → search v d n ≡ None
unfolding search
none-search v d n h = none-lowest (length v) (is_named v d n) h

-- what has the name in the directory, and nothing before it, is found
pub search-at : (v : Volume) (d : ℕ) (n : List ℕ) (i : ℕ) → i < length v → is_named v d n i ≡ true → ((j : ℕ) → j < i → is_named v d n j ≡ false)
    → search v d n ≡ Some i
unfolding search
search-at v d n i h t l = some-lowest (length v) (is_named v d n) i h t l

-- two tests that agree below a bound find the same
pub lowest-same : (k : ℕ) (f g : ℕ → Bool) → ((i : ℕ) → i < k → f i ≡ g i) → lowest k f ≡ lowest k g
lowest-same k f g h = go (lowest k f) refl
  where
    go : (x : Option ℕ) → lowest k f ≡ x → lowest k f ≡ lowest k g
    go None e = e ∙ sym (none-lowest k g (λ i l. sym (h i l) ∙ lowest-none k f e i l))
    go (Some i) e =
        let r = lowest-some k f i e in
        let l : i < k = r.0 in
        e ∙ sym (some-lowest k g i l (sym (h i l) ∙ r.1) (λ j m. sym (h j (omega arith)) ∙ r.2 j m))

-- a name leads where every spelling of it leads
pub search-spelling : (v : Volume) (d : ℕ) (n m : List ℕ) → same_name n m ≡ true → search v d n ≡ search v d m
unfolding search
search-spelling v d n m e = lowest-same (length v) (is_named v d n) (is_named v d m) (λ i l. ap (λ (t : Bool). is_child v d i && t) (same-either n m e (name_of (entry_at v i))))

-- a change at one entry leaves the search of a name as it was, if that entry has the name there after it exactly if it had it
pub search-set : (v : Volume) (o : ℕ) (e : Entry) (d : ℕ) (n : List ℕ) → is_named (set v o e) d n o ≡ is_named v d n o → search (set v o e) d n ≡ search v d n
unfolding search
search-set v o e d n h =
    ap (λ (k : ℕ). lowest k (is_named (set v o e) d n)) (length-set v o e) ∙ lowest-same (length v) (is_named (set v o e) d n) (is_named v d n) (λ i l. go i (eqb i o) refl)
  where
    go : (i : ℕ) (b : Bool) → eqb i o ≡ b → is_named (set v o e) d n i ≡ is_named v d n i
    go i true t = rw (eqb-true i o t) h
    go i false t = rw (entry_set_other v o e i (eqb-false i o t))

-- an entry without children is nobody's parent
pub childless : (v : Volume) (d : ℕ) → not (has_children v d) ≡ true → (i : ℕ) → i < length v → is_child v d i ≡ false
unfolding has_children
childless v d t i h =
    not-true (is_child v d i)
    (every-inv (length v) (λ i. not (is_child v d i)) (go (every (length v) (λ i. not (is_child v d i))) t) i h)
  where
    go : (b : Bool) → not (not b) ≡ true → b ≡ true
    go true e = refl
    go false e = e

-- a child makes a directory one that has children
pub child-children : (v : Volume) (d i : ℕ) → i < length v → is_child v d i ≡ true → has_children v d ≡ true
unfolding has_children
child-children v d i h t = ap not (every-not (length v) (λ i. not (is_child v d i)) i h (ap not t))

-- an entry that is nobody's parent has no children
pub no-children : (v : Volume) (d : ℕ) → ((i : ℕ) → i < length v → is_child v d i ≡ false) → has_children v d ≡ false
unfolding has_children
no-children v d h = ap not (every-intro (length v) (λ i. not (is_child v d i)) (λ i l. ap not (h i l)))
