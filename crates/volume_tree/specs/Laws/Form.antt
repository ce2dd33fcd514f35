-- What the tests of a well-formed volume say, with no test in it: each number below a bound, the lowest that passes, and
-- each entry's place.
-- Assumes nothing.
use Rattle.std.specs.Prelude.{ℕ, zero, suc, ◌*◌, ◌≤◌, ◌<◌, ◌≡◌, refl, Bool, true, false, not, ◌&&◌, ◌||◌, cond, [], ◌∷◌, length, leb, eqb}
use Rattle.std.proofs.Common.{arith, sym, ap, ◌∙◌, le-leb, leb-true, eq-eqb, ne_eqb, eqb-true}
use Rattle.std.proofs.Math.Bool.{and-eq-true_iff}
use Rattle.std.proofs.lemmas.Bool.{false≢true, eqb-false, not-true}
use Rattle.std.specs.Prelude.{Option, None, Some}
use Rattle.buffer.specs.Laws.Test.{or-other}
use Rattle.names.specs.Name.{permitted_byte, all_permitted, is_dots, good_text, valid_name, lower_case, same_name}
use Rattle.volume_entry.specs.Entry.{Entry, file, directory, root, is_directory, has_name, name_of, parent_of, contents_of}
use Rattle.volume_entry.specs.Stored.{same_bytes}
use Rattle.volume_entry.specs.Laws.Entry.{same-entry, entry-same}
use Rattle.volume_tree.specs.Volume.{Volume, entry_at, every, lowest}
use Rattle.volume_tree.specs.Form.{climbs, is_root, in_tree, placed, twins, apart, well_formed}

-- a test that passes wherever another does
pub implies : (a b : Bool) → (a ≡ true → b ≡ true) → not a || b ≡ true
implies true b h = h refl
implies false b h = refl

-- What a test says of each number below a bound and of the bound, it says of each below the next bound.
pub up_to : (k : ℕ) (f : ℕ → Bool) (b : Bool) → ((i : ℕ) → i < k → f i ≡ b) → f k ≡ b → (i : ℕ) → i < suc k → f i ≡ b
up_to k f b h t i l = go (eqb i k) refl
  where
    go : (c : Bool) → eqb i k ≡ c → f i ≡ b
    go true e = ap f (eqb-true i k e) ∙ t
    go false e = let d = eqb-false i k e in h i (omega arith)

-- If every number below a bound passes a test, so does each.
pub every-inv : (k : ℕ) (f : ℕ → Bool) → every k f ≡ true → (i : ℕ) → i < k → f i ≡ true
unfolding every
every-inv zero f e i h = absurd (omega arith)
every-inv (suc k) f e i h =
    let both = (and-eq-true_iff (every k f) (f k)).0 e in
    up_to k f true (every-inv k f both.0) both.1 i h

-- If each number below a bound passes a test, every one does.
pub every-intro : (k : ℕ) (f : ℕ → Bool) → ((i : ℕ) → i < k → f i ≡ true) → every k f ≡ true
unfolding every
every-intro zero f h = refl
every-intro (suc k) f h =
    (and-eq-true_iff (every k f) (f k)).1 (every-intro k f (λ i l. h i (omega arith)), h k (omega arith))

-- If one number below a bound fails a test, not every one passes.
pub every-not : (k : ℕ) (f : ℕ → Bool) (i : ℕ) → i < k → f i ≡ false → every k f ≡ false
every-not k f i h t = go (every k f) refl
  where
    go : (b : Bool) → every k f ≡ b → every k f ≡ false
    go true e = absurd (false≢true (sym t ∙ every-inv k f e i h))
    go false e = e

-- What is found below a bound is found below the next.
lowest-on : (k : ℕ) (f : ℕ → Bool) (i : ℕ) → lowest k f ≡ Some i → lowest (suc k) f ≡ Some i
unfolding lowest
lowest-on k f i e = rw e

-- If nothing is found below a bound, the bound itself is tested.
lowest-new : (k : ℕ) (f : ℕ → Bool) (b : Bool) → lowest k f ≡ None → f k ≡ b → lowest (suc k) f ≡ cond b (Some k) None
unfolding lowest
lowest-new k f b e t = rw (e, t)

-- Nothing and something are not the same.
none-some : (i : ℕ) → ◌≡◌ {A = Option ℕ} None (Some i) → ⊥
none-some i e = let y : ◌≡◌ {A = ℕ} 0 1 = cc in omega arith

-- If nothing is found, no number below the bound passes.
pub lowest-none : (k : ℕ) (f : ℕ → Bool) → lowest k f ≡ None → (i : ℕ) → i < k → f i ≡ false
lowest-none zero f e i h = absurd (omega arith)
lowest-none (suc k) f e i h = go (lowest k f) (f k) refl refl (lowest-none k f)
  where
    go : (o : Option ℕ) (b : Bool) → lowest k f ≡ o → f k ≡ b → (lowest k f ≡ None → (j : ℕ) → j < k → f j ≡ false) → f i ≡ false
    go None true l t ih = absurd (none-some k (sym e ∙ lowest-new k f true l t))
    go None false l t ih = up_to k f false (ih l) t i h
    go (Some j) b l t ih = absurd (none-some j (sym e ∙ lowest-on k f j l))

-- What is found lies below the bound and passes, and nothing below it does.
pub lowest-some : (k : ℕ) (f : ℕ → Bool) (i : ℕ) → lowest k f ≡ Some i → (i < k) × (f i ≡ true) × ((j : ℕ) → j < i → f j ≡ false)
unfolding lowest
lowest-some zero f i e = absurd (none-some i e)
lowest-some (suc k) f i e = go (lowest k f) (f k) refl refl (lowest-some k f i)
  where
    go : (o : Option ℕ) (b : Bool) → lowest k f ≡ o → f k ≡ b
        → (lowest k f ≡ Some i → (i < k) × (f i ≡ true) × ((j : ℕ) → j < i → f j ≡ false))
        → (i < suc k) × (f i ≡ true) × ((j : ℕ) → j < i → f j ≡ false)
    go None true l t ih =
        let z : ◌≡◌ {A = Option ℕ} (Some i) (Some k) = sym e ∙ lowest-new k f true l t in
        let q : i ≡ k = cc in
        (omega arith, ap f q ∙ t, λ j h. lowest-none k f l j (omega arith))
    go None false l t ih = absurd (none-some i (sym (lowest-new k f false l t) ∙ e))
    go (Some j) b l t ih =
        let z : ◌≡◌ {A = Option ℕ} (Some j) (Some i) = sym (lowest-on k f j l) ∙ e in
        let r = ih (l ∙ z) in
        (omega (arith, r.0), r.1, r.2)

-- If no number below a bound passes, nothing is found.
pub none-lowest : (k : ℕ) (f : ℕ → Bool) → ((i : ℕ) → i < k → f i ≡ false) → lowest k f ≡ None
unfolding lowest
none-lowest zero f h = refl
none-lowest (suc k) f h = lowest-new k f false (none-lowest k f (λ i l. h i (omega arith))) (h k (omega arith))

-- If a number below a bound passes and no lower one does, it is found.
pub some-lowest : (k : ℕ) (f : ℕ → Bool) (i : ℕ) → i < k → f i ≡ true → ((j : ℕ) → j < i → f j ≡ false) → lowest k f ≡ Some i
some-lowest zero f i h t l = absurd (omega arith)
some-lowest (suc k) f i h t l = go (eqb i k) refl (λ m. some-lowest k f i m t l)
  where
    go : (b : Bool) → eqb i k ≡ b → (i < k → lowest k f ≡ Some i) → lowest (suc k) f ≡ Some i
    go true e ih =
        let q : i ≡ k = eqb-true i k e in
        lowest-new k f true (none-lowest k f (λ j m. l j (omega arith))) (ap f (sym q) ∙ t) ∙ ap Some (sym q)
    go false e ih = let d = eqb-false i k e in lowest-on k f i (ih (omega arith))

-- What passes the test of the root is a directory with an empty name and parent 0.
pub root_is : (e : Entry) → is_root e ≡ true → e ≡ root
root_is e t = same-entry e root t

-- What is asked of an entry with a name, other than the root: a valid name, a used directory as parent, parents that lead to 0.
pub record InTree (v : Volume) (i : ℕ) (e : Entry) : Type 0 where
  pub name : valid_name (name_of e) ≡ true
  pub parent : is_directory (entry_at v (parent_of e)) ≡ true
  pub leads : climbs (length v) v i ≡ true

-- An entry that passes the test of its place has a length that fits and, with a name, what is asked of it.
pub placed-inv : (b : ℕ) (v : Volume) (i : ℕ) (e : Entry) → placed b v i e ≡ true → (length (contents_of e) ≤ 1024 * b) × (has_name e ≡ true → InTree v i e)
unfolding placed
placed-inv b v i e t = (leb-true (length (contents_of e)) (1024 * b) a.0, named)
  where
    a : (leb (length (contents_of e)) (1024 * b) ≡ true) × (not (has_name e) || in_tree v i e ≡ true)
    a = (and-eq-true_iff (leb (length (contents_of e)) (1024 * b)) (not (has_name e) || in_tree v i e)).0 t

    named : has_name e ≡ true → InTree v i e
    named u =
        let c = (and-eq-true_iff (valid_name (name_of e)) (is_directory (entry_at v (parent_of e)) && climbs (length v) v i)).0 (or-other (not (has_name e)) (in_tree v i e) (ap not u) a.1) in
        let d = (and-eq-true_iff (is_directory (entry_at v (parent_of e))) (climbs (length v) v i)).0 c.1 in
        record { name = c.0; parent = d.0; leads = d.1 }

-- An entry that has these passes the test of its place.
pub placed-intro : (b : ℕ) (v : Volume) (i : ℕ) (e : Entry) → length (contents_of e) ≤ 1024 * b → (has_name e ≡ true → InTree v i e) → placed b v i e ≡ true
unfolding placed
placed-intro b v i e h f =
    rw (le-leb (length (contents_of e)) (1024 * b) h) (implies (has_name e) (in_tree v i e) (λ u. let t = f u in rw (t.name, t.parent, t.leads)))

-- A well-formed volume: n entries, the root first, each other entry in its place, and no two of one parent and name.
pub record Good (n b : ℕ) (v : Volume) : Type 0 where
  pub size : length v ≡ n
  pub root : entry_at v 0 ≡ root
  pub each : (i : ℕ) → i < length v → (i ≡ 0 → ⊥) → placed b v i (entry_at v i) ≡ true
  pub apart : (i j : ℕ) → i < length v → j < length v → (i ≡ j → ⊥) → twins v i j ≡ false

-- An equation or another test passes if the test passes wherever the two numbers differ.
or-differs : (i j : ℕ) (y : Bool) → ((i ≡ j → ⊥) → y ≡ true) → (eqb i j || y) ≡ true
or-differs i j y h = go (eqb i j) refl
  where
    go : (x : Bool) → eqb i j ≡ x → (x || y) ≡ true
    go true e = refl
    go false e = h (eqb-false i j e)

-- A volume that passes the test is well-formed.
pub well-formed-inv : (n b : ℕ) (v : Volume) → well_formed n b v ≡ true → Good n b v
unfolding well_formed apart
well-formed-inv n b v t =
    let f₁ : ℕ → Bool = λ i. eqb i 0 || placed b v i (entry_at v i) in
    let f₂ : ℕ → ℕ → Bool = λ i j. eqb i j || not (twins v i j) in
    let a = (and-eq-true_iff (eqb (length v) n) (is_root (entry_at v 0) && (every (length v) f₁ && apart v))).0 t in
    let d = (and-eq-true_iff (is_root (entry_at v 0)) (every (length v) f₁ && apart v)).0 a.1 in
    let g = (and-eq-true_iff (every (length v) f₁) (apart v)).0 d.1 in
    record {
      size = eqb-true (length v) n a.0;
      root = root_is (entry_at v 0) d.0;
      each = λ i h z. or-other (eqb i 0) (placed b v i (entry_at v i)) (ne_eqb i 0 z) (every-inv (length v) f₁ g.0 i h);
      apart = λ i j h k z.
          not-true (twins v i j)
          (or-other (eqb i j) (not (twins v i j)) (ne_eqb i j z)
          (every-inv (length v) (f₂ i) (every-inv (length v) (λ i. every (length v) (f₂ i)) g.1 i h) j k));
    }

-- A well-formed volume passes the test.
pub good-well-formed : (n b : ℕ) (v : Volume) → Good n b v → well_formed n b v ≡ true
unfolding well_formed apart
good-well-formed n b v g =
    let f₁ : ℕ → Bool = λ i. eqb i 0 || placed b v i (entry_at v i) in
    let f₂ : ℕ → ℕ → Bool = λ i j. eqb i j || not (twins v i j) in
    let r : is_root (entry_at v 0) ≡ true = ap is_root g.root ∙ entry-same root in
    let e : every (length v) f₁ ≡ true =
    every-intro (length v) f₁ (λ i h. or-differs i 0 (placed b v i (entry_at v i)) (λ z. g.each i h z)) in
    let a : every (length v) (λ i. every (length v) (f₂ i)) ≡ true =
    every-intro (length v) (λ i. every (length v) (f₂ i)) (λ i h.
    every-intro (length v) (f₂ i) (λ j k. or-differs i j (not (twins v i j)) (λ z. ap not (g.apart i j h k z)))) in
    (and-eq-true_iff (eqb (length v) n) (is_root (entry_at v 0) && (every (length v) f₁ && apart v))).1 (
      eq-eqb (length v) n g.size,
      (and-eq-true_iff (is_root (entry_at v 0)) (every (length v) f₁ && apart v)).1
          (r, (and-eq-true_iff (every (length v) f₁) (apart v)).1 (e, a)),
    )

-- Document 02, K2: "Task" and "task" stand in two directories, but not in one, be they files or directories; "@" and "`" stand in one.
pub form-examples :
    (well_formed 3 1 (root ∷ file (84 ∷ 97 ∷ 115 ∷ 107 ∷ []) 0 [] ∷ file (116 ∷ 97 ∷ 115 ∷ 107 ∷ []) 0 [] ∷ []) ≡ false)
    × (well_formed 3 1 (root ∷ file (84 ∷ 97 ∷ 115 ∷ 107 ∷ []) 0 [] ∷ directory (116 ∷ 97 ∷ 115 ∷ 107 ∷ []) 0 ∷ []) ≡ false)
    × (well_formed 3 1 (root ∷ directory (84 ∷ 97 ∷ 115 ∷ 107 ∷ []) 0 ∷ file (116 ∷ 97 ∷ 115 ∷ 107 ∷ []) 1 [] ∷ []) ≡ true)
    × (well_formed 3 1 (root ∷ file (64 ∷ []) 0 [] ∷ file (96 ∷ []) 0 [] ∷ []) ≡ true)
unfolding well_formed apart placed climbs every valid_name good_text is_dots all_permitted permitted_byte same_name lower_case same_bytes
form-examples = (refl, refl, refl, refl)
