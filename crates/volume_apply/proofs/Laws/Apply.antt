-- Document 01, "Calls" and "Returned numbers": an operation that applies to a well-formed volume leaves a well-formed one.
-- Assumes nothing.
use Rattle.std.specs.Prelude.{ℕ, ◌+◌, ◌*◌, ◌≤◌, ◌<◌, ◌≡◌, refl, Bool, true, false, not, ◌&&◌, ◌||◌, List, [], ◌++◌, length, set, leb, ltb, eqb}
use Rattle.std.proofs.Common.{arith, sym, ap, ◌∙◌, length-append, length-set, leb-true, ltb-true, eqb-true}
use Rattle.std.proofs.Math.Bool.{and-eq-true_iff}
use Rattle.std.proofs.lemmas.Bool.{false≢true, eqb-false, not-true}
use Rattle.std.specs.Prelude.{Option, None, Some}
use Rattle.names.specs.Name.{valid_name, same_name}
use Rattle.names.proofs.Laws.Name.{same_refl}
use Rattle.record.specs.Operation.{Operation, create_file, make_directory, remove, rename, overwrite, append, set_length, forder, Record, map_of, operands}
use Rattle.record.specs.Fields.{parts, stands_in, if_stands, differing, tied, valid, all_below, fits}
use Rattle.buffer.specs.Patch.{patch}
use Rattle.record.proofs.Laws.Record.{valid-inv}
use Rattle.volume_entry.specs.Entry.{Entry, free, file, directory, is_used, is_file, is_directory, has_name, name_of, parent_of, contents_of, renamed, refilled, kind_number}
use Rattle.volume_tree.specs.Volume.{Volume, entry_at, search, has_children}
use Rattle.volume_tree.specs.Form.{well_formed}
use Rattle.volume_entry.specs.Write.{resized}
use Rattle.volume_entry.specs.Laws.Entry.{renamed-name, renamed-parent, renamed-kind, renamed-contents, refilled-name, refilled-parent, refilled-kind, refilled-contents, file-no-directory, unused-free}
use Rattle.volume_entry.specs.Laws.Field.{alike-file, alike-directory, alike-name}
use Rattle.volume_entry.specs.Laws.Write.{length-patch, resized-length}
use Rattle.volume_apply.specs.Apply.{is_absent, is_at, leads, has_room, stays, displaceable, yields, applies, apply}
use Rattle.volume_tree.specs.Laws.Search.{entry-set-same, entry_set_other, file-below, named-below, Named, child-intro, named-inv, named-intro, search-found, search-none, childless}
use Rattle.volume_tree.specs.Laws.Change.{same_or, Sound, well-formed-sound, sound-well-formed, child-named, no-directory, Keeps, leaf, place, named-before, set-sound}

absent_none : (x : Option ℕ) → is_absent x ≡ true → x ≡ None
absent_none None t = refl
absent_none (Some i) t = absurd (false≢true t)

at_some : (o : ℕ) (x : Option ℕ) → is_at o x ≡ true → x ≡ Some o
at_some o None t = absurd (false≢true t)
at_some o (Some i) t = ap Some (eqb-true i o t)

-- what a name leads to has that name in that directory
pub leads-named : (v : Volume) (p : ℕ) (n : List ℕ) (o : ℕ) → leads v p n o ≡ true → (is_directory (entry_at v p) ≡ true) × Named v p n o
leads-named v p n o t =
    let a = (and-eq-true_iff (is_directory (entry_at v p)) (is_at o (search v p n))).0 t in
    (a.0, named-inv v p n o (search-found v p n o (at_some o (search v p n) a.1)).0)

module _ (n b : ℕ) (v : Volume) (s : Sound n b v) where
  not_root : (o : ℕ) → is_directory (entry_at v o) ≡ false → o ≡ 0 → ⊥
  not_root o f q = false≢true (sym f ∙ ap (λ (j : ℕ). is_directory (entry_at v j)) q ∙ ap is_directory s.root)

  differ : (p o : ℕ) → is_directory (entry_at v p) ≡ true → is_directory (entry_at v o) ≡ false → p ≡ o → ⊥
  differ p o d f q = false≢true (sym f ∙ ap (λ (j : ℕ). is_directory (entry_at v j)) (sym q) ∙ d)

  -- nothing has a name that is absent
  absent : (p : ℕ) (m : List ℕ) → search v p m ≡ None → (i : ℕ) → Named v p m i → ⊥
  absent p m e i x = false≢true (sym (search-none v p m e i (named-below v i x.named)) ∙ named-intro v p m i x)

  -- nothing but what it leads to has a name
  found-only : (p : ℕ) (m : List ℕ) (d : ℕ) → is_at d (search v p m) ≡ true → (i : ℕ) → Named v p m i → i ≡ d
  found-only p m d t i x = s.one p m i d x (named-inv v p m d (search-found v p m d (at_some d (search v p m) t)).0)

  -- a file or a directory made at a free number
  new-sound : (o p : ℕ) (m : List ℕ) → has_room v o p m ≡ true → valid_name m ≡ true
      → (e : Entry) → name_of e ≡ m → parent_of e ≡ p → contents_of e ≡ [] → Sound n b (set v o e)
  new-sound o p m t w e en ep ec =
      let a = (and-eq-true_iff (is_directory (entry_at v p)) (is_absent (search v p m) && (ltb o (length v) && not (is_used (entry_at v o))))).0 t in
      let c = (and-eq-true_iff (is_absent (search v p m)) (ltb o (length v) && not (is_used (entry_at v o)))).0 a.1 in
      let d = (and-eq-true_iff (ltb o (length v)) (not (is_used (entry_at v o)))).0 c.1 in
      let f : is_directory (entry_at v o) ≡ false = ap is_directory (unused-free (entry_at v o) (not-true (is_used (entry_at v o)) d.1)) in
      set-sound v o e (ltb-true o (length v) d.0) n b s (not_root o f)
      (record {
        name = λ u. ap valid_name en ∙ w;
        parent = λ u. ap (λ (j : ℕ). is_directory (entry_at v j)) ep ∙ a.0;
        short = rw ec (omega arith);
        alone = λ u i x. absurd (absent p m (absent_none (search v p m) c.0) i (rw (ep, en) at x));
        keeps = leaf (no-directory n b v s o (not_root o f) f) (λ q. differ p o a.0 f (sym ep ∙ q));
      })

  -- an entry that is nobody's parent freed
  free-sound : (o : ℕ) → o < length v → (o ≡ 0 → ⊥) → ((i : ℕ) → parent_of (entry_at v i) ≡ o → ⊥) → Sound n b (set v o free)
  free-sound o h z l =
      set-sound v o free h n b s z
      (record {
        name = λ u. absurd (false≢true u);
        parent = λ u. absurd (false≢true u);
        short = omega arith;
        alone = λ u. absurd (false≢true u);
        keeps = leaf l (λ q. z (sym q));
      })

  -- an object without children is nobody's parent
  parent-of-none : (o : ℕ) → (o ≡ 0 → ⊥) → not (has_children v o) ≡ true → (i : ℕ) → parent_of (entry_at v i) ≡ o → ⊥
  parent-of-none o z t i p =
      let c = child-named n b v s o z i p in
      false≢true (sym (childless v o t i (named-below v i c.1)) ∙ child-intro v o i c.0 c.1 p)

  -- a file with other contents
  refilled-sound : (o : ℕ) → is_file (entry_at v o) ≡ true → (c : List ℕ) → length c ≤ 1024 * b → Sound n b (set v o (refilled (entry_at v o) c))
  refilled-sound o t c h =
      let e = entry_at v o in
      let f = file-no-directory e t in
      let z = not_root o f in
      let p = refilled-parent e c in
      let m = refilled-name e c in
      let u = alike-name (refilled e c) e (refilled-kind e c) in
      set-sound v o (refilled e c) (file-below v o t) n b s z
      (record {
        name = λ k. rw m (s.name o z (sym u ∙ k));
        parent = λ k. rw p (s.parent o z (sym u ∙ k));
        short = rw (refilled-contents e c t) h;
        alone = λ k i x. s.one (parent_of e) (name_of e) i o (rw (p, m) at x) (record { other = z; named = sym u ∙ k; parent = refl; name = same_refl (name_of e) });
        keeps = leaf (no-directory n b v s o z f) (λ q. no-directory n b v s o z f o (sym p ∙ q));
      })

  -- an object under another name and, if it is a file, perhaps another parent
  renamed-sound : (o p q : ℕ) (k m : List ℕ) → Named v p k o → is_directory (entry_at v q) ≡ true → stays v o p q ≡ true → valid_name m ≡ true
      → ((i : ℕ) → Named v q m i → i ≡ o) → Sound n b (set v o (renamed (entry_at v o) m q))
  renamed-sound o p q k m x d t w h =
      set-sound v o (renamed e m q) (named-below v o x.named) n b s x.other
      (record {
        name = λ j. rw (renamed-name e m q x.named) w;
        parent = λ j. rw to d;
        short = rw (renamed-contents e m q) (s.short o);
        alone = λ j i y. h i (rw (to, renamed-name e m q x.named) at y);
        keeps = keeps (is_directory e) refl t;
      })
    where
      e : Entry
      e = entry_at v o

      to : parent_of (renamed e m q) ≡ q
      to = renamed-parent e m q x.named

      keeps : (r : Bool) → is_directory e ≡ r → not r || eqb p q ≡ true → Keeps v o (renamed e m q)
      keeps false f t = leaf (no-directory n b v s o x.other f) (λ j. differ q o d f (sym to ∙ j))
      keeps true f t = place (alike-directory (renamed e m q) e (renamed-kind e m q) ∙ f) (to ∙ sym (eqb-true p q t) ∙ sym x.parent)

  -- the second name of a rename without a displaced object is absent or leads to the object
  yields-only : (o q : ℕ) (m : List ℕ) → yields v o q None m ≡ true → (i : ℕ) → Named v q m i → i ≡ o
  yields-only o q m t i x = go (search v q m) refl t
    where
      go : (y : Option ℕ) → search v q m ≡ y → is_absent y || is_at o y ≡ true → i ≡ o
      go None e t = absurd (absent q m e i x)
      go (Some j) e t = found-only q m o (ap (is_at o) e ∙ t) i x

-- a rename that displaces an object of the second name
displaced-sound : (n b : ℕ) (v : Volume) → Sound n b v → (o p q d : ℕ) (k m : List ℕ) → (o ≡ d → ⊥) → Named v p k o → is_directory (entry_at v q) ≡ true
    → stays v o p q ≡ true → valid_name m ≡ true → yields v o q (Some d) m ≡ true → Sound n b (set (set v d free) o (renamed (entry_at v o) m q))
displaced-sound n b v s o p q d k m z x t w h y =
    let a = (and-eq-true_iff (is_at d (search v q m)) (eqb (kind_number (entry_at v d)) (kind_number (entry_at v o)) && not (has_children v d))).0 y in
    let c = (and-eq-true_iff (eqb (kind_number (entry_at v d)) (kind_number (entry_at v o))) (not (has_children v d))).0 a.1 in
    let g : Named v q m d = named-inv v q m d (search-found v q m d (at_some d (search v q m) a.0)).0 in
    let l = parent-of-none n b v s d g.other c.1 in
    let below = named-below v d g.named in
    let e : entry_at (set v d free) o ≡ entry_at v o = entry_set_other v d free o z in
    let r : is_directory (entry_at (set v d free) q) ≡ true = ap is_directory (entry_set_other v d free q (λ j. l d (g.parent ∙ j))) ∙ t in
    let only : (i : ℕ) → Named (set v d free) q m i → i ≡ o =
    λ i u.
    same_or i d (λ j. absurd (false≢true (sym (ap has_name (ap (entry_at (set v d free)) j ∙ entry-set-same v d free below)) ∙ u.named)))
    (λ j. absurd (j (found-only n b v s q m d a.0 i (named-before v d free below q m i j u)))) in
    rw e at
    (renamed-sound n b (set v d free) (free-sound n b v s d below g.other l) o p q k m
    (record { other = x.other; named = ap has_name e ∙ x.named; parent = ap parent_of e ∙ x.parent; name = ap (λ (y : Entry). same_name (name_of y) k) e ∙ x.name }) r
    (ap (λ (y : Entry). not (is_directory y) || eqb p q) e ∙ w) h only)

-- A volume is well formed without the object that a rename displaces.
pub displaced-good : (n b : ℕ) (v : Volume) → well_formed n b v ≡ true → (o q d : ℕ) (m : List ℕ) → yields v o q (Some d) m ≡ true
    → (d < length v) × (well_formed n b (set v d free) ≡ true)
displaced-good n b v w o q d m y =
    let s = well-formed-sound n b v w in
    let a = (and-eq-true_iff (is_at d (search v q m)) (displaceable v o d)).0 y in
    let c = (and-eq-true_iff (eqb (kind_number (entry_at v d)) (kind_number (entry_at v o))) (not (has_children v d))).0 a.1 in
    let g : Named v q m d = named-inv v q m d (search-found v q m d (at_some d (search v q m) a.0)).0 in
    let below = named-below v d g.named in
    (below, sound-well-formed n b (set v d free) (free-sound n b v s d below g.other (parent-of-none n b v s d g.other c.1)))

-- by kind, from what is asked of the fields of a valid record that fits
applied-sound : (n b : ℕ) (v : Volume) → Sound n b v → (x : Operation)
    → if_stands (stands_in (map_of x) 16) (valid_name (parts x).name) ≡ true
    → if_stands (stands_in (map_of x) 32) (valid_name (parts x).second_name) ≡ true
    → tied (map_of x) (parts x) ≡ true
    → (parts x).offset + length (parts x).block ≤ 1024 * b
    → applies v x ≡ true → Sound n b (apply v x)
unfolding applies apply tied differing
applied-sound n b v s (create_file o p m) w k t f a = new-sound n b v s o p m a w (file m p []) refl refl refl
applied-sound n b v s (make_directory o p m) w k t f a = new-sound n b v s o p m a w (directory m p) refl refl refl
applied-sound n b v s (remove o p m) w k t f a =
    let c = (and-eq-true_iff (leads v p m o) (not (has_children v o))).0 a in
    let x = (leads-named v p m o c.0).1 in
    free-sound n b v s o (named-below v o x.named) x.other (parent-of-none n b v s o x.other c.1)
applied-sound n b v s (rename o p q None m l) w k t f a =
    let c = (and-eq-true_iff (leads v p m o) (is_directory (entry_at v q) && (stays v o p q && yields v o q None l))).0 a in
    let d = (and-eq-true_iff (is_directory (entry_at v q)) (stays v o p q && yields v o q None l)).0 c.1 in
    let g = (and-eq-true_iff (stays v o p q) (yields v o q None l)).0 d.1 in
    renamed-sound n b v s o p q m l (leads-named v p m o c.0).1 d.0 g.0 k (yields-only n b v s o q l g.1)
applied-sound n b v s (rename o p q (Some e) m l) w k t f a =
    let c = (and-eq-true_iff (leads v p m o) (is_directory (entry_at v q) && (stays v o p q && yields v o q (Some e) l))).0 a in
    let d = (and-eq-true_iff (is_directory (entry_at v q)) (stays v o p q && yields v o q (Some e) l)).0 c.1 in
    let g = (and-eq-true_iff (stays v o p q) (yields v o q (Some e) l)).0 d.1 in
    let z = eqb-false o e (not-true (eqb o e) ((and-eq-true_iff (not (eqb o e)) _).0 t).0) in
    displaced-sound n b v s o p q e m l z (leads-named v p m o c.0).1 d.0 g.0 k g.1
applied-sound n b v s (overwrite o f c) w k t h a =
    let d = (and-eq-true_iff (is_file (entry_at v o)) (leb (f + length c) (length (contents_of (entry_at v o))))).0 a in
    refilled-sound n b v s o d.0 (patch (contents_of (entry_at v o)) f c)
    (rw (length-patch (contents_of (entry_at v o)) f c (leb-true (f + length c) _ d.1)) (s.short o))
applied-sound n b v s (append o f c) w k t h a =
    let d = (and-eq-true_iff (is_file (entry_at v o)) (eqb f (length (contents_of (entry_at v o))))).0 a in
    let g : f ≡ length (contents_of (entry_at v o)) = eqb-true f _ d.1 in
    refilled-sound n b v s o d.0 (contents_of (entry_at v o) ++ c) (rw (length-append (contents_of (entry_at v o)) c, ← g) h)
applied-sound n b v s (set_length o f) w k t h a =
    refilled-sound n b v s o a (resized (contents_of (entry_at v o)) f) (rw (resized-length (contents_of (entry_at v o)) f) (omega arith))
applied-sound n b v s (forder l) w k t h a = s

-- An operation of a valid record that fits, if it applies to a well-formed volume, leaves a well-formed one.
pub apply-good : (n b : ℕ) (v : Volume) (r : Record) → well_formed n b v ≡ true → valid r ≡ true → fits n b r ≡ true
    → applies v r.operation ≡ true → well_formed n b (apply v r.operation) ≡ true
unfolding fits
apply-good n b v r w h f a =
    let g = valid-inv r h in
    let x = r.operation in
    sound-well-formed n b (apply v x)
    (applied-sound n b v (well-formed-sound n b v w) x g.name g.second_name g.tie
    (leb-true _ _ ((and-eq-true_iff (all_below n (operands x)) (leb ((parts x).offset + length (parts x).block) (1024 * b))).0 f).1) a)

-- An operation keeps the number of entries.
pub apply-length : (v : Volume) (x : Operation) → length (apply v x) ≡ length v
unfolding apply
apply-length v (create_file o p n) = length-set v o (file n p [])
apply-length v (make_directory o p n) = length-set v o (directory n p)
apply-length v (remove o p n) = length-set v o free
apply-length v (rename o p q None n m) = length-set v o (renamed (entry_at v o) m q)
apply-length v (rename o p q (Some d) n m) = length-set (set v d free) o (renamed (entry_at v o) m q) ∙ length-set v d free
apply-length v (overwrite o f c) = length-set v o (refilled (entry_at v o) (patch (contents_of (entry_at v o)) f c))
apply-length v (append o f c) = length-set v o (refilled (entry_at v o) (contents_of (entry_at v o) ++ c))
apply-length v (set_length o f) = length-set v o (refilled (entry_at v o) (resized (contents_of (entry_at v o)) f))
apply-length v (forder l) = refl

-- "forder's change to the view is none"
pub apply-forder : (v : Volume) (os : List ℕ) → apply v (forder os) ≡ v
unfolding apply
apply-forder v os = refl

-- an overwrite leaves a file of the same length
pub overwritten-file : (v : Volume) (o f : ℕ) (t : List ℕ) → o < length v → is_file (entry_at v o) ≡ true → f + length t ≤ length (contents_of (entry_at v o))
    → (is_file (entry_at (apply v (overwrite o f t)) o) ≡ true) × (length (contents_of (entry_at v o)) ≡ length (contents_of (entry_at (apply v (overwrite o f t)) o)))
unfolding apply
overwritten-file v o f t there isf h =
    let e = entry_at v o in
    let c = patch (contents_of e) f t in
    let is = entry-set-same v o (refilled e c) there in
    (ap is_file is ∙ alike-file (refilled e c) e (refilled-kind e c) ∙ isf, sym (ap (λ (x : Entry). length (contents_of x)) is ∙ ap length (refilled-contents e c isf) ∙ length-patch (contents_of e) f t h))
