-- What acceptance means: an accepted change applies to the view that it met, and its record can be written.
use Prim.Native.Nat.{ℕ, zero, suc, ◌+◌, ◌*◌, ◌-◌, ◌%◌, ◌≤◌, ◌<◌, min}
use Rattle.std.proofs.Common.{arith, sym, ap, ◌∙◌, subst, length-take, length-drop}
use Rattle.std.specs.Prelude.{◌≡◌, Bool, false, not, ◌&&◌, ◌||◌, cond, take, drop, leb, eqb, Result, Ok, Err}
use Rattle.std.proofs.Math.Path.{refl}
use mathlib.Core.List.{List, [], ◌∷◌, ◌++◌}
use Rattle.std.proofs.Math.Bool.{true, and-eq-true_iff}
use Rattle.std.specs.Prelude.{Option, None, Some}
use Rattle.std.proofs.Math.ListN.{length}
use Rattle.std.proofs.Math.Dec.{ltb}
use borrow.Author.Tests.{leb-true, ltb-true, ltb-false, eqb-false, eq-eqb, le-leb, lt-ltb, not-true, not-false}
use Rattle.names.specs.declared.NameError.{NameError}
use Rattle.names.specs.declared.NameError.TheVariants.{Bad, Long}
use Rattle.names.specs.Name.{valid_name, name_text_of}
use Rattle.names.proofs.Laws.Name.{fine-valid}
use Rattle.record.specs.Operation.{Operation}
use Rattle.record.specs.Fields.{valid_list, different, all_up_to, all_below, objects_of}
use Rattle.record.proofs.Laws.List.{count-objects}
use Rattle.volume_entry.specs.Entry.{Entry, root, is_used, is_file, is_directory, kind_number, contents_of}
use Rattle.volume_tree.specs.Volume.{Volume, entry_at, search, has_children, is_child, is_named}
use Rattle.volume_tree.specs.Laws.Form.{well-formed-inv, lowest-some}
use Rattle.volume_apply.specs.Apply.{applies, apply, is_absent, is_at, has_room, yields}
use Rattle.volume_apply.proofs.Laws.Apply.{overwritten-file}
use Rattle.log_rules.specs.Order.{any}
use Rattle.session.specs.Call.{Geometry, Issuer, Call, create_file, make_directory, rename, write, set_length, forder, in_range}
use Rattle.session.specs.Refusal.{Row}
use Rattle.session.specs.Model.{Model, bad_program, is_marked, is_bad, is_long, outside, is_free, told_of}
use Rattle.session.specs.Issue.{displaced, on_found, on_bytes, writes, removes, issues}
use Rattle.session.specs.Edit.{room_rows, changed, make_rows, remove_rows, rename_rows, write_rows, length_rows, forder_rows, of_found, wrong_rename, bad_range}
use Rattle.session.proofs.Laws.Refusal.{Passed, numbered, passed, accepted-passes, neither}
use Rattle.session.proofs.Laws.Issue.{Recordable, EntryFields, RangeFields, create-recordable, make-recordable, remove-recordable, rename-recordable, replace-recordable, overwrite-recordable, append-recordable, length-recordable, forder-recordable}
use Rattle.session.proofs.Laws.Possible.{Sound}
use Rattle.session.proofs.Laws.Issuing.{FitInTurn, Issuing}

pub objects-few : (g : Geometry) → in_range g ≡ true → g.objects ≤ 256
unfolding in_range
objects-few g h =
    let a = (and-eq-true_iff (leb 2 g.objects && leb g.objects 256) _).0 h in
    leb-true _ _ ((and-eq-true_iff (leb 2 g.objects) (leb g.objects 256)).0 a.0).1

pub blocks-few : (g : Geometry) → in_range g ≡ true → g.blocks ≤ 64
unfolding in_range
blocks-few g h =
    let a = (and-eq-true_iff (leb 2 g.objects && leb g.objects 256) _).0 h in
    let b = (and-eq-true_iff (leb 1 g.blocks && leb g.blocks 64) _).0 a.1 in
    leb-true _ _ ((and-eq-true_iff (leb 1 g.blocks) (leb g.blocks 64)).0 b.0).1

-- a text that is neither bad nor long is a valid name
text-fine : (s : List ℕ) → is_bad (name_text_of s) ≡ false → is_long (name_text_of s) ≡ false → valid_name s ≡ true
text-fine s a b = go (name_text_of s) refl a b
  where
    go : (t : Result (Unit {0}) NameError) → name_text_of s ≡ t → is_bad t ≡ false → is_long t ≡ false → valid_name s ≡ true
    go (Ok x) e h k = fine-valid s e
    go (Err Bad) e h k = let z : ◌≡◌ {A = ℕ} 0 1 = cc in absurd (omega arith)
    go (Err Long) e h k = let z : ◌≡◌ {A = ℕ} 0 1 = cc in absurd (omega arith)

inside : (v : Volume) (o : ℕ) → outside v o ≡ false → o < length v
inside v o h = ltb-true o (length v) (not-false _ h)

used : (v : Volume) (o : ℕ) → is_free v o ≡ false → is_used (entry_at v o) ≡ true
used v o h = not-false _ h

-- a search that is not absent found something
found-one : (o : Option ℕ) → is_absent o ≡ false → (i : ℕ) × (o ≡ Some i)
found-one None h = let z : ◌≡◌ {A = ℕ} 0 1 = cc in absurd (omega arith)
found-one (Some i) h = (i, refl)

at-found : (i : ℕ) → is_at i (Some i) ≡ true
at-found i = eq-eqb i i refl

-- what a search found is a used entry other than the root
search-inside : (v : Volume) (d : ℕ) (n : List ℕ) (i : ℕ) → search v d n ≡ Some i → (1 ≤ i) × (i < length v)
unfolding search
search-inside v d n i e =
    let l = lowest-some (length v) (is_named v d n) i e in
    let c = (and-eq-true_iff (is_child v d i) _).0 l.1 in
    let k = (and-eq-true_iff (not (eqb i 0)) _).0 c.0 in
    let z : i ≡ 0 → ⊥ = eqb-false i 0 (not-true _ k.0) in
    (omega arith, l.0)

-- an accepted change: its program is good, and no row of its table holds
pub change-passed : (g : Geometry) (c : Call) (p : ℕ) (rows : List Row) (x : Model) → numbered (rows ++ room_rows g c x) ≡ true → (changed g c p rows x).returned ≡ 0
    → (p < 32) × Passed (rows ++ room_rows g c x)
change-passed g c p rows x n e =
    let z = accepted-passes c (bad_program p ∷ is_marked x.log p ∷ (rows ++ room_rows g c x)) _ e in
    let a = passed (bad_program p ∷ is_marked x.log p ∷ (rows ++ room_rows g c x)) n z.0 in
    (ltb-true p 32 (not-false _ a.0), a.1.1)

module _ (g : Geometry) (x : Model) (s : Sound g x) where
  few : g.objects ≤ 256
  few = objects-few g s.range

  sized : length x.view ≡ g.objects
  sized = (well-formed-inv g.objects g.blocks x.view s.view).size

  below : (o : ℕ) → outside x.view o ≡ false → o < g.objects
  below o h = subst (λ (k : ℕ). o < k) sized (inside x.view o h)

  found_below : (d : ℕ) (n : List ℕ) (i : ℕ) → search x.view d n ≡ Some i → i < g.objects
  found_below d n i e = subst (λ (k : ℕ). i < k) sized (search-inside x.view d n i e).1

  -- a file is not the root
  not_root : (o : ℕ) → is_file (entry_at x.view o) ≡ true → 1 ≤ o
  not_root o h = go o h
    where
      first : entry_at x.view 0 ≡ root
      first = (well-formed-inv g.objects g.blocks x.view s.view).root

      go : (i : ℕ) → is_file (entry_at x.view i) ≡ true → 1 ≤ i
      go zero k = let d : false ≡ true = ap is_file (sym first) ∙ k in let z : ◌≡◌ {A = ℕ} 0 1 = cc in absurd (omega arith)
      go (suc i) k = omega arith

  -- create file and make directory
  make-fit : (p d : ℕ) (n : List ℕ) (o : ℕ) (c : Call) → length (issues (told_of x) c) ≡ 1 → (changed g c p (make_rows x.view d n o) x).returned ≡ 0
      → (p < 32) × EntryFields g.objects o d n × (has_room x.view o d n ≡ true) × (length x.log.slots + 1 ≤ g.capacity) × (x.log.head.next + 1 ≤ 4294967295)
  make-fit p d n o c one e =
      let a = change-passed g c p (make_rows x.view d n o) x refl e in
      let r = a.1 in
      let n₇ = neither (outside x.view d) (outside x.view o || eqb o 0) r.1.1.0 in
      let n₇' = neither (outside x.view o) (eqb o 0) n₇.1 in
      let n₁₀ = neither (not (is_absent (search x.view d n))) (is_used (entry_at x.view o)) r.1.1.1.1.1.0 in
      let z : o ≡ 0 → ⊥ = eqb-false o 0 n₇'.1 in
      let dir : is_directory (entry_at x.view d) ≡ true = not-false _ r.1.1.1.1.0 in
      let absent : is_absent (search x.view d n) ≡ true = not-false _ n₁₀.0 in
      let oin : o < length x.view = inside x.view o n₇'.0 in
      let room : length x.log.slots + length (issues (told_of x) c) ≤ g.capacity = ltb-false _ _ r.1.1.1.1.1.1.0 in
      let number : x.log.head.next + length (issues (told_of x) c) ≤ 4294967295 = ltb-false _ _ r.1.1.1.1.1.1.1.0 in (
        a.0,
        record { low = omega arith; object = below o n₇'.0; parent = below d n₇.0; text = text-fine n r.0 r.1.0 },
        rw (dir, absent, lt-ltb o (length x.view) oin, n₁₀.1),
        omega arith,
        omega arith,
      )

  pub create-accepted : (i : Issuer) (d : ℕ) (n : List ℕ) (o : ℕ) → (changed g (create_file i d n o) i.program (make_rows x.view d n o) x).returned ≡ 0 → Issuing g x i.program (Operation.create_file o d n ∷ [])
  unfolding applies
  create-accepted i d n o e =
      let f = make-fit i.program d n o (create_file i d n o) refl e in
      record { program = f.0; fit = (f.2, create-recordable g.objects g.blocks few o d n f.1, tt); room = f.3; number = f.4 }

  pub make-accepted : (i : Issuer) (d : ℕ) (n : List ℕ) (o : ℕ) → (changed g (make_directory i d n o) i.program (make_rows x.view d n o) x).returned ≡ 0 → Issuing g x i.program (Operation.make_directory o d n ∷ [])
  unfolding applies
  make-accepted i d n o e =
      let f = make-fit i.program d n o (make_directory i d n o) refl e in
      record { program = f.0; fit = (f.2, make-recordable g.objects g.blocks few o d n f.1, tt); room = f.3; number = f.4 }

  -- what was found and has no children may be removed
  removed-fit : (d : ℕ) (n : List ℕ) (o : ℕ) → is_directory (entry_at x.view d) ≡ true → search x.view d n ≡ Some o → has_children x.view o ≡ false
      → applies x.view (Operation.remove o d n) ≡ true
  unfolding applies
  removed-fit d n o dir is kids = rw (dir, is, at-found o, kids)

  -- what an accepted remove of either kind found
  pub remove-accepted : (takes : Entry → Bool) (p d : ℕ) (n : List ℕ) (c : Call) → issues (told_of x) c ≡ removes x.view d n → (changed g c p (remove_rows takes x.view d n) x).returned ≡ 0
      → (o : ℕ) × (search x.view d n ≡ Some o) × Issuing g x p (Operation.remove o d n ∷ [])
  remove-accepted takes p d n c issued e =
      let v = x.view in
      let a = change-passed g c p (remove_rows takes x.view d n) x refl e in
      let r = a.1 in
      let n₈ = neither (is_free v d) (is_directory (entry_at v d) && is_absent (search v d n)) r.1.1.1.0 in
      let dir : is_directory (entry_at v d) ≡ true = not-false _ (neither (not (is_directory (entry_at v d))) _ r.1.1.1.1.0).0 in
      let there : is_absent (search v d n) ≡ false = rw dir at n₈.1 in
      let one = found-one (search v d n) there in
      let o = one.0 in
      let is = one.1 in
      let kids : has_children v o ≡ false = ap (λ (f : Option ℕ). of_found f (has_children v)) (sym is) ∙ r.1.1.1.1.1.0 in
      let count : length (issues (told_of x) c) ≡ 1 = ap length issued ∙ ap (λ (f : Option ℕ). length (on_found f (λ i. Operation.remove i d n))) is in
      let room : length x.log.slots + length (issues (told_of x) c) ≤ g.capacity = ltb-false _ _ r.1.1.1.1.1.1.0 in
      let number : x.log.head.next + length (issues (told_of x) c) ≤ 4294967295 = ltb-false _ _ r.1.1.1.1.1.1.1.0 in
      let f : EntryFields g.objects o d n =
      record { low = (search-inside v d n o is).0; object = found_below d n o is; parent = below d r.1.1.0; text = text-fine n r.0 r.1.0 } in
      (o, is, record { program = a.0; fit = (removed-fit d n o dir is kids, remove-recordable g.objects g.blocks few o d n f, tt); room = omega arith; number = omega arith })

  pub length-accepted : (i : Issuer) (o f : ℕ) → (changed g (set_length i o f) i.program (length_rows g.blocks x.view o f) x).returned ≡ 0 → Issuing g x i.program (Operation.set_length o f ∷ [])
  unfolding applies
  length-accepted i o f e =
      let a = change-passed g (set_length i o f) i.program (length_rows g.blocks x.view o f) x refl e in
      let r = a.1 in
      let isf : is_file (entry_at x.view o) ≡ true = not-false _ r.1.1.0 in
      record {
        program = a.0;
        fit = (isf, length-recordable g.objects g.blocks few (blocks-few g s.range) o f (not_root o isf) (below o r.0) (ltb-false _ _ r.1.1.1.0), tt);
        room = ltb-false _ _ r.1.1.1.1.0;
        number = ltb-false _ _ r.1.1.1.1.1.0;
      }

  -- the range of an accepted write: some bytes in one block, beginning no later than the length
  write-range : (f k len : ℕ) → bad_range g.blocks len f k ≡ false → (1 ≤ k) × (f % 1024 + k ≤ 1024) × (f ≤ len) × (f + k ≤ 1024 * g.blocks)
  write-range f k len h =
      let a = neither (eqb k 0 || ltb 1024 (f % 1024 + k)) (ltb len f || ltb (1024 * g.blocks) (f + k)) h in
      let b = neither (eqb k 0) (ltb 1024 (f % 1024 + k)) a.0 in
      let c = neither (ltb len f) (ltb (1024 * g.blocks) (f + k)) a.1 in
      let z : k ≡ 0 → ⊥ = eqb-false k 0 b.0 in
      (omega arith, ltb-false 1024 (f % 1024 + k) b.1, ltb-false len f c.0, ltb-false (1024 * g.blocks) (f + k) c.1)

  -- some bytes that begin at the length of a file may be appended
  append-fit : (v : Volume) (o len : ℕ) (u : List ℕ) → is_file (entry_at v o) ≡ true → len ≡ length (contents_of (entry_at v o))
      → (1 ≤ length u → RangeFields g.objects g.blocks few o len u) → FitInTurn g.objects g.blocks v (on_bytes u (λ t. Operation.append o len t))
  unfolding applies
  append-fit v o len [] isf at r = tt
  append-fit v o len (a ∷ u) isf at r =
      (rw (isf, eq-eqb len (length (contents_of (entry_at v o))) at), append-recordable g.objects g.blocks few (blocks-few g s.range) o len (a ∷ u) (r (omega arith)), tt)

  -- an accepted write: an overwrite of the bytes up to the length, and then an append of the rest
  writes-fit : (o f : ℕ) (d : List ℕ) → 1 ≤ o → o < g.objects → is_file (entry_at x.view o) ≡ true
      → (1 ≤ length d) × (f % 1024 + length d ≤ 1024) × (f ≤ length (contents_of (entry_at x.view o))) × (f + length d ≤ 1024 * g.blocks)
      → FitInTurn g.objects g.blocks x.view (writes x.view o f d)
  unfolding applies
  writes-fit o f d low below isf w = go (take (len - f) d) (length-take (len - f) d)
    where
      len : ℕ
      len = length (contents_of (entry_at x.view o))

      u : List ℕ
      u = drop (len - f) d

      -- the rest lies in the block behind the length
      rest : 1 ≤ length u → RangeFields g.objects g.blocks few o len u
      rest k =
          let e = length-drop (len - f) d in
          record { low = low; object = below; some = k; one_block = omega (arith, w.1, w.2); within = omega (arith, w.2, w.3) }

      go : (t : List ℕ) → length t ≡ min (len - f) (length d) → FitInTurn g.objects g.blocks x.view (on_bytes t (λ z. Operation.overwrite o f z) ++ on_bytes u (λ z. Operation.append o len z))
      go [] e = append-fit x.view o len u isf refl rest
      go (a ∷ t) e =
          let inner : f + length (a ∷ t) ≤ len = omega (arith, w.2) in
          let r : RangeFields g.objects g.blocks few o f (a ∷ t) = record { low = low; object = below; some = omega arith; one_block = omega (arith, w.1); within = omega (arith, w.3) } in
          let there : o < length x.view = subst (λ (k : ℕ). o < k) (sym sized) below in
          let y = overwritten-file x.view o f (a ∷ t) there isf inner in (
            rw (isf, le-leb (f + length (a ∷ t)) len inner),
            overwrite-recordable g.objects g.blocks few (blocks-few g s.range) o f (a ∷ t) r,
            append-fit (apply x.view (Operation.overwrite o f (a ∷ t))) o len u y.0 y.1 rest,
          )

  -- an accepted write has some bytes
  pub write-some : (i : Issuer) (o f : ℕ) (d : List ℕ) → (changed g (write i o f d) i.program (write_rows g.blocks x.view o f d) x).returned ≡ 0 → 1 ≤ length d
  write-some i o f d e =
      let r = (change-passed g (write i o f d) i.program (write_rows g.blocks x.view o f d) x refl e).1 in
      (write-range f (length d) (length (contents_of (entry_at x.view o))) r.1.1.1.0).0

  -- and begins at the length of its file at most
  pub write-begins : (i : Issuer) (o f : ℕ) (d : List ℕ) → (changed g (write i o f d) i.program (write_rows g.blocks x.view o f d) x).returned ≡ 0 → f ≤ length (contents_of (entry_at x.view o))
  write-begins i o f d e =
      let r = (change-passed g (write i o f d) i.program (write_rows g.blocks x.view o f d) x refl e).1 in
      (write-range f (length d) (length (contents_of (entry_at x.view o))) r.1.1.1.0).2

  pub write-accepted : (i : Issuer) (o f : ℕ) (d : List ℕ) → (changed g (write i o f d) i.program (write_rows g.blocks x.view o f d) x).returned ≡ 0 → Issuing g x i.program (writes x.view o f d)
  write-accepted i o f d e =
      let a = change-passed g (write i o f d) i.program (write_rows g.blocks x.view o f d) x refl e in
      let r = a.1 in
      let isf : is_file (entry_at x.view o) ≡ true = not-false _ r.1.1.0 in
      let w = write-range f (length d) (length (contents_of (entry_at x.view o))) r.1.1.1.0 in
      record {
        program = a.0;
        fit = writes-fit o f d (not_root o isf) (below o r.0) isf w;
        room = ltb-false _ _ r.1.1.1.1.0;
        number = ltb-false _ _ r.1.1.1.1.1.0;
      }

  -- no object of a list is outside: each is below n
  all-below : (l : List ℕ) → any (outside x.view) l ≡ false → all_below g.objects l ≡ true
  unfolding any all_below
  all-below [] h = refl
  all-below (o ∷ l) h =
      let n = neither (outside x.view o) (any (outside x.view) l) h in
      rw (lt-ltb o g.objects (below o n.0)) (all-below l n.1)

  all_small : (l : List ℕ) → all_below g.objects l ≡ true → all_up_to 255 l ≡ true
  unfolding all_up_to all_below
  all_small [] h = refl
  all_small (o ∷ l) h =
      let a = (and-eq-true_iff (ltb o g.objects) (all_below g.objects l)).0 h in
      let k : o < g.objects = ltb-true _ _ a.0 in
      let f = few in
      rw (le-leb o 255 (omega arith)) (all_small l a.1)

  pub forder-accepted : (i : Issuer) (d : List ℕ) → (changed g (forder i d) i.program (forder_rows x.view d) x).returned ≡ 0 → Issuing g x i.program (Operation.forder (objects_of d) ∷ [])
  unfolding applies valid_list
  forder-accepted i d e =
      let l = objects_of d in
      let a = change-passed g (forder i d) i.program (forder_rows x.view d) x refl e in
      let r = a.1 in
      let n₁ = neither (eqb (length d) 0 || (eqb (length d % 2) 1 || ltb 16 (length d))) (not (different l) || any (outside x.view) l) r.0 in
      let n₂ = neither (eqb (length d) 0) (eqb (length d % 2) 1 || ltb 16 (length d)) n₁.0 in
      let n₃ = neither (eqb (length d % 2) 1) (ltb 16 (length d)) n₂.1 in
      let n₄ = neither (not (different l)) (any (outside x.view) l) n₁.1 in
      let z₁ : length d ≡ 0 → ⊥ = eqb-false _ _ n₂.0 in
      let z₂ : length d % 2 ≡ 1 → ⊥ = eqb-false _ _ n₃.0 in
      let z₃ : length d ≤ 16 = ltb-false _ _ n₃.1 in
      let c = count-objects d in
      let b = all-below l n₄.1 in
      let good : valid_list l ≡ true = rw (le-leb 1 (length l) (omega arith), le-leb (length l) 8 (omega arith), all_small l b) (not-false _ n₄.0) in
      record {
        program = a.0;
        fit = (refl, forder-recordable g.objects g.blocks few l good b, tt);
        room = ltb-false _ _ r.1.1.0;
        number = ltb-false _ _ r.1.1.1.0;
      }

  -- what a rename displaces: nothing, or the one that its second name leads to, of the same kind and with no children
  displaced-fit : (o d e : ℕ) (n k : List ℕ) → EntryFields g.objects o d n → e < g.objects → valid_name k ≡ true
      → (f : Option ℕ) → search x.view e k ≡ f
      → of_found (displaced o f) (λ i. not (eqb (kind_number (entry_at x.view i)) (kind_number (entry_at x.view o)))) ≡ false → of_found (displaced o f) (has_children x.view) ≡ false
      → (yields x.view o e (displaced o f) k ≡ true) × Recordable g.objects g.blocks (Operation.rename o d e (displaced o f) n k)
  displaced-fit o d e n k fields he hk None is kind kids =
      (rw is, rename-recordable g.objects g.blocks few o d e n k fields he hk)
  displaced-fit o d e n k fields he hk (Some i) is kind kids = go (eqb i o) refl kind kids
    where
      go : (b : Bool) → eqb i o ≡ b
          → of_found (cond b None (Some i)) (λ i. not (eqb (kind_number (entry_at x.view i)) (kind_number (entry_at x.view o)))) ≡ false → of_found (cond b None (Some i)) (has_children x.view) ≡ false
          → (yields x.view o e (cond b None (Some i)) k ≡ true) × Recordable g.objects g.blocks (Operation.rename o d e (cond b None (Some i)) n k)
      go true t a c = (rw (is, t), rename-recordable g.objects g.blocks few o d e n k fields he hk)
      go false t a c =
          let z : i ≡ o → ⊥ = eqb-false i o t in
          let l = search-inside x.view e k i is in
          let kq : eqb (kind_number (entry_at x.view i)) (kind_number (entry_at x.view o)) ≡ true = not-false _ a in (
            rw (is, at-found i, kq, c),
            replace-recordable g.objects g.blocks few o d e i n k fields he hk l.0 (found_below e k i is) (λ q. z (sym q)),
          )

  stays-there : (dir same : Bool) → (dir && not same) ≡ false → (not dir || same) ≡ true
  stays-there true same h = not-false _ h
  stays-there false same h = refl

  -- what was found, stays in its parent if it is a directory, and displaces what it may, may be renamed
  renamed-fit : (d e o : ℕ) (n k : List ℕ) (t : Option ℕ) → is_directory (entry_at x.view d) ≡ true → is_directory (entry_at x.view e) ≡ true → search x.view d n ≡ Some o
      → (is_directory (entry_at x.view o) && not (eqb d e)) ≡ false → yields x.view o e t k ≡ true → applies x.view (Operation.rename o d e t n k) ≡ true
  unfolding applies
  renamed-fit d e o n k t dir dir₂ is stay y = rw (dir, dir₂, is, at-found o, stays-there (is_directory (entry_at x.view o)) (eqb d e) stay, y)

  pub rename-accepted : (i : Issuer) (d : ℕ) (n : List ℕ) (e : ℕ) (k : List ℕ) → (changed g (rename i d n e k) i.program (rename_rows x.view d n e k) x).returned ≡ 0
      → (o : ℕ) × (search x.view d n ≡ Some o) × Issuing g x i.program (Operation.rename o d e (displaced o (search x.view e k)) n k ∷ [])
  rename-accepted i d n e k acc =
      let v = x.view in
      let a = change-passed g (rename i d n e k) i.program (rename_rows x.view d n e k) x refl acc in
      let r = a.1 in
      let n₅ = neither (is_bad (name_text_of n)) (is_bad (name_text_of k)) r.0 in
      let n₆ = neither (is_long (name_text_of n)) (is_long (name_text_of k)) r.1.0 in
      let n₇ = neither (outside v d) (outside v e) r.1.1.0 in
      let n₈ = neither (is_free v d || is_free v e) (is_directory (entry_at v d) && is_absent (search v d n)) r.1.1.1.0 in
      let n₉ = neither (not (is_directory (entry_at v d)) || not (is_directory (entry_at v e))) (of_found (search v d n) (wrong_rename v d e k)) r.1.1.1.1.0 in
      let m₉ = neither (not (is_directory (entry_at v d))) (not (is_directory (entry_at v e))) n₉.0 in
      let dir : is_directory (entry_at v d) ≡ true = not-false _ m₉.0 in
      let dir₂ : is_directory (entry_at v e) ≡ true = not-false _ m₉.1 in
      let there : is_absent (search v d n) ≡ false = rw dir at n₈.1 in
      let one = found-one (search v d n) there in
      let o = one.0 in
      let is = one.1 in
      let t = displaced o (search v e k) in
      let q₉ = neither (is_directory (entry_at v o) && not (eqb d e)) (of_found t (λ i. not (eqb (kind_number (entry_at v i)) (kind_number (entry_at v o)))))
      (ap (λ (f : Option ℕ). of_found f (wrong_rename v d e k)) (sym is) ∙ n₉.1) in
      let kids : of_found t (has_children v) ≡ false = ap (λ (f : Option ℕ). of_found f (λ i. of_found (displaced i (search v e k)) (has_children v))) (sym is) ∙ r.1.1.1.1.1.0 in
      let count : length (issues (told_of x) (rename i d n e k)) ≡ 1 = ap (λ (f : Option ℕ). length (on_found f (λ i. Operation.rename i d e (displaced i (search v e k)) n k))) is in
      let room : length x.log.slots + length (issues (told_of x) (rename i d n e k)) ≤ g.capacity = ltb-false _ _ r.1.1.1.1.1.1.0 in
      let number : x.log.head.next + length (issues (told_of x) (rename i d n e k)) ≤ 4294967295 = ltb-false _ _ r.1.1.1.1.1.1.1.0 in
      let f : EntryFields g.objects o d n =
      record { low = (search-inside v d n o is).0; object = found_below d n o is; parent = below d n₇.0; text = text-fine n n₅.0 n₆.0 } in
      let y = displaced-fit o d e n k f (below e n₇.1) (text-fine k n₅.1 n₆.1) (search v e k) refl q₉.1 kids in
      (o, is, record { program = a.0; fit = (renamed-fit d e o n k t dir dir₂ is q₉.0 y.0, y.1, tt); room = omega arith; number = omega arith })
