-- Document 01, "Order and dependence": an operation reads and changes a volume only at its operands, each taken with what
-- the names in it lead to.
-- Assumes nothing.
use Rattle.std.specs.Prelude.{ℕ, ◌+◌, ◌<◌, ◌≡◌, refl, Bool, true, false, not, ◌&&◌, ◌||◌, List, [], ◌∷◌, ◌++◌, length, set, leb, ltb, eqb}
use Rattle.std.proofs.Common.{sym, ap, ◌∙◌, length-set, ext_get_or, ltb-true, eq-eqb, eqb-true}
use Rattle.std.proofs.Math.Bool.{and-eq-true_iff}
use Rattle.std.proofs.lemmas.Bool.{false≢true, eqb-false, not-true}
use Rattle.std.specs.Prelude.{Option, None, Some}
use Rattle.names.specs.Name.{same_name}
use Rattle.names.proofs.Laws.Name.{same_refl as name-refl}
use Rattle.record.specs.Operation.{Operation, create_file, make_directory, remove, rename, overwrite, append, set_length, forder, Record, operands}
use Rattle.record.specs.Fields.{member, valid, fits}
use Rattle.volume_entry.specs.Entry.{Entry, free, file, directory, is_used, is_file, is_directory, has_name, name_of, parent_of, contents_of, renamed, refilled, kind_number}
use Rattle.volume_entry.specs.Laws.Entry.{renamed-parent, refilled-kind, refilled-name, refilled-parent, named-used}
use Rattle.volume_entry.specs.Laws.Field.{alike-name}
use Rattle.volume_tree.specs.Volume.{Volume, entry_at, is_child, is_named, search, has_children}
use Rattle.volume_tree.specs.Form.{well_formed}
use Rattle.buffer.specs.Patch.{patch}
use Rattle.volume_entry.specs.Write.{resized}
use Rattle.volume_apply.specs.Apply.{is_absent, is_at, leads, has_room, stays, applies, apply}
use Rattle.volume_tree.specs.Laws.Search.{entry-set-same, entry_set_other, named-below, Named, named-inv, search-found, search-none, none-search, search-set, childless, no-children, file-below}
use Rattle.volume_tree.specs.Laws.Change.{same_or, well-formed-sound, named-before}
use Rattle.volume_apply.proofs.Laws.Apply.{leads-named, apply-good}

-- two volumes agree at an object: on its entry, on what each name in it leads to, and on whether it has children
pub record Same (v w : Volume) (i : ℕ) : Type 0 where
  pub entry : entry_at v i ≡ entry_at w i
  pub found : (n : List ℕ) → search v i n ≡ search w i n
  pub kids : has_children v i ≡ has_children w i

pub same_refl : (v : Volume) (i : ℕ) → Same v v i
same_refl v i = record { entry = refl; found = λ n. refl; kids = refl }

pub same-sym : {v w : Volume} {i : ℕ} → Same v w i → Same w v i
same-sym s = record { entry = sym s.entry; found = λ n. sym (s.found n); kids = sym s.kids }

pub same-trans : {u v w : Volume} {i : ℕ} → Same u v i → Same v w i → Same u w i
same-trans s t = record { entry = s.entry ∙ t.entry; found = λ n. s.found n ∙ t.found n; kids = s.kids ∙ t.kids }

-- two volumes agree at each object of a list
abbrev pub Agree : Volume → Volume → List ℕ → Type 0
Agree v w l = (i : ℕ) → member i l ≡ true → Same v w i

-- Two volumes of equal length with the same entries are equal.
pub same-volume : (v w : Volume) → length v ≡ length w → ((i : ℕ) → i < length v → entry_at v i ≡ entry_at w i) → v ≡ w
same-volume v w l h = ext_get_or free v w l h

-- the first of a list is a member, and so is a member of the rest
pub member-first : (o : ℕ) (l : List ℕ) → member o (o ∷ l) ≡ true
unfolding member
member-first o l = rw (eq-eqb o o refl)

pub member-next : (i o : ℕ) (l : List ℕ) → member i l ≡ true → member i (o ∷ l) ≡ true
unfolding member
member-next i o l e = go (eqb i o)
  where
    go : (b : Bool) → b || member i l ≡ true
    go true = refl
    go false = e

-- who is no member is neither the first nor a member of the rest
pub member-none : (i o : ℕ) (l : List ℕ) → member i (o ∷ l) ≡ false → (i ≡ o → ⊥) × (member i l ≡ false)
unfolding member
member-none i o l e = go (eqb i o) refl e
  where
    go : (b : Bool) → eqb i o ≡ b → b || member i l ≡ false → (i ≡ o → ⊥) × (member i l ≡ false)
    go true t e = absurd (false≢true (sym e))
    go false t e = (eqb-false i o t, e)

-- A directory without children has no names.
kids-none : (v : Volume) (d : ℕ) → has_children v d ≡ false → (m : List ℕ) → search v d m ≡ None
kids-none v d t m = none-search v d m (λ i h. ap (λ (x : Bool). x && same_name (name_of (entry_at v i)) m) (childless v d (ap not t) i h))

-- A directory in which every name is absent has no children.
none-kids : (v : Volume) (d : ℕ) → ((m : List ℕ) → search v d m ≡ None) → has_children v d ≡ false
none-kids v d h = no-children v d (λ i l. go i l (is_child v d i) refl)
  where
    go : (i : ℕ) → i < length v → (t : Bool) → is_child v d i ≡ t → is_child v d i ≡ false
    go i l false e = e
    go i l true e =
        let m = name_of (entry_at v i) in
        absurd (false≢true (sym (search-none v d m (h m) i l) ∙ (and-eq-true_iff (is_child v d i) (same_name m m)).1 (e, name-refl m)))

-- two tests that fail together are equal
fail-together : (a b : Bool) → (a ≡ false → b ≡ false) → (b ≡ false → a ≡ false) → a ≡ b
fail-together true true f g = refl
fail-together true false f g = g refl
fail-together false b f g = sym (f refl)

-- Where the names lead to the same, there are children in both volumes or in neither.
pub same_from : {v w : Volume} {i : ℕ} → entry_at v i ≡ entry_at w i → ((n : List ℕ) → search v i n ≡ search w i n) → Same v w i
same_from {v} {w} {i} e f =
    record {
      entry = e;
      found = f;
      kids = fail-together (has_children v i) (has_children w i)
          (λ t. none-kids w i (λ m. sym (f m) ∙ kids-none v i t m)) (λ t. none-kids v i (λ m. f m ∙ kids-none w i t m));
    }

-- whether there is room for a new entry depends only on its number and its parent
room-local : (v w : Volume) (o p : ℕ) (n : List ℕ) → length v ≡ length w → Same v w o → Same v w p → has_room v o p n ≡ has_room w o p n
room-local v w o p n l s t = λ j. is_directory (t.entry j) && (is_absent (t.found n j) && (ltb o (l j) && not (is_used (s.entry j))))

-- Whether an operation applies depends only on its operands.
pub applies-local : (v w : Volume) (x : Operation) → length v ≡ length w → Agree v w (operands x) → applies v x ≡ applies w x
unfolding applies operands
applies-local v w (create_file o p n) l h = room-local v w o p n l (h o (member-first o _)) (h p (member-next p o _ (member-first p _)))
applies-local v w (make_directory o p n) l h = room-local v w o p n l (h o (member-first o _)) (h p (member-next p o _ (member-first p _)))
applies-local v w (remove o p n) l h =
    let s = h o (member-first o _) in
    let t = h p (member-next p o _ (member-first p _)) in
    λ j. (is_directory (t.entry j) && is_at o (t.found n j)) && not (s.kids j)
applies-local v w (rename o p q None n m) l h =
    let s = h o (member-first o _) in
    let t = h p (member-next p o _ (member-first p _)) in
    let u = h q (member-next q o _ (member-next q p _ (member-first q _))) in
    λ j. (is_directory (t.entry j) && is_at o (t.found n j)) && (is_directory (u.entry j)
    && ((not (is_directory (s.entry j)) || eqb p q) && (is_absent (u.found m j) || is_at o (u.found m j))))
applies-local v w (rename o p q (Some d) n m) l h =
    let s = h o (member-first o _) in
    let t = h p (member-next p o _ (member-first p _)) in
    let u = h q (member-next q o _ (member-next q p _ (member-first q _))) in
    let r = h d (member-next d o _ (member-next d p _ (member-next d q _ (member-first d _)))) in
    λ j. (is_directory (t.entry j) && is_at o (t.found n j)) && (is_directory (u.entry j)
    && ((not (is_directory (s.entry j)) || eqb p q)
    && (is_at d (u.found m j) && (eqb (kind_number (r.entry j)) (kind_number (s.entry j)) && not (r.kids j)))))
applies-local v w (overwrite o f c) l h =
    let s = h o (member-first o _) in
    λ j. is_file (s.entry j) && leb (f + length c) (length (contents_of (s.entry j)))
applies-local v w (append o f c) l h =
    let s = h o (member-first o _) in
    λ j. is_file (s.entry j) && eqb f (length (contents_of (s.entry j)))
applies-local v w (set_length o f) l h = ap is_file (h o (member-first o _)).entry
applies-local v w (forder k) l h = refl

-- whether an entry at a number has a name in a directory
abbrev names : Entry → ℕ → ℕ → List ℕ → Bool
names e o d m = (not (eqb o 0) && (has_name e && eqb (parent_of e) d)) && same_name (name_of e) m

-- no two entries of a volume have one name in one directory
abbrev pub One : Volume → Type 0
One v = (d : ℕ) (m : List ℕ) (i j : ℕ) → Named v d m i → Named v d m j → i ≡ j

-- what a name leads to after an entry is put at a number: that number if it has the name now, nothing if it had it, else what
-- it led to
abbrev found_after : Bool → Bool → ℕ → Option ℕ → Option ℕ
found_after true had o x = Some o
found_after false true o x = None
found_after false false o x = x

module _ (v : Volume) (o : ℕ) (e : Entry) (inside : o < length v) where
  -- the new entry has a name exactly if the changed volume says so
  names-set : (d : ℕ) (m : List ℕ) → is_named (set v o e) d m o ≡ names e o d m
  names-set d m = ap (λ (x : Entry). names x o d m) (entry-set-same v o e inside)

  -- What a name leads to after a change at one entry.
  search-after : One v → One (set v o e) → (d : ℕ) (m : List ℕ)
      → search (set v o e) d m ≡ found_after (names e o d m) (is_named v d m o) o (search v d m)
  search-after a b d m = go (names e o d m) (is_named v d m o) refl refl
    where
      new : names e o d m ≡ true → (x : Option ℕ) → search (set v o e) d m ≡ x → search (set v o e) d m ≡ Some o
      new t None s =
          absurd (false≢true (sym (search-none (set v o e) d m s o (rw (length-set v o e) inside)) ∙ names-set d m ∙ t))
      new t (Some i) s =
          s ∙ ap Some (b d m i o (named-inv (set v o e) d m i (search-found (set v o e) d m i s).0) (named-inv (set v o e) d m o (names-set d m ∙ t)))

      gone : names e o d m ≡ false → is_named v d m o ≡ true → (i : ℕ) (x : Bool) → is_named (set v o e) d m i ≡ x → is_named (set v o e) d m i ≡ false
      gone t u i false s = s
      gone t u i true s =
          same_or i o (λ q. ap (is_named (set v o e) d m) q ∙ names-set d m ∙ t)
          (λ z. absurd (z (a d m i o (named-before v o e inside d m i z (named-inv (set v o e) d m i s)) (named-inv v d m o u))))

      go : (now had : Bool) → names e o d m ≡ now → is_named v d m o ≡ had → search (set v o e) d m ≡ found_after now had o (search v d m)
      go true had t u = new t (search (set v o e) d m) refl
      go false true t u = none-search (set v o e) d m (λ i l. gone t u i (is_named (set v o e) d m i) refl)
      go false false t u = search-set v o e d m (names-set d m ∙ t ∙ sym u)

  -- A change at one entry is not seen at another if it has a name there exactly if it had it.
  set-elsewhere : (i : ℕ) → (i ≡ o → ⊥) → ((m : List ℕ) → names e o i m ≡ is_named v i m o) → Same (set v o e) v i
  set-elsewhere i z h = same_from (entry_set_other v o e i z) (λ m. search-set v o e i m (names-set i m ∙ h m))

  -- It is not seen at an entry that is the parent of neither the old nor the new one.
  set-outside : (i : ℕ) → (i ≡ o → ⊥) → (has_name e ≡ true → parent_of e ≡ i → ⊥) → (has_name (entry_at v o) ≡ true → parent_of (entry_at v o) ≡ i → ⊥)
      → Same (set v o e) v i
  set-outside i z f g = set-elsewhere i z (λ m. unnamed e f m ∙ sym (unnamed (entry_at v o) g m))
    where
      unnamed : (x : Entry) → (has_name x ≡ true → parent_of x ≡ i → ⊥) → (m : List ℕ) → names x o i m ≡ false
      unnamed x h m = go (names x o i m) refl
        where
          go : (t : Bool) → names x o i m ≡ t → names x o i m ≡ false
          go false s = s
          go true s =
              let a = (and-eq-true_iff (not (eqb o 0) && (has_name x && eqb (parent_of x) i)) (same_name (name_of x) m)).0 s in
              let c = (and-eq-true_iff (not (eqb o 0)) (has_name x && eqb (parent_of x) i)).0 a.0 in
              let u = (and-eq-true_iff (has_name x) (eqb (parent_of x) i)).0 c.1 in
              absurd (h u.0 (eqb-true (parent_of x) i u.1))

-- Where two volumes agree at the changed entry and at another, they agree at that one after the change.
set_local : (v w : Volume) (o : ℕ) (e f : Entry) → o < length v → length v ≡ length w → One v → One w → One (set v o e) → One (set w o f)
    → entry_at v o ≡ entry_at w o → e ≡ f → (i : ℕ) → Same v w i → Same (set v o e) (set w o f) i
set_local v w o e f h l a b c d old new i s =
    let k : o < length w = rw l at h in
    same_from
    (same_or i o (λ q. ap (entry_at (set v o e)) q ∙ entry-set-same v o e h ∙ new ∙ sym (entry-set-same w o f k) ∙ sym (ap (entry_at (set w o f)) q))
    (λ z. entry_set_other v o e i z ∙ s.entry ∙ sym (entry_set_other w o f i z)))
    (λ m. search-after v o e h a c i m ∙ (λ j. found_after (names (new j) o i m) (names (old j) o i m) o (s.found m j)) ∙ sym (search-after w o f k b d i m))

-- a freed entry leaves no two of one name
free_one : (v : Volume) (o : ℕ) → o < length v → One v → One (set v o free)
free_one v o h a d m i j x y =
    a d m i j (named-before v o free h d m i (other i x) x) (named-before v o free h d m j (other j y) y)
  where
    other : (k : ℕ) → Named (set v o free) d m k → k ≡ o → ⊥
    other k z q = false≢true (sym (ap has_name (ap (entry_at (set v o free)) q ∙ entry-set-same v o free h)) ∙ z.named)

-- what an operation that applies says of the entry that it changes
room-there : (v : Volume) (o p : ℕ) (n : List ℕ) → has_room v o p n ≡ true → (o < length v) × (is_used (entry_at v o) ≡ false)
room-there v o p n t =
    let a = (and-eq-true_iff (is_directory (entry_at v p)) (is_absent (search v p n) && (ltb o (length v) && not (is_used (entry_at v o))))).0 t in
    let c = (and-eq-true_iff (is_absent (search v p n)) (ltb o (length v) && not (is_used (entry_at v o)))).0 a.1 in
    let d = (and-eq-true_iff (ltb o (length v)) (not (is_used (entry_at v o)))).0 c.1 in
    (ltb-true o (length v) d.0, not-true (is_used (entry_at v o)) d.1)

overwrite-there : (v : Volume) (o f : ℕ) (c : List ℕ) → applies v (overwrite o f c) ≡ true → o < length v
unfolding applies
overwrite-there v o f c t = file-below v o ((and-eq-true_iff (is_file (entry_at v o)) _).0 t).0

append-there : (v : Volume) (o f : ℕ) (c : List ℕ) → applies v (append o f c) ≡ true → o < length v
unfolding applies
append-there v o f c t = file-below v o ((and-eq-true_iff (is_file (entry_at v o)) _).0 t).0

remove-there : (v : Volume) (o p : ℕ) (n : List ℕ) → applies v (remove o p n) ≡ true → Named v p n o
unfolding applies
remove-there v o p n t = (leads-named v p n o ((and-eq-true_iff (leads v p n o) _).0 t).0).1

rename-there : (v : Volume) (o p q : ℕ) (d : Option ℕ) (n m : List ℕ) → applies v (rename o p q d n m) ≡ true → Named v p n o
unfolding applies
rename-there v o p q d n m t = (leads-named v p n o ((and-eq-true_iff (leads v p n o) _).0 t).0).1

-- the displaced object has the second name
displaced-there : (v : Volume) (o p q d : ℕ) (n m : List ℕ) → applies v (rename o p q (Some d) n m) ≡ true → Named v q m d
unfolding applies
displaced-there v o p q d n m t =
    let a = (and-eq-true_iff (leads v p n o) _).0 t in
    let b = (and-eq-true_iff (is_directory (entry_at v q)) _).0 a.1 in
    let c = (and-eq-true_iff (stays v o p q) _).0 b.1 in
    let e = (and-eq-true_iff (is_at d (search v q m)) _).0 c.1 in
    (leads-named v q m d ((and-eq-true_iff (is_directory (entry_at v q)) (is_at d (search v q m))).1 (b.0, e.0))).1

-- where no two entries have one name, what an operation leaves at its operands depends only on them
local : (v w : Volume) (x : Operation) → length v ≡ length w → One v → One w → One (apply v x) → One (apply w x)
    → Agree v w (operands x) → applies v x ≡ true → (i : ℕ) → Same v w i → Same (apply v x) (apply w x) i
unfolding apply operands applies
local v w (create_file o p n) l a b c d h t i s =
    set_local v w o (file n p []) (file n p []) (room-there v o p n t).0 l a b c d (h o (member-first o _)).entry refl i s
local v w (make_directory o p n) l a b c d h t i s =
    set_local v w o (directory n p) (directory n p) (room-there v o p n t).0 l a b c d (h o (member-first o _)).entry refl i s
local v w (remove o p n) l a b c d h t i s =
    set_local v w o free free (named-below v o (remove-there v o p n t).named) l a b c d (h o (member-first o _)).entry refl i s
local v w (rename o p q None n m) l a b c d h t i s =
    let e = (h o (member-first o _)).entry in
    set_local v w o (renamed (entry_at v o) m q) (renamed (entry_at w o) m q) (named-below v o (rename-there v o p q None n m t).named) l a b c d e
    (ap (λ (y : Entry). renamed y m q) e) i s
local v w (rename o p q (Some k) n m) l a b c d h t i s =
    let e = (h o (member-first o _)).entry in
    let r = (h k (member-next k o _ (member-next k p _ (member-next k q _ (member-first k _))))).entry in
    let z : k < length v = named-below v k (displaced-there v o p q k n m t).named in
    let a' = free_one v k z a in
    let b' = free_one w k (rw l at z) b in
    let step : (j : ℕ) → Same v w j → Same (set v k free) (set w k free) j = set_local v w k free free z l a b a' b' r refl in
    set_local (set v k free) (set w k free) o (renamed (entry_at v o) m q) (renamed (entry_at w o) m q)
    (rw (length-set v k free) (named-below v o (rename-there v o p q (Some k) n m t).named))
    (length-set v k free ∙ l ∙ sym (length-set w k free)) a' b' c d
    (step o (h o (member-first o _))).entry (ap (λ (y : Entry). renamed y m q) e) i (step i s)
local v w (overwrite o f k) l a b c d h t i s =
    let e = (h o (member-first o _)).entry in
    set_local v w o _ _ (overwrite-there v o f k t) l a b c d e (ap (λ (y : Entry). refilled y (patch (contents_of y) f k)) e) i s
local v w (append o f k) l a b c d h t i s =
    let e = (h o (member-first o _)).entry in
    set_local v w o _ _ (append-there v o f k t) l a b c d e (ap (λ (y : Entry). refilled y (contents_of y ++ k)) e) i s
local v w (set_length o f) l a b c d h t i s =
    let e = (h o (member-first o _)).entry in
    set_local v w o _ _ (file-below v o t) l a b c d e (ap (λ (y : Entry). refilled y (resized (contents_of y) f)) e) i s
local v w (forder k) l a b c d h t i s = s

-- What an operation leaves at its operands depends only on them.
pub apply-local : (n b : ℕ) (v w : Volume) (r : Record) → well_formed n b v ≡ true → well_formed n b w ≡ true → valid r ≡ true → fits n b r ≡ true
    → Agree v w (operands r.operation) → applies v r.operation ≡ true → Agree (apply v r.operation) (apply w r.operation) (operands r.operation)
apply-local n b v w r g k h f a t i m =
    let x = r.operation in
    let s = well-formed-sound n b v g in
    let u = well-formed-sound n b w k in
    let l : length v ≡ length w = s.size ∙ sym u.size in
    let t' : applies w x ≡ true = sym (applies-local v w x l a) ∙ t in
    local v w x l s.one u.one (well-formed-sound n b (apply v x) (apply-good n b v r g h f t)).one
    (well-formed-sound n b (apply w x) (apply-good n b w r k h f t')).one a t i (a i m)

-- other contents leave a file's name and parent
names-refilled : (e : Entry) (c : List ℕ) (o i : ℕ) (m : List ℕ) → names (refilled e c) o i m ≡ names e o i m
names-refilled e c o i m = rw (alike-name (refilled e c) e (refilled-kind e c), refilled-parent e c, refilled-name e c)

-- An operation that applies changes a volume only at its operands.
pub apply-elsewhere : (v : Volume) (x : Operation) → applies v x ≡ true → (i : ℕ) → member i (operands x) ≡ false → Same (apply v x) v i
unfolding apply operands applies
apply-elsewhere v (create_file o p n) t i h =
    let z = member-none i o _ h in
    let y = member-none i p _ z.1 in
    let r = room-there v o p n t in
    set-outside v o (file n p []) r.0 i z.0 (λ u q. y.0 (sym q)) (λ u. absurd (false≢true (sym r.1 ∙ named-used (entry_at v o) u)))
apply-elsewhere v (make_directory o p n) t i h =
    let z = member-none i o _ h in
    let y = member-none i p _ z.1 in
    let r = room-there v o p n t in
    set-outside v o (directory n p) r.0 i z.0 (λ u q. y.0 (sym q)) (λ u. absurd (false≢true (sym r.1 ∙ named-used (entry_at v o) u)))
apply-elsewhere v (remove o p n) t i h =
    let z = member-none i o _ h in
    let y = member-none i p _ z.1 in
    let r = remove-there v o p n t in
    set-outside v o free (named-below v o r.named) i z.0 (λ u. absurd (false≢true u)) (λ u q. y.0 (sym q ∙ r.parent))
apply-elsewhere v (rename o p q None n m) t i h =
    let z = member-none i o _ h in
    let y = member-none i p _ z.1 in
    let x = member-none i q _ y.1 in
    let r = rename-there v o p q None n m t in
    set-outside v o (renamed (entry_at v o) m q) (named-below v o r.named) i z.0
    (λ u e. x.0 (sym e ∙ renamed-parent (entry_at v o) m q r.named)) (λ u e. y.0 (sym e ∙ r.parent))
apply-elsewhere v (rename o p q (Some d) n m) t i h =
    let z = member-none i o _ h in
    let y = member-none i p _ z.1 in
    let x = member-none i q _ y.1 in
    let w = member-none i d _ x.1 in
    let r = rename-there v o p q (Some d) n m t in
    let k = displaced-there v o p q d n m t in
    let below = named-below v d k.named in
    same-trans
    (set-outside (set v d free) o (renamed (entry_at v o) m q) (rw (length-set v d free) (named-below v o r.named)) i z.0
    (λ u e. x.0 (sym e ∙ renamed-parent (entry_at v o) m q r.named))
    (same_or o d
    (λ e u. absurd (false≢true (sym (ap has_name (ap (entry_at (set v d free)) e ∙ entry-set-same v d free below)) ∙ u)))
    (λ e u f. y.0 (sym f ∙ ap parent_of (entry_set_other v d free o e) ∙ r.parent))))
    (set-outside v d free below i w.0 (λ u. absurd (false≢true u)) (λ u e. x.0 (sym e ∙ k.parent)))
apply-elsewhere v (overwrite o f c) t i h =
    set-elsewhere v o _ (overwrite-there v o f c t) i (member-none i o _ h).0 (names-refilled (entry_at v o) _ o i)
apply-elsewhere v (append o f c) t i h =
    set-elsewhere v o _ (append-there v o f c t) i (member-none i o _ h).0 (names-refilled (entry_at v o) _ o i)
apply-elsewhere v (set_length o f) t i h =
    set-elsewhere v o _ (file-below v o t) i (member-none i o _ h).0 (names-refilled (entry_at v o) _ o i)
apply-elsewhere v (forder l) t i h = same_refl v i
