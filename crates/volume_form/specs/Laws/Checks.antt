-- The tests that are run on a volume's bytes decide their form: bytes that are lent as they should be pass every test exactly
-- if they are formed. Assumes nothing.
use Rattle.std.specs.Prelude.{ℕ, zero, suc, ◌*◌, ◌≤◌, ◌<◌, ◌≡◌, refl, List, Bool, true, false, ◌&&◌, ◌||◌, length, get_or}
use Rattle.std.proofs.Common.{arith, sym, ◌∙◌}
use Rattle.std.proofs.Math.Path.{ap}
use Rattle.std.proofs.Math.Bool.{not, and-eq-true_iff}
use Rattle.std.proofs.lemmas.Bool.{false≢true}
use Rattle.std.proofs.Math.Dec.{leb, eqb}
use borrow.Author.Tests.{leb-true, leb-false, le-leb, lt-leb, eqb-true, eqb-false, ne_eqb, not-true}
use Rattle.buffer.specs.Laws.Test.{or-other}
use Rattle.names.specs.Name.{valid_name, same_name}
use Rattle.names.proofs.Laws.Name.{same-sym}
use Rattle.buffer.specs.Numeral.{Bytes}
use Rattle.buffer.specs.Laws.Numeral.{bytes-part}
use Rattle.volume_entry.specs.Entry.{Entry, root, is_directory, has_name, name_of, parent_of, contents_of}
use Rattle.volume_entry.specs.Stored.{entry_bytes, encode_entry, read_entry}
use Rattle.volume_entry_form.specs.Code.Check.{entry_formed, root_formed, sound}
use Rattle.volume_entry_form.specs.Laws.Check.{formed-root, root-formed, formed-entry, entry-formed}
use Rattle.volume_tree.specs.Volume.{Volume, entry_at, every, is_child}
use Rattle.volume_tree.specs.Form.{climbs, placed, twins}
use Rattle.volume_tree.specs.Laws.Form.{implies, every-inv, every-intro, placed-inv, placed-intro, Good, well-formed-inv, good-well-formed}
use Rattle.volume_tree.specs.Stored.{encode_volume, read_volume, formed}
use Rattle.volume_tree.specs.Laws.Stored.{good-sized}
use Rattle.volume_tree.specs.Laws.Search.{directory-below, named-below}
use Rattle.volume_tree.specs.Laws.Change.{parent-cases, good_placed}
use Rattle.volume_tree.specs.Code.Lent.{Lent, entry_part, Formed}
use Rattle.volume_tree.specs.Laws.Lent.{formed-inv, formed-intro, entry_read, length-read, length_part}
use Rattle.volume_tree.specs.Laws.Part.{encode-part, parts-encode}
use Rattle.volume_tree.specs.Laws.Climb.{climbs-root, climbs-step}
use Rattle.volume_unique.specs.Code.Checks.{alone_from, all_alone}
use Rattle.volume_form.specs.Code.Checks.{entries_formed, parents_formed, climbs_by, all_lead}

-- If every number below a bound passes one of two tests, each that fails the first passes the second.
others-inv : (k : ℕ) (t f : ℕ → Bool) → every k (λ i. t i || f i) ≡ true → (i : ℕ) → i < k → t i ≡ false → f i ≡ true
others-inv k t f e i h z = or-other (t i) (f i) z (every-inv k (λ i. t i || f i) e i h)

-- If each number below a bound that fails a test passes another, every one passes one of the two.
others-intro : (k : ℕ) (t f : ℕ → Bool) → ((i : ℕ) → i < k → t i ≡ false → f i ≡ true) → every k (λ i. t i || f i) ≡ true
others-intro k t f g = every-intro k (λ i. t i || f i) (λ i h. go i (t i) (g i h))
  where
    go : (i : ℕ) (x : Bool) → (x ≡ false → f i ≡ true) → x || f i ≡ true
    go i true g = refl
    go i false g = g refl

-- A list of every entry's parent leads as the entries do.
pub climbs-by : (k : ℕ) (v : Volume) (l : List ℕ) → ((i : ℕ) → get_or l i 0 ≡ parent_of (entry_at v i)) → (i : ℕ) → climbs_by k l i ≡ climbs k v i
unfolding climbs_by climbs
climbs-by zero v l same i = refl
climbs-by (suc k) v l same i = ap (λ (t : Bool). eqb i 0 || t) (climbs-by k v l same (get_or l i 0) ∙ ap (climbs k v) (same i))

-- A sound entry has a length that fits and, with a name, a valid one.
sound-inv : (b : ℕ) (e : Entry) → sound b e ≡ true → (length (contents_of e) ≤ 1024 * b) × (has_name e ≡ true → valid_name (name_of e) ≡ true)
sound-inv b e t =
    let x = (and-eq-true_iff (leb (length (contents_of e)) (1024 * b)) (not (has_name e) || valid_name (name_of e))).0 t in
    (leb-true (length (contents_of e)) (1024 * b) x.0, λ u. or-other (not (has_name e)) (valid_name (name_of e)) (ap not u) x.1)

-- An entry in its place is sound.
placed-sound : (b : ℕ) (v : Volume) (i : ℕ) (e : Entry) → placed b v i e ≡ true → sound b e ≡ true
placed-sound b v i e t =
    let x = placed-inv b v i e t in
    rw (le-leb (length (contents_of e)) (1024 * b) x.0) (implies (has_name e) (valid_name (name_of e)) (λ u. (x.1 u).name))

-- Two entries that share parent and name do so in either order.
twins-swap : (v : Volume) (i j : ℕ) → twins v i j ≡ true → twins v j i ≡ true
twins-swap v i j t =
    let x = entry_at v i in
    let y = entry_at v j in
    let a = (and-eq-true_iff (is_child v (parent_of x) i && is_child v (parent_of x) j) (same_name (name_of x) (name_of y))).0 t in
    let c = (and-eq-true_iff (is_child v (parent_of x) i) (is_child v (parent_of x) j)).0 a.0 in
    let d = (and-eq-true_iff (not (eqb j 0)) (has_name y && eqb (parent_of y) (parent_of x))).0 c.1 in
    let p : parent_of y ≡ parent_of x =
    eqb-true (parent_of y) (parent_of x) ((and-eq-true_iff (has_name y) (eqb (parent_of y) (parent_of x))).0 d.1).1 in
    (and-eq-true_iff (is_child v (parent_of y) j && is_child v (parent_of y) i) (same_name (name_of y) (name_of x))).1 (
      (and-eq-true_iff (is_child v (parent_of y) j) (is_child v (parent_of y) i)).1
          (ap (λ (d : ℕ). is_child v d j) p ∙ c.1, ap (λ (d : ℕ). is_child v d i) p ∙ c.0),
      same-sym (name_of x) (name_of y) a.1,
    )

-- If no entry behind an entry shares parent and name with it, no two entries do.
alone-apart : (v : Volume) → all_alone v ≡ true → (i j : ℕ) → i < length v → j < length v → (i ≡ j → ⊥) → twins v i j ≡ false
unfolding all_alone alone_from
alone-apart v a i j h k z = go (leb j i) (twins v i j) refl refl
  where
    later : (i j : ℕ) → i < length v → j < length v → i < j → twins v i j ≡ false
    later i j h k m =
        not-true (twins v i j)
        (others-inv (length v) (λ j. leb j i) (λ j. not (twins v i j)) (every-inv (length v) (alone_from v) a i h) j k (lt-leb j i m))

    go : (x y : Bool) → leb j i ≡ x → twins v i j ≡ y → twins v i j ≡ false
    go false y e t = later i j h k (leb-false j i e)
    go true false e t = t
    go true true e t = absurd (false≢true (sym (later j i k h (omega (arith, leb-true j i e))) ∙ twins-swap v i j t))

-- Each entry with a name but the root has a directory as parent, if the parents are formed.
parents-inv : (v : Volume) → parents_formed v ≡ true → (i : ℕ) → (i ≡ 0 → ⊥) → has_name (entry_at v i) ≡ true
    → is_directory (entry_at v (parent_of (entry_at v i))) ≡ true
unfolding parents_formed
parents-inv v p i z u =
    or-other (not (has_name (entry_at v i))) (is_directory (entry_at v (parent_of (entry_at v i)))) (ap not u)
    (others-inv (length v) (λ i. eqb i 0) (λ i. not (has_name (entry_at v i)) || is_directory (entry_at v (parent_of (entry_at v i)))) p i (named-below v i u) (ne_eqb i 0 z))

module _ (n b : ℕ) (s : List ℕ) (l : Lent n b s) (byte : Bytes s) (e : entries_formed n b s ≡ true) where
  -- The first part is formed as the root's, and each other as an entry's.
  parts-formed : (root_formed (entry_part b s 0) ≡ true) × ((i : ℕ) → i < n → eqb i 0 ≡ false → entry_formed b (entry_part b s i) ≡ true)
  unfolding entries_formed
  parts-formed =
      let x = (and-eq-true_iff (root_formed (entry_part b s 0)) (every n (λ i. eqb i 0 || entry_formed b (entry_part b s i)))).0 e in
      (x.0, others-inv n (λ i. eqb i 0) (λ i. entry_formed b (entry_part b s i)) x.1)

  -- The first entry is the root, and its part is its bytes.
  first_entry : (entry_at (read_volume n b s) 0 ≡ root) × (encode_entry b (read_entry (entry_part b s 0)) ≡ entry_part b s 0)
  first_entry =
      let h : 0 < n = omega arith in
      let r = formed-root b (entry_part b s 0) (length_part n b s l 0 h) parts-formed.0 in
      (entry_read n b s 0 h ∙ r.0, r.1)

  -- Each other entry is sound, and its part is its bytes.
  other-entry : (i : ℕ) → i < n → eqb i 0 ≡ false
      → (sound b (entry_at (read_volume n b s) i) ≡ true) × (encode_entry b (read_entry (entry_part b s i)) ≡ entry_part b s i)
  other-entry i h z =
      let part = bytes-part s (entry_bytes b) (i * entry_bytes b) byte in
      let r = formed-entry b (entry_part b s i) (length_part n b s l i h) part (parts-formed.1 i h z) in
      (ap (sound b) (entry_read n b s i h) ∙ r.0, r.1)

  -- The bytes are those of the volume that they tell of.
  entries-stored : encode_volume b (read_volume n b s) ≡ s
  entries-stored = parts-encode n b s l.whole (λ i h. go i h (eqb i 0) refl)
    where
      go : (i : ℕ) → i < n → (t : Bool) → eqb i 0 ≡ t → encode_entry b (read_entry (entry_part b s i)) ≡ entry_part b s i
      go i h true z = rw (eqb-true i 0 z) first_entry.1
      go i h false z = (other-entry i h z).1

-- Bytes that are lent as they should be and pass every test are formed.
pub checks-formed : (n b : ℕ) (s : List ℕ) → Lent n b s → Bytes s → (l : List ℕ) → ((i : ℕ) → get_or l i 0 ≡ parent_of (entry_at (read_volume n b s) i))
    → entries_formed n b s ≡ true → parents_formed (read_volume n b s) ≡ true → all_lead n l ≡ true → all_alone (read_volume n b s) ≡ true
    → formed n b s ≡ true
unfolding all_lead
checks-formed n b s lent byte l same e p t a =
    formed-intro n b s
    (record {
      lent = lent;
      form = good-well-formed n b v (record { size = size; root = (first_entry n b s lent byte e).0; each = each; apart = alone-apart v a });
      stored = entries-stored n b s lent byte e;
    })
  where
    v : Volume
    v = read_volume n b s

    size : length v ≡ n
    size = length-read n b s

    each : (i : ℕ) → i < length v → (i ≡ 0 → ⊥) → placed b v i (entry_at v i) ≡ true
    each i h z =
        let m : i < n = omega (arith, size) in
        let x = sound-inv b (entry_at v i) (other-entry n b s lent byte e i m (ne_eqb i 0 z)).0 in
        placed-intro b v i (entry_at v i) x.0 (λ u.
        record {
          name = x.1 u;
          parent = parents-inv v p i z u;
          leads = ap (λ (k : ℕ). climbs k v i) size ∙ sym (climbs-by n v l same i) ∙ every-inv n (climbs_by n l) t i m;
        })

-- An entry with parent 0 is led to 0 in a step.
leads-at-once : (k : ℕ) (v : Volume) (i : ℕ) → 1 ≤ k → parent_of (entry_at v i) ≡ 0 → climbs k v i ≡ true
leads-at-once zero v i h p = absurd (omega arith)
leads-at-once (suc k) v i h p = climbs-step k v i (ap (climbs k v) p ∙ climbs-root k v)

module _ (n b : ℕ) (v : Volume) (g : Good n b v) where
  -- The parents of a well-formed volume are formed.
  good-parents : parents_formed v ≡ true
  unfolding parents_formed
  good-parents =
      others-intro (length v) (λ i. eqb i 0) (λ i. not (has_name (entry_at v i)) || is_directory (entry_at v (parent_of (entry_at v i))))
      (λ i h z. implies (has_name (entry_at v i)) (is_directory (entry_at v (parent_of (entry_at v i)))) (λ u. (good_placed n b v g i (eqb-false i 0 z) u).parent))

  -- The parents of a well-formed volume lead to 0, those of entries without a name and of the root too.
  good-lead : 1 ≤ n → (l : List ℕ) → ((i : ℕ) → get_or l i 0 ≡ parent_of (entry_at v i)) → all_lead n l ≡ true
  unfolding all_lead
  good-lead k l same =
      every-intro n (climbs_by n l) (λ i h.
      climbs-by n v l same i
      ∙ parent-cases v g.root i (leads-at-once n v i k)
      (λ z u. ap (λ (k : ℕ). climbs k v i) (sym g.size) ∙ (good_placed n b v g i z u).leads))

  -- No entry of a well-formed volume shares parent and name with one behind it.
  good-alone : all_alone v ≡ true
  unfolding all_alone alone_from
  good-alone =
      every-intro (length v) (alone_from v) (λ i h.
      others-intro (length v) (λ j. leb j i) (λ j. not (twins v i j)) (λ j k z.
      let m = leb-false j i z in
      ap not (g.apart i j h k (λ q. omega arith))))

-- The entries of bytes that are formed are formed, each by itself.
formed-entries : (n b : ℕ) (s : List ℕ) → Bytes s → Formed n b s → entries_formed n b s ≡ true
unfolding entries_formed
formed-entries n b s byte f =
    let h : 0 < n = omega (arith, f.lent.fewest) in
    (and-eq-true_iff (root_formed (entry_part b s 0)) (every n (λ i. eqb i 0 || entry_formed b (entry_part b s i)))).1 (
      root-formed b (entry_part b s 0) (sym (entry_read n b s 0 h) ∙ g.root) (back 0 h),
      others-intro n (λ i. eqb i 0) (λ i. entry_formed b (entry_part b s i)) other,
    )
  where
    v : Volume
    v = read_volume n b s

    g : Good n b v
    g = well-formed-inv n b v f.form

    back : (i : ℕ) → i < n → encode_entry b (read_entry (entry_part b s i)) ≡ entry_part b s i
    back i h =
        ap (encode_entry b) (sym (entry_read n b s i h))
        ∙ sym (encode-part b v (good-sized n b v g) i (omega (arith, g.size))) ∙ ap (λ (t : List ℕ). entry_part b t i) f.stored

    other : (i : ℕ) → i < n → eqb i 0 ≡ false → entry_formed b (entry_part b s i) ≡ true
    other i h z =
        let t = placed-sound b v i (entry_at v i) (g.each i (omega (arith, g.size)) (eqb-false i 0 z)) in
        entry-formed b (entry_part b s i) f.lent.least (length_part n b s f.lent i h)
        (bytes-part s (entry_bytes b) (i * entry_bytes b) byte) (ap (sound b) (sym (entry_read n b s i h)) ∙ t) (back i h)

-- Bytes that are formed pass the tests of the entries and of their parents.
pub formed-first : (n b : ℕ) (s : List ℕ) → Bytes s → formed n b s ≡ true → (entries_formed n b s ≡ true) × (parents_formed (read_volume n b s) ≡ true)
formed-first n b s byte t =
    let v = read_volume n b s in
    let f = formed-inv n b s t in
    (formed-entries n b s byte f, good-parents n b v (well-formed-inv n b v f.form))

-- Bytes that are formed pass every test.
pub formed-checks : (n b : ℕ) (s : List ℕ) → Bytes s → (l : List ℕ) → ((i : ℕ) → get_or l i 0 ≡ parent_of (entry_at (read_volume n b s) i)) → formed n b s ≡ true
    → (entries_formed n b s ≡ true) × (parents_formed (read_volume n b s) ≡ true) × (all_lead n l ≡ true) × (all_alone (read_volume n b s) ≡ true)
formed-checks n b s byte l same t =
    let v = read_volume n b s in
    let f = formed-inv n b s t in
    let g = well-formed-inv n b v f.form in
    let x = formed-first n b s byte t in
    (x.0, x.1, good-lead n b v g (omega (arith, f.lent.fewest)) l same, good-alone n b v g)

-- In bytes whose entries and parents are formed, each parent is an entry's number.
pub parents-below : (n b : ℕ) (s : List ℕ) → Lent n b s → Bytes s → entries_formed n b s ≡ true → parents_formed (read_volume n b s) ≡ true
    → (i : ℕ) → parent_of (entry_at (read_volume n b s) i) < n
parents-below n b s l byte e p i =
    let v = read_volume n b s in
    parent-cases v (first_entry n b s l byte e).0 i (λ z. omega arith)
    (λ z u. omega (arith, length-read n b s, directory-below v (parent_of (entry_at v i)) (parents-inv v p i z u)))
