-- The bytes of a volume (document 01, "Geometry and stored form"): one stored form for each well-formed volume, and nothing
-- else is of the right form. All laws hold for every n and b at once.
-- Assumes nothing.
use Rattle.std.proofs.lemmas.Option.{same_Some}
use Rattle.std.specs.Prelude.{ℕ, zero, suc, ◌+◌, ◌*◌, ◌^◌, ◌≤◌, ◌<◌, ◌≡◌, refl, Bool, true, false, not, ◌&&◌, cond, List, [], ◌∷◌, ◌++◌, length, get_or, set, replicate, ltb, eqb}
use Rattle.std.proofs.Common.{suc-le-suc, zero-mul, suc-mul, arith, sym, ap, ap₂, ◌∙◌, length-append, take_at, drop_at, ltb-true, ltb-false}
use Rattle.std.proofs.Math.Bool.{and-false}
use Rattle.std.proofs.lemmas.Bool.{false≢true}
use Rattle.std.specs.Prelude.{None, Some}
use Rattle.std.proofs.lemmas.List.{length-replicate, get_or-replicate, replicate-append-replicate}
use Rattle.std.proofs.Math.ListN.{get_or-eq_default}
use Rattle.names.specs.Name.{same_name}
use Rattle.buffer.specs.Numeral.{bytes}
use Rattle.names.proofs.Laws.Name.{valid-length}
use Rattle.volume_entry.specs.Entry.{Entry, free, root, has_name, name_of, parent_of, contents_of}
use Rattle.volume_tree.specs.Volume.{Volume, entry_at, is_child, formatted}
use Rattle.volume_tree.specs.Form.{placed, well_formed}
use Rattle.volume_tree.specs.Laws.Form.{placed-intro, Good, well-formed-inv, good-well-formed}
use Rattle.volume_tree.specs.Laws.Change.{same_or, Sound, good-sound, parent-below}
use Rattle.volume_entry.specs.Stored.{entry_bytes, encode_entry, same_bytes, read_entry}
use Rattle.volume_tree.specs.Stored.{volume_bytes, encode_volume, read_volume, decode_volume}
use Rattle.volume_entry.specs.Laws.Entry.{same_bytes-eq, bytes_same, length-entry, free-zero, read-entry}
use Rattle.volume_entry.specs.Laws.Field.{unnamed-fields}

-- The limits within which an entry's name and contents fit their fields.
pub record Sized (b : ℕ) (e : Entry) : Type 0 where
  pub name : length (name_of e) ≤ 60
  pub contents : length (contents_of e) ≤ 1024 * b

-- A volume whose entries are within their limits has as many bytes as entries of 68 + 1,024 × b bytes have.
pub length-volume : (b : ℕ) (v : Volume) → ((i : ℕ) → i < length v → Sized b (entry_at v i)) → length (encode_volume b v) ≡ length v * entry_bytes b
unfolding encode_volume
length-volume b [] h = sym (zero-mul (entry_bytes b))
length-volume b (e ∷ v) h =
    let s = h 0 (omega arith) in
    let l : length (encode_entry b e) ≡ entry_bytes b = length-entry b e s.name s.contents in
    let ih : length (encode_volume b v) ≡ length v * entry_bytes b = length-volume b v (λ i k. h (suc i) (suc-le-suc k)) in
    let m : suc (length v) * entry_bytes b ≡ length v * entry_bytes b + entry_bytes b = suc-mul (length v) (entry_bytes b) in
    length-append (encode_entry b e) (encode_volume b v) ∙ omega arith

-- A volume whose entries are within their limits is read back from its bytes.
pub read-volume : (b : ℕ) (v : Volume) → ((i : ℕ) → i < length v → Sized b (entry_at v i))
    → ((i : ℕ) → i < length v → parent_of (entry_at v i) < 65536) → 1024 * b < 2 ^ 32 → read_volume (length v) b (encode_volume b v) ≡ v
unfolding read_volume encode_volume
read-volume b [] h p m = refl
read-volume b (e ∷ v) h p m =
    let s = h 0 (omega arith) in
    let l : length (encode_entry b e) ≡ entry_bytes b = length-entry b e s.name s.contents in
    let one = take_at (encode_entry b e) (encode_volume b v) (entry_bytes b) l in
    let rest = drop_at (encode_entry b e) (encode_volume b v) (entry_bytes b) l in
    ap₂ (λ (x : Entry) (y : Volume). x ∷ y)
    (ap read_entry one ∙ read-entry b e s.name (p 0 (omega arith)) s.contents m)
    (ap (read_volume (length v) b) rest ∙ read-volume b v (λ i k. h (suc i) (suc-le-suc k)) (λ i k. p (suc i) (suc-le-suc k)) m)

-- Each entry of a well-formed volume is within its limits.
pub good-sized : (n b : ℕ) (v : Volume) → Good n b v → (i : ℕ) → i < length v → Sized b (entry_at v i)
good-sized n b v g i h = record { name = same_or i 0 (λ e. rw (e, g.root) (omega arith)) (λ z. go z (has_name (entry_at v i)) refl); contents = s.short i }
  where
    s : Sound n b v
    s = good-sound n b v g

    go : (i ≡ 0 → ⊥) → (t : Bool) → has_name (entry_at v i) ≡ t → length (name_of (entry_at v i)) ≤ 60
    go z true u = (valid-length (name_of (entry_at v i)) (s.name i z u)).1
    go z false u = rw (unnamed-fields (entry_at v i) u).0 (omega arith)

-- A well-formed volume has n entries' bytes.
pub length-good : (n b : ℕ) (v : Volume) → well_formed n b v ≡ true → length (encode_volume b v) ≡ volume_bytes n b
length-good n b v w =
    let g = well-formed-inv n b v w in
    length-volume b v (good-sized n b v g) ∙ ap (λ (k : ℕ). k * entry_bytes b) g.size

-- A well-formed volume is read back from its bytes.
pub read-good : (n b : ℕ) (v : Volume) → n ≤ 256 → b ≤ 64 → well_formed n b v ≡ true → read_volume n b (encode_volume b v) ≡ v
read-good n b v h k w =
    let g = well-formed-inv n b v w in
    let size = g.size in
    ap (λ (j : ℕ). read_volume j b (encode_volume b v)) (sym size)
    ∙ read-volume b v (good-sized n b v g) (λ i l. let p = parent-below n b v (good-sound n b v g) i in omega arith) (omega arith)

-- The bytes of a well-formed volume are of the right form, and tell of that volume.
pub decode-encode : (n b : ℕ) (v : Volume) → n ≤ 256 → b ≤ 64 → well_formed n b v ≡ true → decode_volume n b (encode_volume b v) ≡ Some v
unfolding decode_volume
decode-encode n b v h k w = rw (read-good n b v h k w, w, bytes_same (encode_volume b v))

-- What bytes of the right form tell of is a well-formed volume, and they are its bytes.
pub encode-decode : (n b : ℕ) (s : List ℕ) (v : Volume) → decode_volume n b s ≡ Some v → (well_formed n b v ≡ true) × (encode_volume b v ≡ s)
unfolding decode_volume
encode-decode n b s v e = go (well_formed n b x) (same_bytes (encode_volume b x) s) refl refl e
  where
    x : Volume
    x = read_volume n b s

    go : (p q : Bool) → well_formed n b x ≡ p → same_bytes (encode_volume b x) s ≡ q → cond (p && q) (Some x) None ≡ Some v
        → (well_formed n b v ≡ true) × (encode_volume b v ≡ s)
    go true true w t c =
        let y : x ≡ v = same_Some x v c in
        (ap (well_formed n b) (sym y) ∙ w, ap (encode_volume b) (sym y) ∙ same_bytes-eq (encode_volume b x) s t)
    go true false w t c = let z : ◌≡◌ {A = ℕ} 0 1 = cc in absurd (omega arith)
    go false q w t c = let z : ◌≡◌ {A = ℕ} 0 1 = cc in absurd (omega arith)

-- Two well-formed volumes with equal bytes are equal.
pub encode_injective : (n b : ℕ) (v u : Volume) → n ≤ 256 → b ≤ 64 → well_formed n b v ≡ true → well_formed n b u ≡ true → encode_volume b v ≡ encode_volume b u → v ≡ u
encode_injective n b v u h k w x e =
    same_Some v u (sym (decode-encode n b v h k w) ∙ ap (decode_volume n b) e ∙ decode-encode n b u h k x)

-- Bytes that are not of the right form are those of no well-formed volume.
pub decode-none : (n b : ℕ) (s : List ℕ) → n ≤ 256 → b ≤ 64 → decode_volume n b s ≡ None
    → (v : Volume) → well_formed n b v ≡ true → encode_volume b v ≡ s → ⊥
decode-none n b s h k e v w t =
    let x : decode_volume n b s ≡ Some v = ap (decode_volume n b) (sym t) ∙ decode-encode n b v h k w in
    let z : ◌≡◌ {A = ℕ} 0 1 = cc in
    omega arith

-- Every entry of a formatted volume but the first is free.
formatted-free : (n i : ℕ) → (i ≡ 0 → ⊥) → entry_at (formatted n) i ≡ free
unfolding formatted
formatted-free zero i h = refl
formatted-free (suc n) zero h = absurd (h refl)
formatted-free (suc n) (suc i) h = go (ltb i n) refl
  where
    go : (t : Bool) → ltb i n ≡ t → get_or (replicate n free) i free ≡ free
    go true e = get_or-replicate n i free free (ltb-true i n e)
    go false e = let l = ltb-false i n e in get_or-eq_default (replicate n free) free (rw (length-replicate n free) l)

-- A formatted volume has n entries.
pub length-formatted : (n : ℕ) → length (formatted n) ≡ n
unfolding formatted
length-formatted zero = refl
length-formatted (suc n) = ap suc (length-replicate n free)

-- A formatted volume begins with the root.
formatted-root : (n : ℕ) → 1 ≤ n → entry_at (formatted n) 0 ≡ root
unfolding formatted
formatted-root zero h = absurd (omega arith)
formatted-root (suc n) h = refl

-- No entry of a formatted volume is a child.
formatted-childless : (n d i : ℕ) → is_child (formatted n) d i ≡ false
formatted-childless n d zero = refl
formatted-childless n d (suc i) =
    let x : entry_at (formatted n) (suc i) ≡ free = formatted-free n (suc i) (λ z. omega arith) in
    ap (λ (e : Entry). not (eqb (suc i) 0) && (has_name e && eqb (parent_of e) d)) x ∙ and-false (not (eqb (suc i) 0))

-- "Format makes a server volume with only a root", which is well-formed.
pub formatted-good : (n b : ℕ) → 2 ≤ n → well_formed n b (formatted n) ≡ true
formatted-good n b h =
    let v = formatted n in
    good-well-formed n b v
    (record {
      size = length-formatted n;
      root = formatted-root n (omega arith);
      each = λ i l z. ap (placed b v i) (formatted-free n i z) ∙ placed-intro b v i free (omega arith) (λ u. absurd (false≢true u));
      apart = λ i j l k z.
          ap (λ (t : Bool). (t && is_child v (parent_of (entry_at v i)) j) && same_name (name_of (entry_at v i)) (name_of (entry_at v j)))
          (formatted-childless n (parent_of (entry_at v i)) i);
    })

-- The bytes of a formatted volume are of the right form, and tell of that volume.
pub formatted-stored : (n b : ℕ) → 2 ≤ n → n ≤ 256 → b ≤ 64 → decode_volume n b (encode_volume b (formatted n)) ≡ Some (formatted n)
formatted-stored n b h k m = decode-encode n b (formatted n) k m (formatted-good n b h)

-- The bytes of free entries are all zero.
pub free-entries-zero : (n b : ℕ) → encode_volume b (replicate n free) ≡ replicate (volume_bytes n b) 0
unfolding encode_volume
free-entries-zero zero b = ap (λ (k : ℕ). replicate k 0) (sym (zero-mul (entry_bytes b)))
free-entries-zero (suc n) b =
    let m : entry_bytes b + n * entry_bytes b ≡ suc n * entry_bytes b = let x = suc-mul n (entry_bytes b) in omega arith in
    ap₂ (λ (x y : List ℕ). x ++ y) (free-zero b) (free-entries-zero n b)
    ∙ replicate-append-replicate (entry_bytes b) (n * entry_bytes b) 0 ∙ ap (λ (k : ℕ). replicate k 0) m

-- The bytes of a formatted volume are zeros but for the root's kind.
pub formatted-zeros : (n b : ℕ) → 1 ≤ n → set (replicate (volume_bytes n b) 0) 0 2 ≡ encode_volume b (formatted n)
unfolding formatted encode_volume encode_entry bytes
formatted-zeros zero b h = absurd (omega arith)
formatted-zeros (suc n) b h = ap (λ (s : List ℕ). set s 0 2) (sym (free-entries-zero (suc n) b))
