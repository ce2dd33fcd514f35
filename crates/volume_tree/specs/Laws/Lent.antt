-- The entries of a volume that is lent, and what is known of one of the right form.
-- Assumes nothing.
use Rattle.std.specs.Prelude.{ℕ, zero, suc, ◌+◌, ◌*◌, ◌≤◌, ◌<◌, ◌≡◌, refl, List, Bool, true, false, ◌&&◌, cond, length, take, drop, leb, eqb}
use Rattle.std.proofs.Common.{zero-mul, suc-mul, mul-le-mul_right, arith, sym, ap, ◌∙◌, length-take, length-drop, drop-drop, le-leb, leb-true, eq-eqb, eqb-true}
use Rattle.std.proofs.Math.Bool.{and-eq-true_iff}
use Rattle.std.proofs.lemmas.Bool.{false≢true}
use Rattle.std.specs.Prelude.{None, Some}
use Rattle.buffer.specs.Decoded.{is_some}
use Rattle.volume_entry.specs.Stored.{entry_bytes, same_bytes, read_entry}
use Rattle.volume_entry.specs.Laws.Entry.{same_bytes-eq, bytes_same}
use Rattle.volume_tree.specs.Volume.{Volume, entry_at}
use Rattle.volume_tree.specs.Form.{well_formed}
use Rattle.volume_tree.specs.Stored.{volume_bytes, encode_volume, read_volume, decode_volume, lent, formed}
use Rattle.volume_tree.specs.Laws.Stored.{read-good, length-good}
use Rattle.volume_tree.specs.Code.Lent.{Lent, entry_part, IsEntry, Formed}

-- What passes the test is lent as it should be.
pub lent-inv : (n b : ℕ) (s : List ℕ) → lent n b s ≡ true → Lent n b s
unfolding lent
lent-inv n b s t =
    let x = (and-eq-true_iff (leb 2 n && leb n 256) ((leb 1 b && leb b 64) && eqb (length s) (volume_bytes n b))).0 t in
    let y = (and-eq-true_iff (leb 2 n) (leb n 256)).0 x.0 in
    let z = (and-eq-true_iff (leb 1 b && leb b 64) (eqb (length s) (volume_bytes n b))).0 x.1 in
    let w = (and-eq-true_iff (leb 1 b) (leb b 64)).0 z.0 in
    record {
      fewest = leb-true 2 n y.0;
      most = leb-true n 256 y.1;
      least = leb-true 1 b w.0;
      blocks = leb-true b 64 w.1;
      whole = eqb-true (length s) (volume_bytes n b) z.1;
    }

-- What is lent as it should be passes the test.
pub lent-intro : (n b : ℕ) (s : List ℕ) → Lent n b s → lent n b s ≡ true
unfolding lent
lent-intro n b s l =
    simp (
      le-leb 2 n l.fewest,
      le-leb n 256 l.most,
      le-leb 1 b l.least,
      le-leb b 64 l.blocks,
      eq-eqb (length s) (volume_bytes n b) l.whole,
    )

-- Each entry lies wholly in a volume.
pub entry-within : (n b i : ℕ) → i < n → i * entry_bytes b + entry_bytes b ≤ volume_bytes n b
entry-within n b i h = omega (arith, suc-mul i (entry_bytes b), mul-le-mul_right (entry_bytes b) h)

-- Each entry lies wholly in the bytes of a volume that is lent.
pub entry-room : (n b : ℕ) (s : List ℕ) → Lent n b s → (i : ℕ) → i < n → i * entry_bytes b + entry_bytes b ≤ length s
entry-room n b s l i h = omega (arith, entry-within n b i h, l.whole)

-- A volume that is read has n entries.
pub length-read : (n b : ℕ) (s : List ℕ) → length (read_volume n b s) ≡ n
unfolding read_volume
length-read zero b s = refl
length-read (suc n) b s = ap suc (length-read n b (drop (entry_bytes b) s))

-- The entry of an object's number is the one that its part of the bytes tells of.
pub entry_read : (n b : ℕ) (s : List ℕ) (i : ℕ) → i < n → entry_at (read_volume n b s) i ≡ read_entry (entry_part b s i)
unfolding read_volume
entry_read zero b s i h = absurd (omega arith)
entry_read (suc n) b s zero h = rw (zero-mul (entry_bytes b))
entry_read (suc n) b s (suc i) h =
    let k : entry_bytes b + i * entry_bytes b ≡ suc i * entry_bytes b = omega (arith, suc-mul i (entry_bytes b)) in
    entry_read n b (drop (entry_bytes b) s) i (omega arith)
    ∙ ap (λ (t : List ℕ). read_entry (take (entry_bytes b) t)) (drop-drop (i * entry_bytes b) (entry_bytes b) s ∙ ap (λ (k : ℕ). drop k s) k)

-- An entry's part has an entry's length.
pub length_part : (n b : ℕ) (s : List ℕ) → Lent n b s → (i : ℕ) → i < n → length (entry_part b s i) ≡ entry_bytes b
length_part n b s l i h = simp (length-take, length-drop) (omega (arith, entry-within n b i h, l.whole))

-- An entry's part is that entry.
pub is-entry : (n b : ℕ) (s : List ℕ) → Lent n b s → (i : ℕ) → i < n → IsEntry n b s i (entry_part b s i)
is-entry n b s l i h = record { part = refl; size = length_part n b s l i h; tells = sym (entry_read n b s i h) }

-- An entry's bytes have its head.
pub entry-long : {n b i : ℕ} {s e : List ℕ} → IsEntry n b s i e → 68 ≤ length e
entry-long h = omega arith

-- what each function that reads an entry cites
pub ruleset entries = (entry-long)

-- What is found to be formed is formed.
pub formed-inv : (n b : ℕ) (s : List ℕ) → formed n b s ≡ true → Formed n b s
unfolding formed decode_volume
formed-inv n b s t =
    let x = (and-eq-true_iff (lent n b s) (is_some (decode_volume n b s))).0 t in
    go (well_formed n b (read_volume n b s)) (same_bytes (encode_volume b (read_volume n b s)) s) refl refl (lent-inv n b s x.0) x.1
  where
    go : (p q : Bool) → well_formed n b (read_volume n b s) ≡ p → same_bytes (encode_volume b (read_volume n b s)) s ≡ q
        → Lent n b s → is_some (cond (p && q) (Some (read_volume n b s)) None) ≡ true → Formed n b s
    go true true w e l u = record { lent = l; form = w; stored = same_bytes-eq (encode_volume b (read_volume n b s)) s e }
    go true false w e l u = absurd (false≢true u)
    go false q w e l u = absurd (false≢true u)

-- What is formed is found to be so.
pub formed-intro : (n b : ℕ) (s : List ℕ) → Formed n b s → formed n b s ≡ true
unfolding formed decode_volume
formed-intro n b s f =
    (and-eq-true_iff (lent n b s) _).1
    (lent-intro n b s f.lent, rw (f.form, f.stored, bytes_same s))

-- Bytes that are lent as they should be are formed exactly if they hold a volume.
pub formed-decode : (n b : ℕ) (s : List ℕ) → Lent n b s → formed n b s ≡ is_some (decode_volume n b s)
unfolding formed
formed-decode n b s l = rw (lent-intro n b s l)

-- Bytes that are formed are those of the volume that is read from them.
pub formed-decoded : (n b : ℕ) (s : List ℕ) → Formed n b s → decode_volume n b s ≡ Some (read_volume n b s)
unfolding decode_volume
formed-decoded n b s f = rw (f.form, f.stored, bytes_same s)

-- The bytes of a well-formed volume are formed, and tell of that volume.
pub encoded-formed : (n b : ℕ) (v : Volume) → 2 ≤ n → n ≤ 256 → 1 ≤ b → b ≤ 64 → well_formed n b v ≡ true → Formed n b (encode_volume b v)
encoded-formed n b v h k l m w =
    let r = read-good n b v k m w in
    record {
      lent = record { fewest = h; most = k; least = l; blocks = m; whole = length-good n b v w };
      form = ap (well_formed n b) r ∙ w;
      stored = ap (encode_volume b) r;
    }
