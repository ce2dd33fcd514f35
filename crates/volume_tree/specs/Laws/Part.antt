-- The part of a volume's bytes that is one entry's: what stands in it, and what a change of one entry changes.
-- Assumes nothing.
use Rattle.std.specs.Prelude.{ℕ, zero, suc, ◌+◌, ◌*◌, ◌<◌, ◌≡◌, refl, List, [], ◌∷◌, ◌++◌, length, set, take, drop}
use Rattle.std.proofs.Common.{suc-le-suc, zero-mul, suc-mul, arith, sym, ap, ◌∙◌, length-drop, take-append-drop, take_at, drop-drop}
use Rattle.std.proofs.Math.Seq.{drop-append-add}
use Rattle.buffer.specs.Patch.{patch}
use Rattle.volume_entry.specs.Entry.{Entry}
use Rattle.volume_entry.specs.Stored.{entry_bytes, encode_entry, read_entry}
use Rattle.volume_entry.specs.Laws.Entry.{length-entry}
use Rattle.volume_entry.specs.Laws.Write.{patch-behind, patch-first}
use Rattle.volume_tree.specs.Volume.{Volume, entry_at}
use Rattle.volume_tree.specs.Stored.{volume_bytes, encode_volume, read_volume}
use Rattle.volume_tree.specs.Laws.Stored.{Sized}
use Rattle.volume_tree.specs.Code.Lent.{entry_part}

-- Every entry of a volume is within its limits.
abbrev pub AllSized : ℕ → Volume → Type 0
AllSized b v = (i : ℕ) → i < length v → Sized b (entry_at v i)

-- An entry within its limits has an entry's length.
pub sized-length : (b : ℕ) (e : Entry) → Sized b e → length (encode_entry b e) ≡ entry_bytes b
sized-length b e s = length-entry b e s.name s.contents

-- An entry's part is what is left of the bytes behind the entries before it.
part-next : (b : ℕ) (x s : List ℕ) (i : ℕ) → length x ≡ entry_bytes b → entry_part b (x ++ s) (suc i) ≡ entry_part b s i
part-next b x s i l =
    let k : suc i * entry_bytes b ≡ length x + i * entry_bytes b = omega (arith, suc-mul i (entry_bytes b)) in
    rw (k, drop-append-add)

-- The part of an entry in a volume's bytes is that entry's bytes.
pub encode-part : (b : ℕ) (v : Volume) → AllSized b v → (i : ℕ) → i < length v → entry_part b (encode_volume b v) i ≡ encode_entry b (entry_at v i)
unfolding encode_volume
encode-part b [] h i l = absurd (omega arith)
encode-part b (e ∷ v) h zero l = rw (zero-mul (entry_bytes b)) (take_at (encode_entry b e) (encode_volume b v) (entry_bytes b) (sized-length b e (h 0 (omega arith))))
encode-part b (e ∷ v) h (suc i) l =
    part-next b (encode_entry b e) (encode_volume b v) i (sized-length b e (h 0 (omega arith)))
    ∙ encode-part b v (λ j k. h (suc j) (suc-le-suc k)) i (omega arith)

-- The part of the next entry is that of the entry in the bytes behind the first.
part-behind : (b : ℕ) (s : List ℕ) (i : ℕ) → entry_part b s (suc i) ≡ entry_part b (drop (entry_bytes b) s) i
part-behind b s i =
    let k : entry_bytes b + i * entry_bytes b ≡ suc i * entry_bytes b = omega (arith, suc-mul i (entry_bytes b)) in
    rw (drop-drop, k)

-- What has no elements is empty.
empty : (s : List ℕ) → length s ≡ 0 → [] ≡ s
empty [] e = refl
empty (a ∷ s) e = absurd (omega arith)

-- Bytes each of whose parts is the bytes of the entry that it tells of are those of the volume that they tell of.
pub parts-encode : (n b : ℕ) (s : List ℕ) → length s ≡ volume_bytes n b
    → ((i : ℕ) → i < n → encode_entry b (read_entry (entry_part b s i)) ≡ entry_part b s i) → encode_volume b (read_volume n b s) ≡ s
unfolding encode_volume read_volume
parts-encode zero b s l h = empty s (l ∙ zero-mul (entry_bytes b))
parts-encode (suc n) b s l h =
    let k : length (drop (entry_bytes b) s) ≡ volume_bytes n b = rw length-drop (omega (arith, suc-mul n (entry_bytes b))) in
    let first : encode_entry b (read_entry (take (entry_bytes b) s)) ≡ take (entry_bytes b) s = rw (zero-mul (entry_bytes b)) at (h 0 (omega arith)) in
    let rest = parts-encode n b (drop (entry_bytes b) s) k (λ i m. rw (part-behind b s i) at (h (suc i) (suc-le-suc m))) in
    rw (first, rest) (take-append-drop (entry_bytes b) s)

-- A change of one entry is a patch of the volume's bytes by that entry's bytes.
pub encode-set : (b : ℕ) (v : Volume) → AllSized b v → (i : ℕ) (e : Entry) → i < length v → Sized b e
    → encode_volume b (set v i e) ≡ patch (encode_volume b v) (i * entry_bytes b) (encode_entry b e)
unfolding encode_volume
encode-set b [] h i e l s = absurd (omega arith)
encode-set b (x ∷ v) h zero e l s =
    let k : length (encode_entry b x) ≡ entry_bytes b = sized-length b x (h 0 (omega arith)) in
    let m : length (encode_entry b e) ≡ entry_bytes b = sized-length b e s in
    rw (zero-mul (entry_bytes b), patch-first (encode_entry b x) (encode_volume b v) (encode_entry b e) (k ∙ sym m))
encode-set b (x ∷ v) h (suc i) e l s =
    let k : length (encode_entry b x) ≡ entry_bytes b = sized-length b x (h 0 (omega arith)) in
    let m : suc i * entry_bytes b ≡ length (encode_entry b x) + i * entry_bytes b = omega (arith, suc-mul i (entry_bytes b)) in
    rw (m, patch-behind) (ap (λ (t : List ℕ). encode_entry b x ++ t) (encode-set b v (λ j z. h (suc j) (suc-le-suc z)) i e (omega arith) s))
