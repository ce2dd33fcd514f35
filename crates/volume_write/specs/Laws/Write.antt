-- What a change of some bytes of one entry leaves of a volume of the right form.
-- Assumes nothing.
use Rattle.std.specs.Prelude.{ℕ, ◌+◌, ◌*◌, ◌≤◌, ◌<◌, ◌-◌, ◌≡◌, true, List, [], ◌++◌, length, set, take, drop, replicate}
use Rattle.std.proofs.Common.{zero-add, add-zero, arith, sym, ap, ap₂, ◌∙◌, append_assoc, append-nil, length-append, length-take, length-drop, drop_of_length-le, take_at, drop_at, drop-drop, length-take-le}
use Rattle.std.proofs.lemmas.List.{length-replicate}
use Rattle.std.proofs.Math.Seq.{take-append_seam}
use Rattle.buffer.specs.Patch.{patch}
use Rattle.buffer.specs.Numeral.{bytes}
use Rattle.buffer.specs.Laws.Numeral.{length-bytes}
use Rattle.volume_entry.specs.Entry.{Entry, free, is_file, has_name, kind_number, name_of, parent_of, contents_of, renamed, refilled}
use Rattle.volume_entry.specs.Laws.Entry.{renamed-name, renamed-parent, renamed-kind, renamed-contents, refilled-name, refilled-contents}
use Rattle.volume_entry.specs.Laws.Field.{new-fields}
use Rattle.volume_entry.specs.Stored.{entry_bytes, encode_entry, entry_of}
use Rattle.volume_entry.specs.Write.{head_field, resized}
use Rattle.volume_entry.specs.Laws.Write.{resized-length, patch-inside, length-patch, length-head, head-written, overwritten, appended, shortened, lengthened, cleared}
use Rattle.volume_tree.specs.Volume.{entry_at}
use Rattle.volume_tree.specs.Stored.{encode_volume, read_volume}
use Rattle.volume_tree.specs.Laws.Stored.{Sized, good-sized}
use Rattle.volume_tree.specs.Laws.Form.{well-formed-inv}
use Rattle.volume_tree.specs.Code.Lent.{entry_part, Formed}
use Rattle.volume_tree.specs.Laws.Lent.{entry-within, length-read}
use Rattle.volume_tree.specs.Laws.Part.{AllSized, encode-part, encode-set, sized-length}

-- A patch of all bytes leaves only what is put.
pub patch-all : (s x : List ℕ) → length s ≡ length x → patch s 0 x ≡ x
unfolding patch
patch-all s x h = rw (zero-add (length x), drop_of_length-le s {i = length x} (omega arith), append-nil)

-- What was just put stands where it was put.
put-there : (s : List ℕ) (at : ℕ) (x : List ℕ) → at ≤ length s → take (length x) (drop at (patch s at x)) ≡ x
unfolding patch
put-there s at x h =
    ap (take (length x)) (drop_at (take at s) (x ++ drop (at + length x) s) at (length-take-le at s h))
    ∙ take-append_seam x (drop (at + length x) s)

-- A second put of the same length at the same place covers the first.
patch-again : (s : List ℕ) (at : ℕ) (x y : List ℕ) → at ≤ length s → length y ≡ length x → patch (patch s at x) at y ≡ patch s at y
unfolding patch
patch-again s at x y h e =
    let rest = drop (at + length x) s in
    let front = take_at (take at s) (x ++ rest) at (length-take-le at s h) in
    let k : length (take at s ++ x) ≡ at + length y = rw (length-append, length-take-le at s h, e) in
    let behind : drop (at + length y) (take at s ++ (x ++ rest)) ≡ drop (at + length y) s =
    rw (← append_assoc (take at s) x rest, drop_at (take at s ++ x) rest (at + length y) k, e) in
    ap₂ (λ (p q : List ℕ). p ++ (y ++ q)) front behind

-- A patch inside what was just put is a patch by what it makes of that.
patch-patch : (s : List ℕ) (at : ℕ) (x : List ℕ) (off : ℕ) (u : List ℕ) → at + length x ≤ length s → off + length u ≤ length x
    → patch (patch s at x) (at + off) u ≡ patch s at (patch x off u)
patch-patch s at x off u h l =
    let q : length (patch s at x) ≡ length s = length-patch s at x h in
    patch-inside (patch s at x) at (length x) off u l (omega arith)
    ∙ ap (λ (r : List ℕ). patch (patch s at x) at (patch r off u)) (put-there s at x (omega arith))
    ∙ patch-again s at x (patch x off u) (omega arith) (length-patch x off u l)

-- A part that was lent and came back with other bytes is a patch of the whole.
pub lent-part : (s : List ℕ) (a e : ℕ) (x : List ℕ) → length x ≡ e - a → take a s ++ (x ++ drop (e - a) (drop a s)) ≡ patch s a x
unfolding patch
lent-part s a e x h = rw (drop-drop, h)

-- A part that was lent and came back patched is a patch of the whole, further on.
pub lent-patched : (s : List ℕ) (a e off : ℕ) (u x : List ℕ) → a ≤ e → e ≤ length s → off + length u ≤ e - a
    → x ≡ patch (take (e - a) (drop a s)) off u → take a s ++ (x ++ drop (e - a) (drop a s)) ≡ patch s (a + off) u
lent-patched s a e off u x h l m q =
    let k : length (take (e - a) (drop a s)) ≡ e - a = simp (length-take, length-drop) (omega arith) in
    let z : length x ≡ e - a = ap length q ∙ length-patch (take (e - a) (drop a s)) off u (omega arith) ∙ k in
    lent-part s a e x z ∙ ap (patch s a) q ∙ sym (patch-inside s a (e - a) off u m (omega arith))

-- A part that was lent and came back all zero is a patch by zeros.
pub lent-cleared : (s : List ℕ) (a e : ℕ) (x : List ℕ) → a ≤ e → e ≤ length s → x ≡ replicate (length (take (e - a) (drop a s))) 0
    → take a s ++ (x ++ drop (e - a) (drop a s)) ≡ patch s a (replicate (e - a) 0)
lent-cleared s a e x h l q =
    let k : length (take (e - a) (drop a s)) ≡ e - a = simp (length-take, length-drop) (omega arith) in
    let z : x ≡ replicate (e - a) 0 = q ∙ ap (λ (j : ℕ). replicate j 0) k in
    lent-part s a e x (ap length z ∙ length-replicate (e - a) 0) ∙ ap (patch s a) z

-- A head tells of an entry that has its kind, parent and name.
head_of : (y : Entry) {kind parent : ℕ} {name : List ℕ} → kind_number y ≡ kind → parent_of y ≡ parent → name_of y ≡ name
    → head_field kind parent name ≡ head_field (kind_number y) (parent_of y) (name_of y)
head_of y k p n = rw (k, p, n)

-- A file with other contents is within its limits if they are.
refilled-sized : (b : ℕ) (x : Entry) (c : List ℕ) → is_file x ≡ true → length c ≤ 1024 * b → Sized b x → Sized b (refilled x c)
refilled-sized b x c t h z = record { name = rw (refilled-name x c) z.name; contents = rw (refilled-contents x c t) h }

module _ (n b : ℕ) (s : List ℕ) (f : Formed n b s) where
  -- Each entry of a volume of the right form is within its limits.
  pub formed-sized : AllSized b (read_volume n b s)
  formed-sized = good-sized n b (read_volume n b s) (well-formed-inv n b (read_volume n b s) f.form)

  module _ (i : ℕ) (h : i < n) where
    -- An entry's number is below the length of the volume.
    pub formed_below : i < length (read_volume n b s)
    formed_below = rw (length-read n b s) h

    -- The part of an entry is that entry's bytes.
    pub formed-part : entry_part b s i ≡ encode_entry b (entry_at (read_volume n b s) i)
    formed-part =
        ap (λ (t : List ℕ). entry_part b t i) (sym f.stored) ∙ encode-part b (read_volume n b s) formed-sized i formed_below

    -- Another entry's bytes in the place of an entry's.
    pub replaced : (y : Entry) → Sized b y → patch s (i * entry_bytes b) (encode_entry b y) ≡ encode_volume b (set (read_volume n b s) i y)
    replaced y z =
        ap (λ (t : List ℕ). patch t (i * entry_bytes b) (encode_entry b y)) (sym f.stored)
        ∙ sym (encode-set b (read_volume n b s) formed-sized i y formed_below z)

    -- A change of some bytes of an entry is a change of the entry.
    pub changed : (y : Entry) (off : ℕ) (u : List ℕ) → Sized b y → off + length u ≤ entry_bytes b
        → patch (encode_entry b (entry_at (read_volume n b s) i)) off u ≡ encode_entry b y
        → patch s (i * entry_bytes b + off) u ≡ encode_volume b (set (read_volume n b s) i y)
    changed y off u z l e =
        let w : i * entry_bytes b + entry_bytes b ≤ length s = omega (arith, entry-within n b i h, f.lent.whole) in
        patch-inside s (i * entry_bytes b) (entry_bytes b) off u l w
        ∙ ap (λ (t : List ℕ). patch s (i * entry_bytes b) t) (ap (λ (t : List ℕ). patch t off u) formed-part ∙ e) ∙ replaced y z

    -- Two changes of some bytes of an entry are a change of the entry.
    pub changed-twice : (y : Entry) (off : ℕ) (u : List ℕ) (at : ℕ) (t : List ℕ) → Sized b y → off + length u ≤ entry_bytes b → at + length t ≤ entry_bytes b
        → patch (patch (encode_entry b (entry_at (read_volume n b s) i)) off u) at t ≡ encode_entry b y
        → patch (patch s (i * entry_bytes b + off) u) (i * entry_bytes b + at) t ≡ encode_volume b (set (read_volume n b s) i y)
    changed-twice y off u at t z l m e =
        let w : i * entry_bytes b + entry_bytes b ≤ length s = omega (arith, entry-within n b i h, f.lent.whole) in
        let x = encode_entry b (entry_at (read_volume n b s) i) in
        let k : length x ≡ entry_bytes b = sized-length b (entry_at (read_volume n b s) i) (formed-sized i formed_below) in
        let k' : length (patch x off u) ≡ entry_bytes b = length-patch x off u (omega arith) ∙ k in
        let one : patch s (i * entry_bytes b + off) u ≡ patch s (i * entry_bytes b) (patch x off u) =
        patch-inside s (i * entry_bytes b) (entry_bytes b) off u l w ∙ ap (λ (r : List ℕ). patch s (i * entry_bytes b) (patch r off u)) formed-part in
        ap (λ (r : List ℕ). patch r (i * entry_bytes b + at) t) one
        ∙ patch-patch s (i * entry_bytes b) (patch x off u) at t (omega arith) (omega arith)
        ∙ ap (λ (r : List ℕ). patch s (i * entry_bytes b) r) e ∙ replaced y z

    -- The limits of the entry there.
    pub formed-entry : Sized b (entry_at (read_volume n b s) i)
    formed-entry = formed-sized i formed_below

    -- Some bytes at the start of an entry.
    changed-first : (y : Entry) (u : List ℕ) → Sized b y → length u ≤ entry_bytes b
        → patch (encode_entry b (entry_at (read_volume n b s) i)) 0 u ≡ encode_entry b y
        → patch s (i * entry_bytes b) u ≡ encode_volume b (set (read_volume n b s) i y)
    changed-first y u z l e =
        ap (λ (k : ℕ). patch s k u) (sym (add-zero (i * entry_bytes b))) ∙ changed y 0 u z (omega arith) e

    -- An entry made zero is free.
    pub freed : patch s (i * entry_bytes b) (replicate (entry_bytes b) 0) ≡ encode_volume b (set (read_volume n b s) i free)
    freed =
        changed-first free (replicate (entry_bytes b) 0) (record { name = omega arith; contents = omega arith })
        (rw (length-replicate {A = ℕ} (entry_bytes b) 0) (omega arith))
        (cleared b (entry_at (read_volume n b s) i) formed-entry.name formed-entry.contents)

    -- A head in a free entry makes a file or a directory.
    pub made : (kind parent : ℕ) (name : List ℕ) → entry_at (read_volume n b s) i ≡ free → 1 ≤ kind → kind ≤ 2 → length name ≤ 60
        → patch s (i * entry_bytes b) (head_field kind parent name) ≡ encode_volume b (set (read_volume n b s) i (entry_of kind name parent []))
    made kind parent name e h k l =
        let y = entry_of kind name parent [] in
        let x = new-fields kind name parent h k in
        let z : Sized b y = record { name = rw x.1 l; contents = rw x.3 (omega arith) } in
        changed-first y (head_field kind parent name) z (rw (length-head kind parent name l) (omega arith))
        (ap (patch (encode_entry b (entry_at (read_volume n b s) i)) 0) (head_of y x.0 x.2 x.1)
        ∙ head-written b (entry_at (read_volume n b s) i) y formed-entry.name z.name (x.3 ∙ ap contents_of (sym e)))

    -- A head with the entry's own kind renames it.
    pub renamed-to : (parent : ℕ) (name : List ℕ) → has_name (entry_at (read_volume n b s) i) ≡ true → length name ≤ 60
        → patch s (i * entry_bytes b) (head_field (kind_number (entry_at (read_volume n b s) i)) parent name)
        ≡ encode_volume b (set (read_volume n b s) i (renamed (entry_at (read_volume n b s) i) name parent))
    renamed-to parent name u l =
        let x = entry_at (read_volume n b s) i in
        let y = renamed x name parent in
        let m = renamed-name x name parent u in
        let z : Sized b y = record { name = rw m l; contents = rw (renamed-contents x name parent) formed-entry.contents } in
        changed-first y (head_field (kind_number x) parent name) z (rw (length-head (kind_number x) parent name l) (omega arith))
        (ap (patch (encode_entry b x) 0) (head_of y (renamed-kind x name parent) (renamed-parent x name parent u) m)
        ∙ head-written b x y formed-entry.name z.name (renamed-contents x name parent))

    -- Data written over those of a file.
    pub overwritten-at : (o : ℕ) (u : List ℕ) → is_file (entry_at (read_volume n b s) i) ≡ true
        → o + length u ≤ length (contents_of (entry_at (read_volume n b s) i))
        → patch s (i * entry_bytes b + (68 + o)) u
        ≡ encode_volume b (set (read_volume n b s) i (refilled (entry_at (read_volume n b s) i) (patch (contents_of (entry_at (read_volume n b s) i)) o u)))
    overwritten-at o u t l =
        let x = entry_at (read_volume n b s) i in
        let c = contents_of x in
        let z = formed-entry.contents in
        changed (refilled x (patch c o u)) (68 + o) u
        (refilled-sized b x (patch c o u) t (rw (length-patch c o u l) z) formed-entry) (omega arith)
        (overwritten b x o u t formed-entry.name z l)

    -- Data added at the end of a file, and its new length.
    pub appended-at : (o : ℕ) (u : List ℕ) → is_file (entry_at (read_volume n b s) i) ≡ true
        → o ≡ length (contents_of (entry_at (read_volume n b s) i)) → o + length u ≤ 1024 * b
        → patch (patch s (i * entry_bytes b + (68 + o)) u) (i * entry_bytes b + 64) (bytes 4 (o + length u))
        ≡ encode_volume b (set (read_volume n b s) i (refilled (entry_at (read_volume n b s) i) (contents_of (entry_at (read_volume n b s) i) ++ u)))
    appended-at o u t e l =
        let x = entry_at (read_volume n b s) i in
        let c = contents_of x in
        changed-twice (refilled x (c ++ u)) (68 + o) u 64 (bytes 4 (o + length u))
        (refilled-sized b x (c ++ u) t (rw (length-append c u, ← e) l) formed-entry) (omega arith) (rw (length-bytes 4 (o + length u)) (omega arith))
        (appended b x o u t formed-entry.name e l)

    -- A file that is cut off or gains zeros, and its new length.
    module _ (k : ℕ) (t : is_file (entry_at (read_volume n b s) i) ≡ true) (l : k ≤ 1024 * b) where
      resized-sized : Sized b (refilled (entry_at (read_volume n b s) i) (resized (contents_of (entry_at (read_volume n b s) i)) k))
      resized-sized =
          refilled-sized b (entry_at (read_volume n b s) i) (resized (contents_of (entry_at (read_volume n b s) i)) k) t
          (rw (resized-length (contents_of (entry_at (read_volume n b s) i)) k) l) formed-entry

      pub shortened-at : k ≤ length (contents_of (entry_at (read_volume n b s) i))
          → patch (patch s (i * entry_bytes b + (68 + k)) (replicate (length (contents_of (entry_at (read_volume n b s) i)) - k) 0)) (i * entry_bytes b + 64) (bytes 4 k)
          ≡ encode_volume b (set (read_volume n b s) i (refilled (entry_at (read_volume n b s) i) (resized (contents_of (entry_at (read_volume n b s) i)) k)))
      shortened-at h =
          let x = entry_at (read_volume n b s) i in
          let c = contents_of x in
          let z = formed-entry.contents in
          changed-twice (refilled x (resized c k)) (68 + k) (replicate (length c - k) 0) 64 (bytes 4 k) resized-sized
          (rw (length-replicate {A = ℕ} (length c - k) 0) (omega arith)) (rw (length-bytes 4 k) (omega arith))
          (shortened b x k t formed-entry.name z h)

      pub lengthened-at : length (contents_of (entry_at (read_volume n b s) i)) ≤ k
          → patch (patch s (i * entry_bytes b + (68 + length (contents_of (entry_at (read_volume n b s) i)))) (replicate (k - length (contents_of (entry_at (read_volume n b s) i))) 0))
          (i * entry_bytes b + 64) (bytes 4 k)
          ≡ encode_volume b (set (read_volume n b s) i (refilled (entry_at (read_volume n b s) i) (resized (contents_of (entry_at (read_volume n b s) i)) k)))
      lengthened-at h =
          let x = entry_at (read_volume n b s) i in
          let c = contents_of x in
          changed-twice (refilled x (resized c k)) (68 + length c) (replicate (k - length c) 0) 64 (bytes 4 k) resized-sized
          (rw (length-replicate {A = ℕ} (k - length c) 0) (omega arith)) (rw (length-bytes 4 k) (omega arith))
          (lengthened b x k t formed-entry.name h l)
