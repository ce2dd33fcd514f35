-- The bytes of an entry after a change (document 01, "Calls"), as patches of the bytes before it. Assumes nothing.
use Rattle.std.specs.Prelude.{ℕ, ◌+◌, ◌*◌, ◌≤◌, ◌-◌, ◌≡◌, refl, true, List, [], ◌++◌, length, take, drop, replicate}
use Rattle.std.proofs.Common.{zero-add, arith, sym, ap, ap₂, ◌∙◌, append_assoc, append-nil, length-append, length-take, length-drop, take-append-drop, length-take-le, take_all, drop_at}
use Rattle.std.proofs.lemmas.Bool.{false≢true}
use Rattle.std.proofs.lemmas.List.{length-replicate, replicate-append-replicate, take-append-le, drop-append-le}
use Rattle.std.proofs.Math.Seq.{take-append-add, drop-append-add}
use Rattle.buffer.specs.Numeral.{bytes}
use Rattle.buffer.specs.Laws.Numeral.{length-bytes}
use Rattle.buffer.specs.Patch.{patch}
use Rattle.volume_entry.specs.Entry.{Entry, free, file, directory, kind_number, name_of, parent_of, contents_of, is_file, refilled}
use Rattle.volume_entry.specs.Stored.{padded, entry_bytes, encode_entry}
use Rattle.volume_entry.specs.Write.{head_field, resized}
use Rattle.volume_entry.specs.Laws.Entry.{length-entry, free-zero}

-- A patch behind the bytes in front of it.
pub patch-behind : (x s : List ℕ) (at : ℕ) (v : List ℕ) → patch (x ++ s) (length x + at) v ≡ x ++ patch s at v
unfolding patch
patch-behind x s at v =
    let k : length x + at + length v ≡ length x + (at + length v) = omega arith in
    rw (k, drop-append-add, take-append-add) (append_assoc x (take at s) (v ++ drop (at + length v) s))

-- A patch of what stands in front.
pub patch-first : (x s v : List ℕ) → length x ≡ length v → patch (x ++ s) 0 v ≡ v ++ s
unfolding patch
patch-first x s v l = rw (zero-add (length v), drop_at x s (length v) l)

-- A patch before the bytes behind it.
patch-before : (x s : List ℕ) (at : ℕ) (v : List ℕ) → at + length v ≤ length x → patch (x ++ s) at v ≡ patch x at v ++ s
unfolding patch
patch-before x s at v h =
    let k : at ≤ length x = omega arith in
    rw (take-append-le at x s, drop-append-le (at + length v) x s) (simp append_assoc)

-- A patch of all that stands between two parts.
pub patch-between : (x y z : List ℕ) (at : ℕ) (v : List ℕ) → length x ≡ at → length y ≡ length v → patch (x ++ (y ++ z)) at v ≡ x ++ (v ++ z)
patch-between x y z at v l m =
    let k : at ≡ length x + 0 = omega arith in
    rw (k, patch-behind, patch-first y z v m)

-- A patch that fits keeps the length.
pub length-patch : (s : List ℕ) (at : ℕ) (u : List ℕ) → at + length u ≤ length s → length (patch s at u) ≡ length s
unfolding patch
length-patch s at u h =
    let k : length (take at s) ≡ at = length-take-le at s (omega arith) in
    simp (length-append, length-drop) (omega arith)

-- A patch of a part is a patch of the whole.
pub patch-inside : (s : List ℕ) (at k off : ℕ) (u : List ℕ) → off + length u ≤ k → at + k ≤ length s
    → patch s (at + off) u ≡ patch s at (patch (take k (drop at s)) off u)
patch-inside s at k off u h m =
    let x = take at s in
    let y = take k (drop at s) in
    let z = drop k (drop at s) in
    let l : length x ≡ at = length-take-le at s (omega arith) in
    let n : length y ≡ k = length-take-le k (drop at s) (rw (length-drop at s) (omega arith)) in
    let whole : s ≡ x ++ (y ++ z) = sym (ap (λ (r : List ℕ). x ++ r) (take-append-drop k (drop at s)) ∙ take-append-drop at s) in
    let here : patch (x ++ (y ++ z)) (at + off) u ≡ x ++ (patch y off u ++ z) =
    ap (λ (i : ℕ). patch (x ++ (y ++ z)) (i + off) u) (sym l)
    ∙ patch-behind x (y ++ z) off u ∙ ap (λ (r : List ℕ). x ++ r) (patch-before y z off u (omega arith)) in
    let there : patch (x ++ (y ++ z)) at (patch y off u) ≡ x ++ (patch y off u ++ z) =
    patch-between x y z at (patch y off u) l (sym (length-patch y off u (omega arith))) in
    ap (λ (r : List ℕ). patch r (at + off) u) whole ∙ here ∙ sym there ∙ ap (λ (r : List ℕ). patch r at (patch y off u)) (sym whole)

-- the head of an entry
abbrev head_of : Entry → List ℕ
head_of e = head_field (kind_number e) (parent_of e) (name_of e)

-- An entry's head has 64 bytes.
pub length-head : (k p : ℕ) (n : List ℕ) → length n ≤ 60 → length (head_field k p n) ≡ 64
unfolding head_field
length-head k p n h = simp (length-append, length-bytes, length-replicate) (omega arith)

-- An entry is its head, the length of its contents, and its contents.
entry-parts : (b : ℕ) (e : Entry) → encode_entry b e ≡ head_of e ++ (bytes 4 (length (contents_of e)) ++ padded (1024 * b) (contents_of e))
unfolding encode_entry head_field
entry-parts b e = simp append_assoc

-- An entry under another head.
pub head-written : (b : ℕ) (x y : Entry) → length (name_of x) ≤ 60 → length (name_of y) ≤ 60 → contents_of y ≡ contents_of x
    → patch (encode_entry b x) 0 (head_field (kind_number y) (parent_of y) (name_of y)) ≡ encode_entry b y
head-written b x y h k same =
    let l : length (head_of x) ≡ 64 = length-head _ _ (name_of x) h in
    let m : length (head_of y) ≡ 64 = length-head _ _ (name_of y) k in
    rw (entry-parts b x, entry-parts b y, same) (patch-first (head_of x) _ (head_of y) (l ∙ sym m))

-- Contents have the length that is set.
pub resized-length : (c : List ℕ) (f : ℕ) → length (resized c f) ≡ f
resized-length c f = simp (length-append, length-take, length-replicate) (omega arith)

-- so many zeros
abbrev blank : ℕ → List ℕ
blank k = replicate k 0

-- An entry made zero is free.
pub cleared : (b : ℕ) (x : Entry) → length (name_of x) ≤ 60 → length (contents_of x) ≤ 1024 * b
    → patch (encode_entry b x) 0 (replicate (entry_bytes b) 0) ≡ encode_entry b free
cleared b x h k =
    let l : length (encode_entry b x) ≡ length (blank (entry_bytes b)) = length-entry b x h k ∙ sym (length-replicate (entry_bytes b) 0) in
    ap (λ (r : List ℕ). patch r 0 (blank (entry_bytes b))) (sym (append-nil (encode_entry b x)))
    ∙ patch-first (encode_entry b x) [] (blank (entry_bytes b)) l
    ∙ append-nil (blank (entry_bytes b))
    ∙ sym (free-zero b)

-- The parts of a file with other contents.
refilled-parts : (b : ℕ) (x : Entry) (d : List ℕ) → is_file x ≡ true
    → encode_entry b (refilled x d) ≡ head_of x ++ (bytes 4 (length d) ++ padded (1024 * b) d)
refilled-parts b free d h = absurd (false≢true h)
refilled-parts b (file n p c) d h = entry-parts b (file n p d)
refilled-parts b (directory n p) d h = absurd (false≢true h)

module _ (b : ℕ) (x : Entry) (name : length (name_of x) ≤ 60) (f : ℕ) (u : List ℕ) where
  -- A patch of the contents' part is one of the entry.
  data-patch : patch (encode_entry b x) (68 + f) u ≡ head_of x ++ (bytes 4 (length (contents_of x)) ++ patch (padded (1024 * b) (contents_of x)) f u)
  data-patch =
      let four = bytes 4 (length (contents_of x)) in
      let front = head_of x ++ four in
      let l : 68 + f ≡ length front + f = simp (length-append, length-bytes) (omega (arith, length-head (kind_number x) (parent_of x) (name_of x) name)) in
      let e : encode_entry b x ≡ front ++ padded (1024 * b) (contents_of x) = entry-parts b x ∙ sym (append_assoc (head_of x) four _) in
      ap₂ (λ (r : List ℕ) (i : ℕ). patch r i u) e l ∙ patch-behind front _ f u ∙ append_assoc (head_of x) four _

  -- A patch of the contents' part and one of the length make a file with other contents, if their bytes are then in that part.
  data-length-patch : (k : ℕ) (d : List ℕ) → is_file x ≡ true → k ≡ length d → patch (padded (1024 * b) (contents_of x)) f u ≡ padded (1024 * b) d
      → patch (patch (encode_entry b x) (68 + f) u) 64 (bytes 4 k) ≡ encode_entry b (refilled x d)
  data-length-patch k d h size same =
      let four = bytes 4 (length (contents_of x)) in
      let l : length four ≡ length (bytes 4 k) = length-bytes 4 (length (contents_of x)) ∙ sym (length-bytes 4 k) in
      ap (λ (r : List ℕ). patch r 64 (bytes 4 k)) (data-patch ∙ ap (λ (r : List ℕ). head_of x ++ (four ++ r)) same)
      ∙ patch-between (head_of x) four _ 64 (bytes 4 k) (length-head _ _ (name_of x) name) l
      ∙ ap (λ (i : ℕ). head_of x ++ (bytes 4 i ++ padded (1024 * b) d)) size
      ∙ sym (refilled-parts b x d h)

-- A file some of whose bytes are written over.
pub overwritten : (b : ℕ) (x : Entry) (f : ℕ) (u : List ℕ) → is_file x ≡ true → length (name_of x) ≤ 60 → length (contents_of x) ≤ 1024 * b
    → f + length u ≤ length (contents_of x)
    → patch (encode_entry b x) (68 + f) u ≡ encode_entry b (refilled x (patch (contents_of x) f u))
overwritten b x f u h name w k =
    let c = contents_of x in
    data-patch b x name f u
    ∙ ap (λ (r : List ℕ). head_of x ++ (bytes 4 (length c) ++ r)) (patch-before c (blank (1024 * b - length c)) f u k)
    ∙ ap (λ (i : ℕ). head_of x ++ (bytes 4 i ++ (patch c f u ++ blank (1024 * b - i)))) (sym (length-patch c f u k))
    ∙ sym (refilled-parts b x (patch c f u) h)

-- Padded bytes with others added at their end.
padded-more : (w : ℕ) (c u : List ℕ) → length c + length u ≤ w → patch (padded w c) (length c) u ≡ padded w (c ++ u)
padded-more w c u k =
    let left = w - length (c ++ u) in
    let size : length (c ++ u) ≡ length c + length u = length-append c u in
    let room : w - length c ≡ length u + left = omega arith in
    let zeros : blank (w - length c) ≡ blank (length u) ++ blank left = ap blank room ∙ sym (replicate-append-replicate (length u) left 0) in
    ap (λ (r : List ℕ). patch (c ++ r) (length c) u) zeros
    ∙ patch-between c (blank (length u)) (blank left) (length c) u refl (length-replicate (length u) 0)
    ∙ sym (append_assoc c u (blank left))

-- A file with bytes added at its end.
pub appended : (b : ℕ) (x : Entry) (f : ℕ) (u : List ℕ) → is_file x ≡ true → length (name_of x) ≤ 60 → f ≡ length (contents_of x) → f + length u ≤ 1024 * b
    → patch (patch (encode_entry b x) (68 + f) u) 64 (bytes 4 (f + length u)) ≡ encode_entry b (refilled x (contents_of x ++ u))
appended b x f u h name at k =
    let c = contents_of x in
    let size : f + length u ≡ length (c ++ u) = rw length-append (omega arith) in
    data-length-patch b x name f u (f + length u) (c ++ u) h size (rw at (padded-more (1024 * b) c u (omega arith)))

-- Padded bytes, cut off.
padded-cut : (w : ℕ) (c : List ℕ) (f : ℕ) → length c ≤ w → f ≤ length c → patch (padded w c) f (blank (length c - f)) ≡ padded w (take f c)
padded-cut w c f h k =
    let t = take f c in
    let v = blank (length c - f) in
    let behind = blank (w - length c) in
    let l : length t ≡ f = length-take-le f c k in
    let cut : length (drop f c) ≡ length v = length-drop f c ∙ sym (length-replicate (length c - f) 0) in
    let room : length c - f + (w - length c) ≡ w - length t = omega arith in
    let zeros : v ++ behind ≡ blank (w - length t) = rw (← room) (replicate-append-replicate (length c - f) (w - length c) 0) in
    let parts : padded w c ≡ t ++ (drop f c ++ behind) =
    ap (λ (r : List ℕ). r ++ behind) (sym (take-append-drop f c)) ∙ append_assoc t (drop f c) behind in
    rw (parts, patch-between t (drop f c) behind f v l cut, zeros)

-- A file that is cut off.
pub shortened : (b : ℕ) (x : Entry) (f : ℕ) → is_file x ≡ true → length (name_of x) ≤ 60 → length (contents_of x) ≤ 1024 * b
    → f ≤ length (contents_of x)
    → patch (patch (encode_entry b x) (68 + f) (replicate (length (contents_of x) - f) 0)) 64 (bytes 4 f)
    ≡ encode_entry b (refilled x (resized (contents_of x) f))
shortened b x f h name w k =
    let c = contents_of x in
    let none : f - length c ≡ 0 = omega arith in
    let kept : take f c ≡ resized c f = sym (ap (λ (i : ℕ). take f c ++ blank i) none ∙ append-nil (take f c)) in
    let size : f ≡ length (take f c) = sym (length-take-le f c k) in
    data-length-patch b x name f (blank (length c - f)) f (take f c) h size (padded-cut (1024 * b) c f w k)
    ∙ ap (λ (r : List ℕ). encode_entry b (refilled x r)) kept

-- A file that gains zeros.
pub lengthened : (b : ℕ) (x : Entry) (f : ℕ) → is_file x ≡ true → length (name_of x) ≤ 60 → length (contents_of x) ≤ f → f ≤ 1024 * b
    → patch (patch (encode_entry b x) (68 + length (contents_of x)) (replicate (f - length (contents_of x)) 0)) 64 (bytes 4 f) ≡ encode_entry b (refilled x (resized (contents_of x) f))
lengthened b x f h name k w =
    let c = contents_of x in
    let u = blank (f - length c) in
    let l : length u ≡ f - length c = length-replicate (f - length c) 0 in
    let size : f ≡ length c + length u = omega arith in
    ap (λ (i : ℕ). patch (patch (encode_entry b x) (68 + length c) u) 64 (bytes 4 i)) size
    ∙ appended b x (length c) u h name refl (omega arith)
    ∙ ap (λ (r : List ℕ). encode_entry b (refilled x (r ++ u))) (sym (take_all f c k))
