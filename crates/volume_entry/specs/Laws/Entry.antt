-- The bytes of one entry (document 01, "Geometry and stored form"): their number, and the entry read back from them.
-- Assumes nothing.
use Rattle.std.specs.Prelude.{ℕ, ◌+◌, ◌*◌, ◌/◌, ◌%◌, ◌^◌, ◌≤◌, ◌<◌, ◌-◌, ◌≡◌, refl, Bool, true, false, ◌&&◌, List, [], ◌∷◌, ◌++◌, length, take, drop, replicate, eqb}
use Rattle.std.proofs.Common.{arith, sym, ap, ap₂, ◌∙◌, append_assoc, length-append, eq-eqb, eqb-true, drop_at, drop-drop}
use Rattle.std.proofs.Math.Bool.{and-eq-true_iff}
use Rattle.std.proofs.lemmas.Bool.{false≢true}
use Rattle.std.proofs.lemmas.List.{length-replicate, replicate-append-replicate}
use Rattle.std.proofs.Math.Seq.{take-append_seam}
use Rattle.buffer.specs.Numeral.{bytes, numeral}
use Rattle.buffer.specs.Laws.Numeral.{length-bytes, numeral-bytes}
use Rattle.volume_entry.specs.Entry.{Entry, free, file, directory, kind_number, name_of, parent_of, contents_of, is_used, is_file, is_directory, has_name, renamed, refilled}
use Rattle.volume_entry.specs.Stored.{padded, entry_bytes, encode_entry, same_bytes, same_entry, entry_of, read_entry}

-- Bytes that are found to be the same are equal.
pub same_bytes-eq : (s t : List ℕ) → same_bytes s t ≡ true → s ≡ t
unfolding same_bytes
same_bytes-eq [] [] e = refl
same_bytes-eq [] (b ∷ t) e = absurd (false≢true e)
same_bytes-eq (a ∷ s) [] e = absurd (false≢true e)
same_bytes-eq (a ∷ s) (b ∷ t) e =
    let h = (and-eq-true_iff (eqb a b) (same_bytes s t)).0 e in
    ap₂ (λ (v : ℕ) (r : List ℕ). v ∷ r) (eqb-true a b h.0) (same_bytes-eq s t h.1)

-- Bytes are found to be the same as themselves.
pub bytes_same : (s : List ℕ) → same_bytes s s ≡ true
unfolding same_bytes
bytes_same [] = refl
bytes_same (a ∷ s) = rw (eq-eqb a a refl) (bytes_same s)

-- Entries that are found to be the same are equal.
pub same-entry : (d e : Entry) → same_entry d e ≡ true → d ≡ e
same-entry free free t = refl
same-entry free (file m q d) t = absurd (false≢true t)
same-entry free (directory m q) t = absurd (false≢true t)
same-entry (file n p c) free t = absurd (false≢true t)
same-entry (file n p c) (file m q d) t =
    let h = (and-eq-true_iff (same_bytes n m) (eqb p q && same_bytes c d)).0 t in
    let k = (and-eq-true_iff (eqb p q) (same_bytes c d)).0 h.1 in
    ap₂ (λ (r : List ℕ) (i : ℕ). file r i c) (same_bytes-eq n m h.0) (eqb-true p q k.0) ∙ ap (file m q) (same_bytes-eq c d k.1)
same-entry (file n p c) (directory m q) t = absurd (false≢true t)
same-entry (directory n p) free t = absurd (false≢true t)
same-entry (directory n p) (file m q d) t = absurd (false≢true t)
same-entry (directory n p) (directory m q) t =
    let h = (and-eq-true_iff (same_bytes n m) (eqb p q && same_bytes [] [])).0 t in
    let k = (and-eq-true_iff (eqb p q) (same_bytes [] [])).0 h.1 in
    ap₂ (λ (r : List ℕ) (i : ℕ). directory r i) (same_bytes-eq n m h.0) (eqb-true p q k.0)

-- An entry is found to be the same as itself.
pub entry-same : (e : Entry) → same_entry e e ≡ true
entry-same e =
    rw (eq-eqb (kind_number e) (kind_number e) refl, bytes_same (name_of e), eq-eqb (parent_of e) (parent_of e) refl) (bytes_same (contents_of e))

-- Bytes that fit a width have that width with their zeros.
pub length-padded : (w : ℕ) (s : List ℕ) → length s ≤ w → length (padded w s) ≡ w
length-padded w s h = simp (length-append, length-replicate) (omega arith)

-- An entry within its limits has 68 + 1,024 × b bytes.
pub length-entry : (b : ℕ) (e : Entry) → length (name_of e) ≤ 60 → length (contents_of e) ≤ 1024 * b
    → length (encode_entry b e) ≡ entry_bytes b
unfolding encode_entry
length-entry b e h k = simp (length-append, length-bytes, length-replicate) (omega arith)

-- "a free entry is all zero"
pub free-zero : (b : ℕ) → encode_entry b free ≡ replicate (entry_bytes b) 0
unfolding encode_entry bytes
free-zero b =
    let k : 1024 * b - 0 ≡ 1024 * b = omega arith in
    ap (λ (n : ℕ). replicate 68 0 ++ replicate n 0) k ∙ replicate-append-replicate 68 (1024 * b) 0

-- An entry is told by its kind, name, parent and contents.
pub entry-of : (e : Entry) → entry_of (kind_number e) (name_of e) (parent_of e) (contents_of e) ≡ e
entry-of free = refl
entry-of (file n p c) = refl
entry-of (directory n p) = refl

-- A kind's number is at most 2.
kind-small : (e : Entry) → kind_number e ≤ 2
kind-small free = omega arith
kind-small (file n p c) = omega arith
kind-small (directory n p) = omega arith

-- What stands first in a padded field is read back from it.
take-padded : (w : ℕ) (s rest : List ℕ) → take (length s) (padded w s ++ rest) ≡ s
take-padded w s rest =
    ap (take (length s)) (append_assoc s (replicate (w - length s) 0) rest)
    ∙ take-append_seam s (replicate (w - length s) 0 ++ rest)

-- An entry within its limits is read back from its bytes.
pub read-entry : (b : ℕ) (e : Entry) → length (name_of e) ≤ 60 → parent_of e < 65536 → length (contents_of e) ≤ 1024 * b → 1024 * b < 2 ^ 32
    → read_entry (encode_entry b e) ≡ e
unfolding read_entry encode_entry bytes numeral
read-entry b e h p k m =
    let ks = kind-small e in
    let n = name_of e in
    let c = contents_of e in
    let tail = bytes 4 (length c) ++ padded (1024 * b) c in
    let rest = padded 60 n ++ tail in
    let two = parent_of e % 256 + 256 * (parent_of e / 256 % 256 + 256 * 0) in
    let last = take (numeral (take 4 (drop 60 rest))) (drop 64 rest) in
    let kind : kind_number e % 256 ≡ kind_number e = omega arith in
    let size : length n % 256 ≡ length n = omega arith in
    let name : take (length n % 256) rest ≡ n = ap (λ (j : ℕ). take j rest) size ∙ take-padded 60 n tail in
    let parent : two ≡ parent_of e = omega arith in
    let behind : drop 60 rest ≡ tail = drop_at (padded 60 n) tail 60 (length-padded 60 n h) in
    let four : numeral (bytes 4 (length c)) ≡ length c = numeral-bytes 4 (length c) (omega arith) in
    let long : numeral (take 4 (drop 60 rest)) ≡ length c = ap (λ (s : List ℕ). numeral (take 4 s)) behind ∙ four in
    let after : drop 64 rest ≡ padded (1024 * b) c = sym (drop-drop 4 60 rest) ∙ ap (drop 4) behind in
    let all : take (length c) (padded (1024 * b) c) ≡ c = take-append_seam c (replicate (1024 * b - length c) 0) in
    let contents : last ≡ c = ap₂ (λ (j : ℕ) (s : List ℕ). take j s) long after ∙ all in
    ap₂ (λ (j : ℕ) (s : List ℕ). entry_of j s two last) kind name
    ∙ ap₂ (λ (j : ℕ) (s : List ℕ). entry_of (kind_number e) n j s) parent contents
    ∙ entry-of e

-- An entry with a name, under another name and parent, has these, and its kind and contents as they were.
pub renamed-name : (e : Entry) (n : List ℕ) (p : ℕ) → has_name e ≡ true → name_of (renamed e n p) ≡ n
renamed-name free n p u = absurd (false≢true u)
renamed-name (file m q c) n p u = refl
renamed-name (directory m q) n p u = refl

pub renamed-parent : (e : Entry) (n : List ℕ) (p : ℕ) → has_name e ≡ true → parent_of (renamed e n p) ≡ p
renamed-parent free n p u = absurd (false≢true u)
renamed-parent (file m q c) n p u = refl
renamed-parent (directory m q) n p u = refl

pub renamed-kind : (e : Entry) (n : List ℕ) (p : ℕ) → kind_number (renamed e n p) ≡ kind_number e
renamed-kind free n p = refl
renamed-kind (file m q c) n p = refl
renamed-kind (directory m q) n p = refl

pub renamed-contents : (e : Entry) (n : List ℕ) (p : ℕ) → contents_of (renamed e n p) ≡ contents_of e
renamed-contents free n p = refl
renamed-contents (file m q c) n p = refl
renamed-contents (directory m q) n p = refl

-- Under its own name and parent an entry is as it was.
pub renamed-own : (e : Entry) → renamed e (name_of e) (parent_of e) ≡ e
renamed-own free = refl
renamed-own (file m q c) = refl
renamed-own (directory m q) = refl

-- An entry with other contents has its kind, name and parent as they were; of a file they are its contents.
pub refilled-kind : (e : Entry) (c : List ℕ) → kind_number (refilled e c) ≡ kind_number e
refilled-kind free c = refl
refilled-kind (file n p d) c = refl
refilled-kind (directory n p) c = refl

pub refilled-name : (e : Entry) (c : List ℕ) → name_of (refilled e c) ≡ name_of e
refilled-name free c = refl
refilled-name (file n p d) c = refl
refilled-name (directory n p) c = refl

pub refilled-parent : (e : Entry) (c : List ℕ) → parent_of (refilled e c) ≡ parent_of e
refilled-parent free c = refl
refilled-parent (file n p d) c = refl
refilled-parent (directory n p) c = refl

pub refilled-contents : (e : Entry) (c : List ℕ) → is_file e ≡ true → contents_of (refilled e c) ≡ c
refilled-contents free c t = absurd (false≢true t)
refilled-contents (file n p d) c t = refl
refilled-contents (directory n p) c t = absurd (false≢true t)

-- The last contents count.
pub refilled-twice : (e : Entry) (c d : List ℕ) → refilled (refilled e c) d ≡ refilled e d
refilled-twice free c d = refl
refilled-twice (file n p b) c d = refl
refilled-twice (directory n p) c d = refl

-- A file is used, a directory is, and what has a name is.
pub file-used : (e : Entry) → is_file e ≡ true → is_used e ≡ true
file-used free t = t
file-used (file n p c) t = refl
file-used (directory n p) t = refl

pub directory-used : (e : Entry) → is_directory e ≡ true → is_used e ≡ true
directory-used free t = t
directory-used (file n p c) t = refl
directory-used (directory n p) t = refl

pub named-used : (e : Entry) → has_name e ≡ true → is_used e ≡ true
named-used free t = t
named-used (file n p c) t = refl
named-used (directory n p) t = refl

-- No entry is both a file and a directory.
pub file-no-directory : (e : Entry) → is_file e ≡ true → is_directory e ≡ false
file-no-directory free t = refl
file-no-directory (file n p c) t = refl
file-no-directory (directory n p) t = absurd (false≢true t)

pub directory-no-file : (e : Entry) → is_directory e ≡ true → is_file e ≡ false
directory-no-file e t = go (is_file e) refl
  where
    go : (b : Bool) → is_file e ≡ b → b ≡ false
    go true f = sym t ∙ file-no-directory e f
    go false f = refl

-- What is used and no file is a directory.
pub other-directory : (e : Entry) → is_used e ≡ true → is_file e ≡ false → is_directory e ≡ true
other-directory free u t = u
other-directory (file n p c) u t = absurd (false≢true (sym t))
other-directory (directory n p) u t = refl

-- An entry that is not used is free.
pub unused-free : (e : Entry) → is_used e ≡ false → e ≡ free
unused-free free t = refl
unused-free (file n p c) t = absurd (false≢true (sym t))
unused-free (directory n p) t = absurd (false≢true (sym t))
