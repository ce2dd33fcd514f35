-- The check of one entry's bytes, each field for itself, passes for the bytes of the sound entries and of the root, and for
-- no others. Assumes nothing.
use Rattle.std.specs.Prelude.{ℕ, zero, suc, ◌+◌, ◌*◌, ◌%◌, ◌^◌, ◌≤◌, ◌<◌, ◌-◌, ◌≡◌, refl, ◌&&◌, replicate, leb, eqb}
use native.Mathlib.Omega.{arith}
use Rattle.std.proofs.Math.Path.{sym, ap, ap₂}
use Rattle.std.proofs.Common.{◌∙◌, length-take, length-drop, take_at, drop_at, take-take, drop-drop}
use Rattle.std.proofs.Math.Bool.{true, and-eq-true_iff}
use mathlib.Core.List.{List, [], ◌∷◌, ◌++◌}
use Rattle.std.proofs.Math.ListN.{length, take, drop, take-append-drop}
use Rattle.std.proofs.lemmas.List.{replicate-append-replicate}
use borrow.Author.Tests.{le-leb, leb-true, eqb-true}
use Rattle.std.proofs.Math.Seq.{length-take-le, drop-append_seam}
use Rattle.names.specs.Name.{valid_name}
use Rattle.names.proofs.Laws.Name.{valid-length}
use Rattle.buffer.specs.Numeral.{bytes, numeral, Bytes}
use Rattle.buffer.specs.Laws.Numeral.{length-bytes, numeral-bytes, numeral-below, bytes-part, number-back}
use Rattle.volume_entry.specs.Entry.{Entry, root, kind_number, name_of, parent_of, contents_of}
use Rattle.volume_entry.specs.Stored.{padded, entry_bytes, encode_entry, read_entry}
use Rattle.buffer.specs.Code.Zero.{zeros}
use Rattle.volume_entry_form.specs.Code.Check.{name_formed, length_field, data_formed, entry_formed, root_formed, sound}
use Rattle.volume_entry.specs.Laws.Entry.{length-padded, free-zero}
use Rattle.buffer.specs.Laws.Zero.{zeros-replicate, replicate-zeros}

-- a 2, and zeros
abbrev root_bytes : ℕ → List ℕ
root_bytes b = 2 ∷ (replicate 67 0 ++ replicate (1024 * b) 0)

-- The root's bytes are a 2, and zeros.
root-bytes : (b : ℕ) → encode_entry b (root) ≡ root_bytes b
unfolding encode_entry bytes
root-bytes b =
    let k : 1024 * b - 0 ≡ 1024 * b = omega arith in
    ap (λ (n : ℕ). 2 ∷ (replicate 67 0 ++ replicate n 0)) k

-- Bytes of an entry's length that pass the root's check tell of the root, and are its bytes.
pub formed-root : (b : ℕ) (s : List ℕ) → length s ≡ entry_bytes b → root_formed s ≡ true
    → (read_entry s ≡ root) × (encode_entry b (read_entry s) ≡ s)
unfolding root_formed read_entry numeral
formed-root b [] h f = absurd (omega arith)
formed-root b (a ∷ t) h f =
    let k = (and-eq-true_iff (eqb a 2) (zeros t)).0 f in
    let size : length t ≡ 67 + 1024 * b = omega arith in
    let two : a ≡ 2 = eqb-true a 2 k.0 in
    let rest : t ≡ replicate 67 0 ++ replicate (1024 * b) 0 =
    zeros-replicate t k.1 ∙ ap (λ (n : ℕ). replicate n 0) size ∙ sym (replicate-append-replicate 67 (1024 * b) 0) in
    let whole : a ∷ t ≡ root_bytes b = ap₂ (λ (v : ℕ) (r : List ℕ). v ∷ r) two rest in
    let told : read_entry (a ∷ t) ≡ root = ap read_entry whole in
    (told, ap (encode_entry b) told ∙ root-bytes b ∙ sym whole)

-- The root's bytes pass the root's check.
pub root-formed : (b : ℕ) (s : List ℕ) → read_entry s ≡ root → encode_entry b (read_entry s) ≡ s → root_formed s ≡ true
unfolding root_formed zeros
root-formed b s r e = ap root_formed (sym e ∙ ap (encode_entry b) r ∙ root-bytes b) ∙ replicate-zeros (1024 * b)

-- Bytes that are zero from a place on are those before it, padded.
padded-take : (w k : ℕ) (t : List ℕ) → length t ≡ w → k ≤ w → zeros (drop k t) ≡ true → padded w (take k t) ≡ t
padded-take w k t h l z =
    let m : length (take k t) ≡ k = length-take-le k t (omega arith) in
    let d : length (drop k t) ≡ w - length (take k t) = length-drop k t ∙ omega arith in
    ap (λ (r : List ℕ). take k t ++ r) (sym (zeros-replicate (drop k t) z ∙ ap (λ (n : ℕ). replicate n 0) d)) ∙ take-append-drop k t

-- Padded bytes are zero from their end on.
zeros-padded : (w : ℕ) (s : List ℕ) → zeros (drop (length s) (padded w s)) ≡ true
zeros-padded w s = ap zeros (drop-append_seam s (replicate (w - length s) 0)) ∙ replicate-zeros (w - length s)

-- No contents are zeros.
no-contents : (b : ℕ) → bytes 4 0 ++ padded (1024 * b) [] ≡ replicate (4 + 1024 * b) 0
unfolding bytes
no-contents b =
    let k : 1024 * b - 0 ≡ 1024 * b = omega arith in
    ap (λ (n : ℕ). replicate 4 0 ++ replicate n 0) k ∙ replicate-append-replicate 4 (1024 * b) 0

-- An entry's bytes begin with its kind.
kind-first : (b : ℕ) (e : Entry) (a : ℕ) (r : List ℕ) → encode_entry b e ≡ a ∷ r → kind_number e % 256 ≡ a
unfolding encode_entry bytes
kind-first b e a r same = cc

module _ (b : ℕ) (e : Entry) (a l p q : ℕ) (t : List ℕ) where
  -- An entry has a valid name and these bytes if its fields are in them and its name passes the check.
  header : 60 ≤ length t → kind_number e ≡ a → a ≤ 2 → name_of e ≡ take l t → name_formed (a ∷ l ∷ p ∷ q ∷ t) ≡ true
      → bytes 2 (parent_of e) ≡ p ∷ q ∷ [] → bytes 4 (length (contents_of e)) ++ padded (1024 * b) (contents_of e) ≡ drop 60 t
      → (valid_name (name_of e) ≡ true) × (encode_entry b e ≡ a ∷ l ∷ p ∷ q ∷ t)
  unfolding encode_entry bytes name_formed
  header h kind small name formed parent rest =
      let s = a ∷ l ∷ p ∷ q ∷ t in
      let x = (and-eq-true_iff (leb l 60) (valid_name (take l t) && zeros (drop (4 + l) (take 64 s)))).0 formed in
      let y = (and-eq-true_iff (valid_name (take l t)) (zeros (drop (4 + l) (take 64 s)))).0 x.1 in
      let short : l ≤ 60 = leb-true l 60 x.0 in
      let z : zeros (drop l (take 60 t)) ≡ true = ap zeros (drop-drop l 4 (take 64 s)) ∙ y.1 in
      let first : kind_number e % 256 ≡ a = omega arith in
      let m : length (name_of e) ≡ l = ap length name ∙ length-take-le l t (omega arith) in
      let size : length (name_of e) % 256 ≡ l = omega arith in
      let field : padded 60 (name_of e) ≡ take 60 t =
      ap (padded 60) (name ∙ sym (take-take l 60 t short)) ∙ padded-take 60 l (take 60 t) (length-take-le 60 t h) short z in
      let tail : padded 60 (name_of e) ++ (bytes 4 (length (contents_of e)) ++ padded (1024 * b) (contents_of e)) ≡ t =
      ap₂ (λ (x y : List ℕ). x ++ y) field rest ∙ take-append-drop 60 t in
      (ap valid_name name ∙ y.0, cc)

  -- If an entry with a valid name has these bytes, its name passes the check, and its contents stand behind.
  header-inv : valid_name (name_of e) ≡ true → name_of e ≡ take l t → encode_entry b e ≡ a ∷ l ∷ p ∷ q ∷ t
      → (name_formed (a ∷ l ∷ p ∷ q ∷ t) ≡ true)
      × (bytes 4 (length (contents_of e)) ++ padded (1024 * b) (contents_of e) ≡ drop 60 t)
  unfolding encode_entry bytes name_formed
  header-inv valid name same =
      let s = a ∷ l ∷ p ∷ q ∷ t in
      let n = name_of e in
      let rest = bytes 4 (length (contents_of e)) ++ padded (1024 * b) (contents_of e) in
      let short : length n ≤ 60 = (valid-length n valid).1 in
      let size : length n % 256 ≡ l = cc in
      let l₁ : length n ≡ l = omega arith in
      let tail : padded 60 n ++ rest ≡ t = cc in
      let w : length (padded 60 n) ≡ 60 = length-padded 60 n short in
      let field : padded 60 n ≡ take 60 t = sym (take_at (padded 60 n) rest 60 w) ∙ ap (take 60) tail in
      let z : zeros (drop (4 + l) (take 64 s)) ≡ true =
      ap zeros (sym (drop-drop l 4 (take 64 s)) ∙ ap₂ (λ (i : ℕ) (r : List ℕ). drop i r) (sym l₁) (sym field)) ∙ zeros-padded 60 n in (
        rw (le-leb l 60 (omega arith), ← name, valid) z,
        sym (drop_at (padded 60 n) rest 60 w) ∙ ap (drop 60) tail,
      )

-- An entry's bytes that pass the check are those of the entry that they tell of, and that entry is sound.
pub formed-entry : (b : ℕ) (s : List ℕ) → length s ≡ entry_bytes b → Bytes s → entry_formed b s ≡ true
    → (sound b (read_entry s) ≡ true) × (encode_entry b (read_entry s) ≡ s)
unfolding entry_formed read_entry data_formed
formed-entry b [] h byte f = absurd (omega arith)
formed-entry b (a ∷ []) h byte f = absurd (omega arith)
formed-entry b (a ∷ l ∷ []) h byte f = absurd (omega arith)
formed-entry b (a ∷ l ∷ p ∷ []) h byte f = absurd (omega arith)
formed-entry b (zero ∷ l ∷ p ∷ q ∷ t) h byte f =
    (rw (le-leb 0 (1024 * b) (omega arith)), free-zero b ∙ ap (λ (n : ℕ). replicate n 0) (sym h) ∙ sym (zeros-replicate _ f))
formed-entry b (suc zero ∷ l ∷ p ∷ q ∷ t) h byte f =
    let s : List ℕ = 1 ∷ l ∷ p ∷ q ∷ t in
    let x = (and-eq-true_iff (name_formed s) (data_formed b s)).0 f in
    let y = (and-eq-true_iff (leb (length_field s) (1024 * b)) (zeros (drop (68 + length_field s) s))).0 x.1 in
    let k = length_field s in
    let d = drop 64 t in
    let c = take k d in
    let fits : k ≤ 1024 * b = leb-true k (1024 * b) y.0 in
    let room : length d ≡ 1024 * b = length-drop 64 t ∙ omega arith in
    let size : length c ≡ k = length-take-le k d (omega arith) in
    let four : bytes 4 (length c) ≡ take 4 (drop 60 t) = ap (bytes 4) size ∙ number-back 4 64 s (omega arith) byte in
    let behind : padded (1024 * b) c ≡ d = padded-take (1024 * b) k d room fits (ap zeros (drop-drop k 68 s) ∙ y.1) in
    let rest : bytes 4 (length c) ++ padded (1024 * b) c ≡ drop 60 t =
    ap₂ (λ (x y : List ℕ). x ++ y) four (behind ∙ sym (drop-drop 4 60 t)) ∙ take-append-drop 4 (drop 60 t) in
    let n = header b (read_entry s) 1 l p q t (omega arith) refl (omega arith) refl x.0 (number-back 2 2 s (omega arith) byte) rest in
    (rw (n.0, le-leb (length c) (1024 * b) (omega arith)), n.1)
formed-entry b (suc (suc zero) ∷ l ∷ p ∷ q ∷ t) h byte f =
    let s : List ℕ = 2 ∷ l ∷ p ∷ q ∷ t in
    let x = (and-eq-true_iff (name_formed s) (zeros (drop 64 s))).0 f in
    let room : length (drop 60 t) ≡ 4 + 1024 * b = length-drop 60 t ∙ omega arith in
    let rest : bytes 4 0 ++ padded (1024 * b) [] ≡ drop 60 t =
    no-contents b ∙ ap (λ (n : ℕ). replicate n 0) (sym room) ∙ sym (zeros-replicate (drop 60 t) x.1) in
    let n = header b (read_entry s) 2 l p q t (omega arith) refl (omega arith) refl x.0 (number-back 2 2 s (omega arith) byte) rest in
    (rw (n.0, le-leb 0 (1024 * b) (omega arith)), n.1)
formed-entry b (suc (suc (suc a)) ∷ l ∷ p ∷ q ∷ t) h byte f =
    let z : suc (suc (suc a)) ≡ 2 = eqb-true _ 2 ((and-eq-true_iff (eqb (suc (suc (suc a))) 2) _).0 f).0 in
    absurd (omega arith)

-- The bytes of a sound entry pass the check.
pub entry-formed : (b : ℕ) (s : List ℕ) → 1 ≤ b → length s ≡ entry_bytes b → Bytes s → sound b (read_entry s) ≡ true → encode_entry b (read_entry s) ≡ s
    → entry_formed b s ≡ true
unfolding entry_formed read_entry data_formed
entry-formed b [] pos h byte v e = absurd (omega arith)
entry-formed b (a ∷ []) pos h byte v e = absurd (omega arith)
entry-formed b (a ∷ l ∷ []) pos h byte v e = absurd (omega arith)
entry-formed b (a ∷ l ∷ p ∷ []) pos h byte v e = absurd (omega arith)
entry-formed b (zero ∷ l ∷ p ∷ q ∷ t) pos h byte v e = ap zeros (sym e ∙ free-zero b) ∙ replicate-zeros (entry_bytes b)
entry-formed b (suc zero ∷ l ∷ p ∷ q ∷ t) pos h byte v e =
    let s : List ℕ = 1 ∷ l ∷ p ∷ q ∷ t in
    let k = length_field s in
    let d = drop 64 t in
    let c = take k d in
    let x = (and-eq-true_iff (leb (length c) (1024 * b)) (valid_name (take l t))).0 v in
    let y = header-inv b (read_entry s) 1 l p q t x.1 refl e in
    let room : length (take 4 (drop 60 t)) ≡ 4 = length-take-le 4 (drop 60 t) (rw (length-drop 60 t) (omega arith)) in
    let most : k < 256 ^ 4 = rw room at (numeral-below (take 4 (drop 60 t)) (bytes-part s 4 64 byte)) in
    let few : length c ≤ k = rw (length-take k d) (omega arith) in
    let four : bytes 4 (length c) ≡ take 4 (drop 60 t) =
    sym (take_at (bytes 4 (length c)) (padded (1024 * b) c) 4 (length-bytes 4 (length c))) ∙ ap (take 4) y.1 in
    let size : k ≡ length c = ap numeral (sym four) ∙ numeral-bytes 4 (length c) (omega arith) in
    let fits : length c ≤ 1024 * b = leb-true (length c) (1024 * b) x.0 in
    let behind : d ≡ padded (1024 * b) c =
    sym (drop-drop 4 60 t) ∙ ap (drop 4) (sym y.1) ∙ drop_at (bytes 4 (length c)) (padded (1024 * b) c) 4 (length-bytes 4 (length c)) in
    let z : zeros (drop (68 + k) s) ≡ true =
    ap zeros (sym (drop-drop k 68 s) ∙ ap₂ (λ (i : ℕ) (r : List ℕ). drop i r) size behind) ∙ zeros-padded (1024 * b) c in
    rw (y.0, le-leb k (1024 * b) (omega arith)) z
entry-formed b (suc (suc zero) ∷ l ∷ p ∷ q ∷ t) pos h byte v e =
    let s : List ℕ = 2 ∷ l ∷ p ∷ q ∷ t in
    let y = header-inv b (read_entry s) 2 l p q t ((and-eq-true_iff (leb 0 (1024 * b)) (valid_name (take l t))).0 v).1 refl e in
    rw y.0 (ap zeros (sym y.1 ∙ no-contents b) ∙ replicate-zeros (4 + 1024 * b))
entry-formed b (suc (suc (suc a)) ∷ l ∷ p ∷ q ∷ t) pos h byte v e =
    let z = kind-first b (read_entry (suc (suc (suc a)) ∷ l ∷ p ∷ q ∷ t)) (suc (suc (suc a))) (l ∷ p ∷ q ∷ t) e in
    absurd (omega arith)
