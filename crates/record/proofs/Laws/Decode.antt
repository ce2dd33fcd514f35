-- The record that bytes begin with is the one valid record whose bytes they begin with.
use Rattle.std.specs.Prelude.{ℕ, ◌*◌, ◌^◌, ◌≤◌, ◌<◌, ◌≡◌, refl, Bool, true, false, ◌&&◌, cond, List, [], ◌∷◌, ◌++◌, length, take, drop, leb, eqb}
use Rattle.std.proofs.Common.{arith, sym, ap, ap₂, ◌∙◌, subst, append_assoc, take_at, drop_at, leb-true, eqb-true, eq-eqb}
use Rattle.std.proofs.Math.Bool.{and-eq-true_iff}
use Rattle.std.proofs.lemmas.Bool.{false≢true}
use Rattle.std.proofs.lemmas.List.{append_cancel_left}
use Rattle.std.specs.Prelude.{Option, None, Some}
use Rattle.names.specs.Name.{valid_name}
use Rattle.record.specs.Kind.{code_of, kind_of_code}
use Rattle.buffer.specs.Numeral.{bytes, numeral}
use Rattle.buffer.specs.Laws.Numeral.{length-bytes, numeral-bytes}
use Rattle.record.specs.Operation.{Record, forder, kind_of, map_of}
use Rattle.record.specs.Fields.{parts, stands_in, field, text, pairs, object_fields, name_fields, range_fields, fields, head_bytes, encode, if_stands, between, member, different, all_up_to, valid_list, valid_objects, valid_names, valid_range, differing, in_block, tied, valid_parts, valid_head, valid, objects_of, number_if, operation_of}
use Rattle.record.proofs.Laws.List.{objects-pairs, length_pairs}
use Rattle.record.proofs.Laws.Kind.{kind-of-code, code-small, map-small}
use Rattle.record.proofs.Laws.Record.{valid-inv, under, operation-back, name-short, block-short, list-short, offset-small}
use Rattle.record.specs.Decode.{number, counted, read_parts, read_record, begins, if_encoded, decode_record}

-- bytes that are found to begin with some others are those, and more
begins-with : (s t : List ℕ) → begins s t ≡ true → (rest : List ℕ) × (s ≡ t ++ rest)
unfolding begins
begins-with s [] e = (s, refl)
begins-with [] (b ∷ t) e = absurd (false≢true e)
begins-with (a ∷ s) (b ∷ t) e =
    let h = (and-eq-true_iff (eqb a b) (begins s t)).0 e in
    let r = begins-with s t h.1 in
    (r.0, ap₂ (λ (v : ℕ) (l : List ℕ). v ∷ l) (eqb-true a b h.0) r.1)

with-begins : (t rest : List ℕ) → begins (t ++ rest) t ≡ true
unfolding begins
with-begins [] rest = refl
with-begins (b ∷ t) rest = rw (eq-eqb b b refl) (with-begins t rest)

-- what bytes decode to is valid, and they begin with its bytes
pub decode-sound : (s : List ℕ) (r : Record) → decode_record s ≡ Some r → (valid r ≡ true) × ((rest : List ℕ) × (s ≡ encode r ++ rest))
unfolding decode_record
decode-sound s r e = go (read_record s) e
  where
    go : (x : Option Record) → if_encoded s x ≡ Some r → (valid r ≡ true) × ((rest : List ℕ) × (s ≡ encode r ++ rest))
    go None d = let z : ◌≡◌ {A = ℕ} 0 1 = cc in absurd (omega arith)
    go (Some q) d = tested (valid q && begins s (encode q)) refl d
      where
        tested : (t : Bool) → (valid q && begins s (encode q)) ≡ t → cond t (Some q) None ≡ Some r → (valid r ≡ true) × ((rest : List ℕ) × (s ≡ encode r ++ rest))
        tested false h d = let z : ◌≡◌ {A = ℕ} 0 1 = cc in absurd (omega arith)
        tested true h d =
            let is : q ≡ r = cc in
            let g = (and-eq-true_iff (valid q) (begins s (encode q))).0 h in
            (rw is at g.0, begins-with s (encode r) (rw is at g.1))

-- a number that fits its width is read back from its bytes
number-back : (b : Bool) (w v : ℕ) (rest : List ℕ) → (b ≡ true → v < 256 ^ w) → number b w (field b (bytes w v) ++ rest) ≡ (number_if b v, rest)
unfolding number
number-back false w v rest h = refl
number-back true w v rest h =
    let l = length-bytes w v in
    ap₂ (λ (n : ℕ) (t : List ℕ). (n, t)) (ap numeral (take_at (bytes w v) rest w l) ∙ numeral-bytes w v (h refl)) (drop_at (bytes w v) rest w l)

-- the bytes behind a count that fits its width are read back
counted_back : (b : Bool) (w size n : ℕ) (t rest : List ℕ) → (b ≡ true → n < 256 ^ w) → length t ≡ n * size
    → counted b w size (field b (bytes w n ++ t) ++ rest) ≡ (field b t, rest)
unfolding counted
counted_back false w size n t rest h e = refl
counted_back true w size n t rest h e =
    let a = append_assoc (bytes w n) t rest in
    let l = length-bytes w n in
    let k : numeral (take w (bytes w n ++ (t ++ rest))) ≡ n = ap numeral (take_at (bytes w n) (t ++ rest) w l) ∙ numeral-bytes w n (h refl) in
    let d : drop w (bytes w n ++ (t ++ rest)) ≡ t ++ rest = drop_at (bytes w n) (t ++ rest) w l in
    rw (a, k, d, take_at t rest (n * size) e, drop_at t rest (n * size) e)

-- what is asked of a field whose bit stands holds
asked : (b t : Bool) → if_stands b t ≡ true → b ≡ true → t ≡ true
asked true t h e = h
asked false t h e = absurd (false≢true e)

-- an object's number fits 2 bytes
object-back : (b : Bool) (least v : ℕ) (rest : List ℕ) → if_stands b (between least 255 v) ≡ true → number b 2 (field b (bytes 2 v) ++ rest) ≡ (number_if b v, rest)
object-back b least v rest h =
    number-back b 2 v rest (λ e. let k : v ≤ 255 = leb-true _ _ ((and-eq-true_iff (leb least v) (leb v 255)).0 (asked b _ h e)).1 in omega arith)

name_back : (b : Bool) (n rest : List ℕ) → if_stands b (valid_name n) ≡ true → counted b 1 1 (field b (text n) ++ rest) ≡ (field b n, rest)
name_back b n rest h = counted_back b 1 1 (length n) n rest (λ e. let k = name-short n (asked b _ h e) in omega arith) (omega arith)

block_back : (b : Bool) (t rest : List ℕ) → if_stands b (between 1 1024 (length t)) ≡ true → counted b 2 1 (field b (bytes 2 (length t) ++ t) ++ rest) ≡ (field b t, rest)
block_back b t rest h = counted_back b 2 1 (length t) t rest (λ e. let k = block-short t (asked b _ h e) in omega arith) (omega arith)

list_back : (b : Bool) (l rest : List ℕ) → if_stands b (valid_list l) ≡ true → counted b 1 2 (field b (bytes 1 (length l) ++ pairs l) ++ rest) ≡ (field b (pairs l), rest)
list_back b l rest h =
    counted_back b 1 2 (length l) (pairs l) rest (λ e. let k = list-short l (asked b _ h e) in omega arith) (let k = (sym (length_pairs l)) in omega arith)

listed_back : (b : Bool) (l : List ℕ) → if_stands b (valid_list l) ≡ true → objects_of (field b (pairs l)) ≡ field b l
unfolding valid_list objects_of
listed_back false l h = refl
listed_back true l h = objects-pairs l ((and-eq-true_iff (all_up_to 255 l) (different l)).0 ((and-eq-true_iff (between 1 8 (length l)) (all_up_to 255 l && different l)).0 h).1).0

-- the nine fields of a valid record are read back from their bytes
parts-read : (r : Record) (rest : List ℕ) → valid r ≡ true
    → read_parts (map_of r.operation) (fields (map_of r.operation) (parts r.operation) ++ rest) ≡ under (map_of r.operation) (parts r.operation)
unfolding read_parts fields object_fields name_fields range_fields
parts-read r rest h =
    let m = map_of r.operation in
    let x = parts r.operation in
    let v = valid-inv r h in
    let w₀ = field (stands_in m 1) (bytes 2 x.object) in
    let w₁ = field (stands_in m 2) (bytes 2 x.parent) in
    let w₂ = field (stands_in m 4) (bytes 2 x.second) in
    let w₃ = field (stands_in m 8) (bytes 2 x.displaced) in
    let w₄ = field (stands_in m 16) (text x.name) in
    let w₅ = field (stands_in m 32) (text x.second_name) in
    let w₆ = field (stands_in m 64) (bytes 4 x.offset) in
    let w₇ = field (stands_in m 128) (bytes 2 (length x.block) ++ x.block) in
    let w₈ = field (stands_in m 256) (bytes 1 (length x.list) ++ pairs x.list) in
    let t₈ = w₈ ++ rest in
    let t₇ = w₇ ++ t₈ in
    let t₆ = w₆ ++ t₇ in
    let t₅ = w₅ ++ t₆ in
    let t₄ = w₄ ++ t₅ in
    let t₃ = w₃ ++ t₄ in
    let t₂ = w₂ ++ t₃ in
    let t₁ = w₁ ++ t₂ in
    let a : ((w₀ ++ (w₁ ++ (w₂ ++ w₃))) ++ ((w₄ ++ w₅) ++ (w₆ ++ (w₇ ++ w₈)))) ++ rest ≡ w₀ ++ t₁ = simp append_assoc in
    let e₀ = object-back (stands_in m 1) 1 x.object t₁ v.object in
    let e₁ = object-back (stands_in m 2) 0 x.parent t₂ v.parent in
    let e₂ = object-back (stands_in m 4) 0 x.second t₃ v.second in
    let e₃ = object-back (stands_in m 8) 1 x.displaced t₄ v.displaced in
    let e₄ = name_back (stands_in m 16) x.name t₅ v.name in
    let e₅ = name_back (stands_in m 32) x.second_name t₆ v.second_name in
    let e₆ = number-back (stands_in m 64) 4 x.offset t₇ (offset-small m x v.tie) in
    let e₇ = block_back (stands_in m 128) x.block t₈ v.block in
    let e₈ = list_back (stands_in m 256) x.list rest v.list in
    rw (a, e₀, e₁, e₂, e₃, e₄, e₅, e₆, e₇, e₈, listed_back (stands_in m 256) x.list v.list)

-- the four numbers of a head, and what is behind it
head_read : (m sequence program code : ℕ) (rest : List ℕ) → m < 65536 → sequence < 256 ^ 4 → program < 256 → code < 256
    → let s = head_bytes m sequence program code ++ rest in
    (numeral (take 2 s) ≡ m) × (numeral (take 4 (drop 2 s)) ≡ sequence) × (numeral (take 1 (drop 6 s)) ≡ program) × (numeral (take 1 (drop 7 s)) ≡ code) × (drop 8 s ≡ rest)
unfolding head_bytes bytes
head_read m sequence program code rest hm hs hp hc =
    (numeral-bytes 2 m (omega arith), numeral-bytes 4 sequence hs, numeral-bytes 1 program (omega arith), numeral-bytes 1 code (omega arith), refl)

-- a valid record is read back from its bytes
record-read : (r : Record) (rest : List ℕ) → valid r ≡ true → read_record (encode r ++ rest) ≡ Some r
unfolding read_record encode valid_head
record-read r rest h =
    let o = r.operation in
    let m = map_of o in
    let c = code_of (kind_of o) in
    let f = fields m (parts o) in
    let g = (and-eq-true_iff (between 1 4294967294 r.sequence) (between 0 31 r.program)).0 (valid-inv r h).head in
    let hs : r.sequence ≤ 4294967294 = leb-true _ _ ((and-eq-true_iff (leb 1 r.sequence) (leb r.sequence 4294967294)).0 g.0).1 in
    let hp : r.program ≤ 31 = leb-true _ _ ((and-eq-true_iff (leb 0 r.program) (leb r.program 31)).0 g.1).1 in
    let hd = head_read m r.sequence r.program c (f ++ rest) (map-small o) (omega arith) (omega arith) (code-small (kind_of o)) in
    let op = ap (operation_of (kind_of o) m) (parts-read r rest h) ∙ operation-back o in
    rw (append_assoc (head_bytes m r.sequence r.program c) f rest, hd.3, kind-of-code (kind_of o), hd.0, hd.1, hd.2, hd.4, op)

-- the bytes of a valid record decode to it, whatever is behind them
pub decode-encoded : (r : Record) (rest : List ℕ) → valid r ≡ true → decode_record (encode r ++ rest) ≡ Some r
unfolding decode_record
decode-encoded r rest h = rw (record-read r rest h, h, with-begins (encode r) rest)

-- no bytes begin with two valid records
pub encode-unique : (r q : Record) (t u : List ℕ) → valid r ≡ true → valid q ≡ true → encode r ++ t ≡ encode q ++ u → (r ≡ q) × (t ≡ u)
encode-unique r q t u h k e =
    let a : decode_record (encode r ++ t) ≡ Some r = decode-encoded r t h in
    let b : decode_record (encode r ++ t) ≡ Some q = ap decode_record e ∙ decode-encoded q u k in
    let is : r ≡ q = cc in
    (is, append_cancel_left (encode q) t u (subst (λ (y : Record). encode y ++ t ≡ encode q ++ u) is e))

-- "C12 bytes 0 1 7 0 0 0 3 8 2 5 0 6 0 are forder 7 by program 3 on 5 and 6", also with bytes behind them; another map, a list
-- cut short, the code of no kind, and program 32 are refused
pub decode-examples :
    (decode_record (0 ∷ 1 ∷ 7 ∷ 0 ∷ 0 ∷ 0 ∷ 3 ∷ 8 ∷ 2 ∷ 5 ∷ 0 ∷ 6 ∷ 0 ∷ []) ≡ Some (record { sequence = 7; program = 3; operation = forder (5 ∷ 6 ∷ []) }))
    × (decode_record (0 ∷ 1 ∷ 7 ∷ 0 ∷ 0 ∷ 0 ∷ 3 ∷ 8 ∷ 2 ∷ 5 ∷ 0 ∷ 6 ∷ 0 ∷ 9 ∷ []) ≡ Some (record { sequence = 7; program = 3; operation = forder (5 ∷ 6 ∷ []) }))
    × (decode_record (1 ∷ 1 ∷ 7 ∷ 0 ∷ 0 ∷ 0 ∷ 3 ∷ 8 ∷ 2 ∷ 5 ∷ 0 ∷ 6 ∷ 0 ∷ []) ≡ None)
    × (decode_record (0 ∷ 1 ∷ 7 ∷ 0 ∷ 0 ∷ 0 ∷ 3 ∷ 8 ∷ 2 ∷ 5 ∷ 0 ∷ 6 ∷ []) ≡ None)
    × (decode_record (0 ∷ 1 ∷ 7 ∷ 0 ∷ 0 ∷ 0 ∷ 3 ∷ 9 ∷ 2 ∷ 5 ∷ 0 ∷ 6 ∷ 0 ∷ []) ≡ None)
    × (decode_record (0 ∷ 1 ∷ 7 ∷ 0 ∷ 0 ∷ 0 ∷ 32 ∷ 8 ∷ 2 ∷ 5 ∷ 0 ∷ 6 ∷ 0 ∷ []) ≡ None)
unfolding decode_record read_record read_parts number counted begins kind_of_code numeral objects_of bytes encode fields object_fields name_fields range_fields head_bytes pairs valid valid_head valid_parts valid_objects valid_names valid_range valid_list member different all_up_to tied differing in_block
decode-examples = (refl, refl, refl, refl, refl, refl)
