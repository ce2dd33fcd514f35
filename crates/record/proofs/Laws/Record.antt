-- What a valid record's fields are, and how long its bytes can be.
use Rattle.std.specs.Prelude.{ℕ, suc, ◌+◌, ◌*◌, ◌-◌, ◌%◌, ◌^◌, ◌≤◌, ◌<◌, ◌≡◌, refl, true, false, ◌&&◌, List, [], ◌∷◌, ◌++◌, length, leb}
use Rattle.std.proofs.Common.{arith, sym, ap, ◌∙◌, append-nil, length-append, leb-true, le-leb}
use Rattle.std.proofs.Math.Decide.{dec_le}
use Rattle.std.proofs.Math.Bool.{and-eq-true_iff, and-true, and-false}
use Rattle.std.specs.Prelude.{None, Some}
use Rattle.std.proofs.lemmas.Bool.{lt-leb}
use Rattle.names.specs.Name.{valid_name}
use Rattle.names.proofs.Laws.Name.{valid-length}
use Rattle.record.specs.Kind.{code_of}
use Rattle.buffer.specs.Numeral.{bytes}
use Rattle.record.specs.Operation.{Operation, create_file, make_directory, remove, rename, overwrite, append, set_length, forder, Record, kind_of, map_of}
use Rattle.record.specs.Fields.{Parts, parted, parts, stands_in, number_if, field, pairs, object_fields, name_fields, range_fields, fields, head_bytes, encode, if_stands, between, all_up_to, different, valid_list, valid_objects, valid_names, valid_range, tied, differing, in_block, valid_parts, valid_head, valid, operation_of, within_blocks}
use Rattle.record.proofs.Laws.List.{length_pairs}

pub length-head : (map sequence program code : ℕ) → length (head_bytes map sequence program code) ≡ 8
unfolding head_bytes bytes
length-head map sequence program code = refl

-- what is asked of a valid record, field by field
pub record ValidFields (r : Record) : Type 0 where
  pub head : valid_head r.sequence r.program ≡ true
  pub object : if_stands (stands_in (map_of r.operation) 1) (between 1 255 (parts r.operation).object) ≡ true
  pub parent : if_stands (stands_in (map_of r.operation) 2) (between 0 255 (parts r.operation).parent) ≡ true
  pub second : if_stands (stands_in (map_of r.operation) 4) (between 0 255 (parts r.operation).second) ≡ true
  pub displaced : if_stands (stands_in (map_of r.operation) 8) (between 1 255 (parts r.operation).displaced) ≡ true
  pub name : if_stands (stands_in (map_of r.operation) 16) (valid_name (parts r.operation).name) ≡ true
  pub second_name : if_stands (stands_in (map_of r.operation) 32) (valid_name (parts r.operation).second_name) ≡ true
  pub block : if_stands (stands_in (map_of r.operation) 128) (between 1 1024 (length (parts r.operation).block)) ≡ true
  pub list : if_stands (stands_in (map_of r.operation) 256) (valid_list (parts r.operation).list) ≡ true
  pub tie : tied (map_of r.operation) (parts r.operation) ≡ true

pub valid-inv : (r : Record) → valid r ≡ true → ValidFields r
unfolding valid valid_parts valid_objects valid_names valid_range
valid-inv r h =
    let g₁ = (and-eq-true_iff _ _).0 h in
    let g₂ = (and-eq-true_iff _ _).0 g₁.1 in
    let g₃ = (and-eq-true_iff _ _).0 g₂.1 in
    let g₄ = (and-eq-true_iff _ _).0 g₃.1 in
    let o₁ = (and-eq-true_iff _ _).0 g₂.0 in
    let o₂ = (and-eq-true_iff _ _).0 o₁.1 in
    let o₃ = (and-eq-true_iff _ _).0 o₂.1 in
    let n = (and-eq-true_iff _ _).0 g₃.0 in
    let b = (and-eq-true_iff _ _).0 g₄.0 in
    record {
      head = g₁.0;
      object = o₁.0;
      parent = o₂.0;
      second = o₃.0;
      displaced = o₃.1;
      name = n.0;
      second_name = n.1;
      block = b.0;
      list = b.1;
      tie = g₄.1;
    }

-- a record has 8 bytes and its fields
pub length-encode : (r : Record) → length (encode r) ≡ 8 + length (fields (map_of r.operation) (parts r.operation))
unfolding encode
length-encode r = length-append (head_bytes (map_of r.operation) r.sequence r.program (code_of (kind_of r.operation))) _ ∙ rw (length-head (map_of r.operation) r.sequence r.program (code_of (kind_of r.operation)))

-- how many bytes the fields of an operation have
unfoldable pub fields_length : Operation → ℕ
fields_length (create_file o p n) = 5 + length n
fields_length (make_directory o p n) = 5 + length n
fields_length (remove o p n) = 5 + length n
fields_length (rename o p q None n m) = 8 + length n + length m
fields_length (rename o p q (Some d) n m) = 10 + length n + length m
fields_length (overwrite o f b) = 8 + length b
fields_length (append o f b) = 8 + length b
fields_length (set_length o f) = 6
fields_length (forder l) = 1 + length (pairs l)

ends-once : (n : List ℕ) → length (n ++ []) ≡ length n
ends-once n = ap length (append-nil n)

ends-twice : (n : List ℕ) → length ((n ++ []) ++ []) ≡ length n
ends-twice n = ap length (append-nil (n ++ []) ∙ append-nil n)

two-names : (n m : List ℕ) (k : ℕ) → length ((n ++ (k ∷ m)) ++ []) ≡ length n + suc (length m)
two-names n m k = ap length (append-nil (n ++ (k ∷ m))) ∙ length-append n (k ∷ m)

pub fields-length : (o : Operation) → length (fields (map_of o) (parts o)) ≡ fields_length o
unfolding fields_length fields object_fields name_fields range_fields bytes
fields-length (create_file o p n) = ap (λ (k : ℕ). suc (suc (suc (suc (suc k))))) (ends-twice n) ∙ omega arith
fields-length (make_directory o p n) = ap (λ (k : ℕ). suc (suc (suc (suc (suc k))))) (ends-twice n) ∙ omega arith
fields-length (remove o p n) = ap (λ (k : ℕ). suc (suc (suc (suc (suc k))))) (ends-twice n) ∙ omega arith
fields-length (rename o p q None n m) = ap (λ (k : ℕ). suc (suc (suc (suc (suc (suc (suc k))))))) (two-names n m _) ∙ omega arith
fields-length (rename o p q (Some d) n m) = ap (λ (k : ℕ). suc (suc (suc (suc (suc (suc (suc (suc (suc k))))))))) (two-names n m _) ∙ omega arith
fields-length (overwrite o f b) = ap (λ (k : ℕ). suc (suc (suc (suc (suc (suc (suc (suc k)))))))) (ends-once b) ∙ omega arith
fields-length (append o f b) = ap (λ (k : ℕ). suc (suc (suc (suc (suc (suc (suc (suc k)))))))) (ends-once b) ∙ omega arith
fields-length (set_length o f) = refl
fields-length (forder l) = omega arith

pub name-short : (n : List ℕ) → valid_name n ≡ true → length n ≤ 60
name-short n h = (valid-length n h).1

pub block-short : (b : List ℕ) → between 1 1024 (length b) ≡ true → length b ≤ 1024
block-short b h = leb-true _ _ ((and-eq-true_iff (leb 1 (length b)) (leb (length b) 1024)).0 h).1

pub list-short : (l : List ℕ) → valid_list l ≡ true → length l ≤ 8
unfolding valid_list
list-short l h = leb-true _ _ ((and-eq-true_iff (leb 1 (length l)) (leb (length l) 8)).0 ((and-eq-true_iff (between 1 8 (length l)) (all_up_to 255 l && different l)).0 h).0).1

-- the fields of a valid record have at most 1,032 bytes: an object, an offset and 1,024 bytes of data with their length
fields-bound : (o : Operation) → if_stands (stands_in (map_of o) 16) (valid_name (parts o).name) ≡ true → if_stands (stands_in (map_of o) 32) (valid_name (parts o).second_name) ≡ true
    → if_stands (stands_in (map_of o) 128) (between 1 1024 (length (parts o).block)) ≡ true → if_stands (stands_in (map_of o) 256) (valid_list (parts o).list) ≡ true
    → fields_length o ≤ 1032
unfolding fields_length
fields-bound (create_file o p n) hn hm hb hl = omega (arith, name-short n hn)
fields-bound (make_directory o p n) hn hm hb hl = omega (arith, name-short n hn)
fields-bound (remove o p n) hn hm hb hl = omega (arith, name-short n hn)
fields-bound (rename o p q None n m) hn hm hb hl = omega (arith, name-short n hn, name-short m hm)
fields-bound (rename o p q (Some d) n m) hn hm hb hl = omega (arith, name-short n hn, name-short m hm)
fields-bound (overwrite o f b) hn hm hb hl = omega (arith, block-short b hb)
fields-bound (append o f b) hn hm hb hl = omega (arith, block-short b hb)
fields-bound (set_length o f) hn hm hb hl = omega arith
fields-bound (forder l) hn hm hb hl = omega (arith, list-short l hl, sym (length_pairs l))

-- "take below 1,040 bytes": no record is longer
pub encode-length : (r : Record) → valid r ≡ true → (8 ≤ length (encode r)) × (length (encode r) ≤ 1040)
encode-length r h =
    let v = valid-inv r h in
    let b = fields-bound r.operation v.name v.second_name v.block v.list in
    let e = length-encode r in
    let f = fields-length r.operation in
    (omega arith, omega arith)

-- the nine fields with those absent from a map made 0 or empty
abbrev pub under : ℕ → Parts → Parts
under m x =
    parted (number_if (stands_in m 1) x.object) (number_if (stands_in m 2) x.parent) (number_if (stands_in m 4) x.second) (number_if (stands_in m 8) x.displaced)
    (field (stands_in m 16) x.name) (field (stands_in m 32) x.second_name) (number_if (stands_in m 64) x.offset) (field (stands_in m 128) x.block) (field (stands_in m 256) x.list)

-- an operation is its fields under its map
pub operation-back : (o : Operation) → operation_of (kind_of o) (map_of o) (under (map_of o) (parts o)) ≡ o
operation-back (create_file o p n) = refl
operation-back (make_directory o p n) = refl
operation-back (remove o p n) = refl
operation-back (rename o p q None n m) = refl
operation-back (rename o p q (Some d) n m) = refl
operation-back (overwrite o f b) = refl
operation-back (append o f b) = refl
operation-back (set_length o f) = refl
operation-back (forder l) = refl

-- data that end past 65,536 do not lie within
pub block-past : (f n : ℕ) → 65536 < f + n → (leb (f % 1024 + n) 1024 && leb (f + n) 65536) ≡ false
block-past f n h = rw (lt-leb (f + n) 65536 h) (and-false (leb (f % 1024 + n) 1024))

-- data that end by 65,536 lie in one block if they are no longer than what follows the offset there
pub block-there : (f n : ℕ) → f + n ≤ 65536 → (leb (f % 1024 + n) 1024 && leb (f + n) 65536) ≡ leb n (1024 - f % 1024)
block-there f n h = rw (le-leb (f + n) 65536 h, and-true (leb (f % 1024 + n) 1024)) (go (dec_le n (1024 - f % 1024)))
  where
    go : Dec (n ≤ 1024 - f % 1024) → leb (f % 1024 + n) 1024 ≡ leb n (1024 - f % 1024)
    go (yes k) = rw (le-leb _ _ k) (le-leb (f % 1024 + n) 1024 (omega arith))
    go (no k) = rw (lt-leb n (1024 - f % 1024) (omega arith)) (lt-leb (f % 1024 + n) 1024 (omega arith))

-- data at an offset beyond b blocks do not lie within them; else they do where they are no longer than what is left
pub blocks-past : (b offset len : ℕ) → 1024 * b < offset → within_blocks b offset len ≡ false
unfolding within_blocks
blocks-past b offset len h = lt-leb (offset + len) (1024 * b) (omega arith)

pub blocks-left : (b offset len : ℕ) → offset ≤ 1024 * b → leb len (1024 * b - offset) ≡ within_blocks b offset len
unfolding within_blocks
blocks-left b offset len h = go (dec_le len (1024 * b - offset))
  where
    go : Dec (len ≤ 1024 * b - offset) → leb len (1024 * b - offset) ≡ leb (offset + len) (1024 * b)
    go (yes k) = le-leb _ _ k ∙ sym (le-leb (offset + len) (1024 * b) (omega arith))
    go (no k) = lt-leb len (1024 * b - offset) (omega arith) ∙ sym (lt-leb (offset + len) (1024 * b) (omega arith))

-- the offset of a valid record fits 4 bytes
pub offset-small : (m : ℕ) (x : Parts) → tied m x ≡ true → stands_in m 64 ≡ true → x.offset < 256 ^ 4
unfolding tied in_block
offset-small m x h b =
    let n = length (field (stands_in m 128) x.block) in
    let g = ((and-eq-true_iff (differing m x.object x.displaced) (in_block m x.offset n)).0 h).1 in
    let k : leb (x.offset % 1024 + n) 1024 && leb (x.offset + n) 65536 ≡ true = rw b at g in
    let u : x.offset + n ≤ 65536 = leb-true _ _ ((and-eq-true_iff (leb (x.offset % 1024 + n) 1024) (leb (x.offset + n) 65536)).0 k).1 in
    omega arith
