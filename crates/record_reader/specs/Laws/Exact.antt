-- The reader's contract, both ways, and the one record that some bytes begin with.
use Rattle.std.specs.Prelude.{ℕ, ◌+◌, ◌≡◌, Bool, ◌&&◌, List, ◌++◌, length, drop, None}
use Rattle.std.proofs.Common.{arith, sym, ◌∙◌, subst, append_assoc, length-append}
use Rattle.std.proofs.Math.Path.{refl, ap}
use Rattle.std.proofs.Math.Bool.{true, false, and-eq-true_iff}
use Rattle.std.specs.Prelude.{Option, Some}
use Rattle.record_reader.specs.declared.Whole.{Whole}
use Rattle.record.specs.Kind.{code_of}
use Rattle.buffer.specs.Numeral.{bytes, Bytes}
use Rattle.buffer.specs.Laws.Numeral.{length-bytes}
use Rattle.record.specs.Operation.{Record, kind_of, map_of}
use Rattle.record.specs.Fields.{Parts, parted, parts, stands_in, field, text, pairs, object_fields, name_fields, range_fields, fields, head_bytes, encode, if_stands, between, all_up_to, different, valid_list, valid, objects_of, number_if, operation_of}
use Rattle.buffer.specs.Code.Span.{stretch}
use Rattle.record_reader.specs.Code.Reader.{record_at}
use Rattle.record.proofs.Laws.List.{objects-pairs}
use Rattle.buffer.specs.Laws.Span.{drop-after, take-there}
use Rattle.record_reader.specs.Laws.SoundRecord.{record-sound}
use Rattle.record.proofs.Laws.Record.{length-head, valid-inv, under, operation-back}
use Rattle.record_reader.specs.Laws.Complete.{record-complete}
use Rattle.record_reader.specs.Answer.{span_if, whole_of, Exact, read, refused}
use Rattle.record_reader.specs.Code.Found.{parts_from, record_from, decoded, decode_at}

-- the reader answers exactly what stands at the place
pub exact : (s : List ℕ) → Bytes s → (at : ℕ) → Exact s at (record_at s at)
exact s byte at = go (record_at s at) refl
  where
    go : (x : Option Whole) → record_at s at ≡ x → Exact s at x
    go (Some w) e =
        let f = record-sound s byte at w e in
        subst (λ (y : Whole). Exact s at (Some y)) f.answered (read f.found (drop w.next.at s) f.good f.spans.begins)
    go None e =
        refused (λ r rest h d. let c : None ≡ Some (whole_of r at) = sym e ∙ record-complete s at r rest h d in let z : ◌≡◌ {A = ℕ} 0 1 = cc in omega arith)

module _ (s : List ℕ) where
  -- a stretch behind a number of w bytes is found where it was said to lie
  behind-back : (b : Bool) (w at v : ℕ) (t rest : List ℕ) → drop at s ≡ field b (bytes w v ++ t) ++ rest → stretch s (span_if b (at + w) (length t)) ≡ field b t
  behind-back false w at v t rest e = refl
  behind-back true w at v t rest e =
      let d : drop (at + w) s ≡ t ++ rest = rw (length-bytes w v) at (drop-after s at (bytes w v) (t ++ rest) (e ∙ append_assoc (bytes w v) t rest)) in
      take-there s (at + w) t rest d

  list_back : (b : Bool) (at : ℕ) (l rest : List ℕ) → if_stands b (valid_list l) ≡ true → drop at s ≡ field b (bytes 1 (length l) ++ pairs l) ++ rest
      → objects_of (stretch s (span_if b (at + 1) (length (pairs l)))) ≡ field b l
  unfolding valid_list objects_of
  list_back false at l rest h e = refl
  list_back true at l rest h e =
      let u : all_up_to 255 l ≡ true = ((and-eq-true_iff (all_up_to 255 l) (different l)).0 ((and-eq-true_iff (between 1 8 (length l)) (all_up_to 255 l && different l)).0 h).1).0 in
      ap objects_of (behind-back true 1 at (length l) (pairs l) rest e) ∙ objects-pairs l u

-- where its names, data and list lie: the fields are taken from the buffer again by what was answered
pub parts-back : (s : List ℕ) (at : ℕ) (r : Record) (rest : List ℕ) → valid r ≡ true → drop at s ≡ encode r ++ rest
    → parts_from s (whole_of r at).objects (whole_of r at).names (whole_of r at).range ≡ under (map_of r.operation) (parts r.operation)
unfolding encode fields name_fields range_fields whole_of
parts-back s at r rest h e =
    let o = r.operation in
    let m = map_of o in
    let x = parts o in
    let v = valid-inv r h in
    let hb = head_bytes m r.sequence r.program (code_of (kind_of o)) in
    let fo = object_fields m x in
    let w₄ = field (stands_in m 16) (text x.name) in
    let w₅ = field (stands_in m 32) (text x.second_name) in
    let w₆ = field (stands_in m 64) (bytes 4 x.offset) in
    let w₇ = field (stands_in m 128) (bytes 2 (length x.block) ++ x.block) in
    let w₈ = field (stands_in m 256) (bytes 1 (length x.list) ++ pairs x.list) in
    let lh = length-head m r.sequence r.program (code_of (kind_of o)) in
    let d₁ : drop at s ≡ hb ++ (fo ++ (w₄ ++ (w₅ ++ (w₆ ++ (w₇ ++ (w₈ ++ rest)))))) = e ∙ simp append_assoc in
    let d₂ : drop (at + 8) s ≡ fo ++ (w₄ ++ (w₅ ++ (w₆ ++ (w₇ ++ (w₈ ++ rest))))) = rw lh at (drop-after s at hb _ d₁) in
    let p₄ = at + 8 + length fo in
    let d₄ : drop p₄ s ≡ w₄ ++ (w₅ ++ (w₆ ++ (w₇ ++ (w₈ ++ rest)))) = drop-after s (at + 8) fo _ d₂ in
    let d₅ : drop (p₄ + length w₄) s ≡ w₅ ++ (w₆ ++ (w₇ ++ (w₈ ++ rest))) = drop-after s p₄ w₄ _ d₄ in
    let p₆ = p₄ + length (w₄ ++ w₅) in
    let a₆ : p₄ + length w₄ + length w₅ ≡ p₆ = simp length-append (omega arith) in
    let d₆ : drop p₆ s ≡ w₆ ++ (w₇ ++ (w₈ ++ rest)) = rw a₆ at (drop-after s (p₄ + length w₄) w₅ _ d₅) in
    let d₇ : drop (p₆ + length w₆) s ≡ w₇ ++ (w₈ ++ rest) = drop-after s p₆ w₆ _ d₆ in
    let d₈ : drop (p₆ + length w₆ + length w₇) s ≡ w₈ ++ rest = drop-after s (p₆ + length w₆) w₇ _ d₇ in
    let b₄ = behind-back s (stands_in m 16) 1 p₄ (length x.name) x.name (w₅ ++ (w₆ ++ (w₇ ++ (w₈ ++ rest)))) d₄ in
    let b₅ = behind-back s (stands_in m 32) 1 (p₄ + length w₄) (length x.second_name) x.second_name (w₆ ++ (w₇ ++ (w₈ ++ rest))) d₅ in
    let b₇ = behind-back s (stands_in m 128) 2 (p₆ + length w₆) (length x.block) x.block (w₈ ++ rest) d₇ in
    let b₈ = list_back s (stands_in m 256) (p₆ + length w₆ + length w₇) x.list rest v.list d₈ in
    λ i. parted (number_if (stands_in m 1) x.object) (number_if (stands_in m 2) x.parent) (number_if (stands_in m 4) x.second) (number_if (stands_in m 8) x.displaced)
    (b₄ i) (b₅ i) (number_if (stands_in m 64) x.offset) (b₇ i) (b₈ i)

-- the record is taken from the buffer again by what was answered
pub record-back : (s : List ℕ) (at : ℕ) (r : Record) (rest : List ℕ) → valid r ≡ true → drop at s ≡ encode r ++ rest → record_from s (whole_of r at) ≡ r
unfolding whole_of record_from
record-back s at r rest h e =
    let o = r.operation in
    let all = parts-back s at r rest h e in
    let op : operation_of (kind_of o) (map_of o) (parts_from s (whole_of r at).objects (whole_of r at).names (whole_of r at).range) ≡ o =
    ap (λ (y : Parts). operation_of (kind_of o) (map_of o) y) all ∙ operation-back o in
    λ i. record { sequence = r.sequence; program = r.program; operation = op i }

-- a valid record's bytes decode to it
pub decode-encode : (s : List ℕ) (at : ℕ) (r : Record) (rest : List ℕ) → valid r ≡ true → drop at s ≡ encode r ++ rest → decode_at s at ≡ Some r
unfolding decode_at
decode-encode s at r rest h e = ap (decoded s) (record-complete s at r rest h e) ∙ ap {B = Option Record} Some (record-back s at r rest h e)

-- what bytes decode to is valid, and they begin with its bytes
pub encode-decode : (s : List ℕ) → Bytes s → (at : ℕ) (r : Record) → decode_at s at ≡ Some r → (valid r ≡ true) × ((rest : List ℕ) × (drop at s ≡ encode r ++ rest))
unfolding decode_at
encode-decode s byte at r e = go (record_at s at) refl e
  where
    go : (x : Option Whole) → record_at s at ≡ x → decoded s x ≡ Some r → (valid r ≡ true) × ((rest : List ℕ) × (drop at s ≡ encode r ++ rest))
    go None f d = let z : ◌≡◌ {A = ℕ} 0 1 = cc in absurd (omega arith)
    go (Some w) f d =
        let g = record-sound s byte at w f in
        let back : record_from s w ≡ g.found = ap (record_from s) (sym g.answered) ∙ record-back s at g.found (drop w.next.at s) g.good g.spans.begins in
        let same : record_from s w ≡ r = cc in
        let is : g.found ≡ r = sym back ∙ same in
        (subst (λ (y : Record). valid y ≡ true) is g.good, (drop w.next.at s, subst (λ (y : Record). drop at s ≡ encode y ++ drop w.next.at s) is g.spans.begins))
