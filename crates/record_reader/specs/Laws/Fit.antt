-- A record that was read fits n and b exactly if its objects, its list and its range do.
use Rattle.std.specs.Prelude.{ℕ, ◌+◌, ◌*◌, ◌≡◌, refl, Bool, true, false, ◌&&◌, List, ◌++◌, length, drop, leb, ltb}
use Rattle.std.proofs.Common.{sym, ap, ◌∙◌, subst}
use Rattle.std.proofs.Math.Bool.{and-true, and_assoc}
use Rattle.std.specs.Prelude.{None, Some}
use Rattle.record_reader.specs.declared.Whole.{Whole}
use Rattle.buffer.specs.Numeral.{Bytes}
use Rattle.record.specs.Operation.{Operation, create_file, make_directory, remove, rename, overwrite, append, set_length, forder, Record, map_of, operands}
use Rattle.record.specs.Fields.{Parts, parts, object_fields, name_fields, valid, encode, all_below, within_blocks, fits, objects_of}
use Rattle.buffer.specs.Code.Span.{stretch}
use Rattle.record_reader.specs.Code.Reader.{record_at}
use Rattle.record_reader.specs.Laws.SoundRecord.{record-sound}
use Rattle.record_reader.specs.Laws.Exact.{decode-encode, parts-back}
use Rattle.record.proofs.Laws.Record.{under}
use Rattle.record_reader.specs.Answer.{objects_in, range_in, whole_of}
use Rattle.record_reader.specs.Code.Found.{decode_at}
use Rattle.record_reader.specs.Code.Fit.{fits_decoded, objects_below, fits_whole}

-- the operands of an operation are below n where its fields are
operands-below : (n : ℕ) (o : Operation) → all_below n (operands o) ≡ objects_below n (map_of o) (objects_in (map_of o) (parts o)) && all_below n (parts o).list
unfolding all_below operands objects_below
operands-below n (create_file o p k) = sym (and-true _)
operands-below n (make_directory o p k) = sym (and-true _)
operands-below n (remove o p k) = sym (and-true _)
operands-below n (rename o p q None k j) = sym (and-true _)
operands-below n (rename o p q (Some d) k j) = swapped (ltb o n) (ltb p n) (ltb q n) (ltb d n)
  where
    swapped : (a b c d : Bool) → (a && (b && (c && (d && true)))) ≡ (a && (b && (c && d))) && true
    swapped true true true d = refl
    swapped true true false d = refl
    swapped true false c d = refl
    swapped false b c d = refl
operands-below n (overwrite o f c) = sym (and-true _)
operands-below n (append o f c) = sym (and-true _)
operands-below n (set_length o f) = sym (and-true _)
operands-below n (forder l) = refl

-- the length that is answered of an operation's data is that of its data
content-long : (o : Operation) (at : ℕ) → (range_in (map_of o) (parts o) at).content.len ≡ length (parts o).block
content-long (create_file o p n) at = refl
content-long (make_directory o p n) at = refl
content-long (remove o p n) at = refl
content-long (rename o p q None n m) at = refl
content-long (rename o p q (Some d) n m) at = refl
content-long (overwrite o f b) at = refl
content-long (append o f b) at = refl
content-long (set_length o f) at = refl
content-long (forder l) at = refl

offset-kept : (o : Operation) (at : ℕ) → (range_in (map_of o) (parts o) at).offset ≡ (parts o).offset
offset-kept (create_file o p n) at = refl
offset-kept (make_directory o p n) at = refl
offset-kept (remove o p n) at = refl
offset-kept (rename o p q None n m) at = refl
offset-kept (rename o p q (Some d) n m) at = refl
offset-kept (overwrite o f b) at = refl
offset-kept (append o f b) at = refl
offset-kept (set_length o f) at = refl
offset-kept (forder l) at = refl

list-kept : (o : Operation) → (under (map_of o) (parts o)).list ≡ (parts o).list
list-kept (create_file o p n) = refl
list-kept (make_directory o p n) = refl
list-kept (remove o p n) = refl
list-kept (rename o p q None n m) = refl
list-kept (rename o p q (Some d) n m) = refl
list-kept (overwrite o f b) = refl
list-kept (append o f b) = refl
list-kept (set_length o f) = refl
list-kept (forder l) = refl

-- where a record stands, it fits exactly if what was answered of it does
fits-there : (s : List ℕ) (at n b : ℕ) (r : Record) (rest : List ℕ) → valid r ≡ true → drop at s ≡ encode r ++ rest
    → fits n b r ≡ objects_below n (whole_of r at).head.map (whole_of r at).objects
    && (all_below n (objects_of (stretch s (whole_of r at).range.list)) && within_blocks b (whole_of r at).range.offset (whole_of r at).range.content.len)
unfolding fits whole_of within_blocks
fits-there s at n b r rest h e =
    let o = r.operation in
    let l : objects_of (stretch s (whole_of r at).range.list) ≡ (parts o).list = ap (λ (y : Parts). y.list) (parts-back s at r rest h e) ∙ list-kept o in
    let a = objects_below n (map_of o) (objects_in (map_of o) (parts o)) in
    let g = leb ((parts o).offset + length (parts o).block) (1024 * b) in
    let q = at + 8 + length (object_fields (map_of o) (parts o)) + length (name_fields (map_of o) (parts o)) in
    ap (λ (y : Bool). y && g) (operands-below n o) ∙ and_assoc a (all_below n (parts o).list) g
    ∙ (λ i. a && (all_below n (sym l i) && leb (sym (offset-kept o q) i + sym (content-long o q) i) (1024 * b)))

-- the record of a place fits exactly if what the reader answered of it does
pub fits_read : (s : List ℕ) → Bytes s → (at n b : ℕ) (w : Whole) → record_at s at ≡ Some w → fits_decoded n b (decode_at s at) ≡ fits_whole n b s w
unfolding fits_whole
fits_read s byte at n b w e =
    let f = record-sound s byte at w e in
    let d : decode_at s at ≡ Some f.found = decode-encode s at f.found (drop w.next.at s) f.good f.spans.begins in
    ap (fits_decoded n b) d
    ∙ subst
    (λ (y : Whole).
    fits n b f.found
    ≡ objects_below n y.head.map y.objects && (all_below n (objects_of (stretch s y.range.list)) && within_blocks b y.range.offset y.range.content.len))
    f.answered
    (fits-there s at n b f.found (drop w.next.at s) f.good f.spans.begins)
