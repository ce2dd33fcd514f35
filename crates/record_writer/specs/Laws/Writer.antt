-- The bytes of each shape of record, so that a chain of puts writes a record.
use Rattle.std.specs.Prelude.{ℕ, ◌+◌, ◌/◌, ◌%◌, ◌≡◌, refl, List, ◌++◌, length, Option, None, Some}
use Rattle.std.proofs.Common.{zero-add, arith, ◌∙◌, append_assoc, append-nil, length-append}
use Rattle.record.specs.declared.kind.Kind.{Kind}
use Rattle.record.specs.declared.kind.Kind.TheVariants.{CreateFile, MakeDirectory, Remove, Rename, Overwrite, Append, SetLength, Forder}
use Rattle.record.specs.Kind.{code_of, map_of_kind}
use Rattle.buffer.specs.Numeral.{bytes, Bytes}
use Rattle.buffer.specs.Laws.Numeral.{length-bytes}
use Rattle.record.specs.Operation.{Record, map_with}
use Rattle.record.specs.Fields.{text, object_fields, name_fields, range_fields, fields, head_bytes, encode}
use Rattle.record.proofs.Laws.List.{count-objects, pairs-objects}
use Rattle.record.proofs.Laws.Record.{length-head}
use Rattle.buffer.specs.Patch.{patch, Put}
use Rattle.record_writer.specs.Code.Writer.{Written, displaced_bytes, entry_record, rename_record, range_record, length_record, forder_record}

-- what is put at the start, if it is a record's bytes, is the record written
pub put_written : (r : Record) {v a b : List ℕ} {n : ℕ} → Put v 0 a b n → encode r ≡ v → Written r a b n
unfolding patch
put_written r {v} {a} {b} {n} p e =
    record {
      count = rw e (p.ends ∙ zero-add (length v));
      held = rw e (p.placed ∙ rw (zero-add (length v)));
    }

-- the bytes of each shape of record: its head, and the fields of its map in bit order
pub entry-bytes : (k : Kind) (s p o q : ℕ) (n : List ℕ) → map_of_kind k ≡ map_of_kind CreateFile
    → encode (entry_record k s p o q n) ≡ head_bytes (map_of_kind k) s p (code_of k) ++ (bytes 2 o ++ (bytes 2 q ++ text n))
unfolding entry_record encode fields object_fields name_fields range_fields
entry-bytes CreateFile s p o q n e = simp (append-nil, append_assoc)
entry-bytes MakeDirectory s p o q n e = simp (append-nil, append_assoc)
entry-bytes Remove s p o q n e = simp (append-nil, append_assoc)
entry-bytes Rename s p o q n e = absurd (omega arith)
entry-bytes Overwrite s p o q n e = absurd (omega arith)
entry-bytes Append s p o q n e = absurd (omega arith)
entry-bytes SetLength s p o q n e = absurd (omega arith)
entry-bytes Forder s p o q n e = absurd (omega arith)

pub rename-bytes : (s p o q u : ℕ) (d : Option ℕ) (n m : List ℕ)
    → encode (rename_record s p o q u d n m)
    ≡ head_bytes (map_with Rename d) s p (code_of Rename)
    ++ (bytes 2 o ++ (bytes 2 q ++ (bytes 2 u ++ (displaced_bytes d ++ (text n ++ text m)))))
unfolding rename_record encode fields object_fields name_fields range_fields
rename-bytes s p o q u (Some d) n m = simp (append-nil, append_assoc)
rename-bytes s p o q u None n m = simp (append-nil, append_assoc)

pub range-bytes : (k : Kind) (s p o f : ℕ) (c : List ℕ) → map_of_kind k ≡ map_of_kind Overwrite
    → encode (range_record k s p o f c) ≡ head_bytes (map_of_kind k) s p (code_of k) ++ (bytes 2 o ++ (bytes 4 f ++ (bytes 2 (length c) ++ c)))
unfolding range_record encode fields object_fields name_fields range_fields
range-bytes CreateFile s p o f c e = absurd (omega arith)
range-bytes MakeDirectory s p o f c e = absurd (omega arith)
range-bytes Remove s p o f c e = absurd (omega arith)
range-bytes Rename s p o f c e = absurd (omega arith)
range-bytes Overwrite s p o f c e = simp append-nil
range-bytes Append s p o f c e = simp append-nil
range-bytes SetLength s p o f c e = absurd (omega arith)
range-bytes Forder s p o f c e = absurd (omega arith)

pub newlength-bytes : (s p o f : ℕ) → encode (length_record s p o f) ≡ head_bytes (map_of_kind SetLength) s p (code_of SetLength) ++ (bytes 2 o ++ bytes 4 f)
unfolding length_record encode fields object_fields name_fields range_fields
newlength-bytes s p o f = simp append-nil

pub forder-bytes : (s p : ℕ) (l : List ℕ) → Bytes l → length l % 2 ≡ 0
    → encode (forder_record s p l) ≡ head_bytes (map_of_kind Forder) s p (code_of Forder) ++ (bytes 1 (length l / 2) ++ l)
unfolding forder_record encode fields object_fields name_fields range_fields
forder-bytes s p l h e = rw (count-objects l, pairs-objects l (length l / 2) h (omega arith)) refl

-- the length of each
pub entry-size : (k : Kind) (s p o q : ℕ) (n : List ℕ) → map_of_kind k ≡ map_of_kind CreateFile → length (encode (entry_record k s p o q n)) ≡ 13 + length n
entry-size k s p o q n e = rw (entry-bytes k s p o q n e) (simp (length-append, length-head, length-bytes) (omega arith))

pub rename-size : (s p o q u : ℕ) (d : Option ℕ) (n m : List ℕ)
    → length (encode (rename_record s p o q u d n m)) ≡ 16 + length (displaced_bytes d) + length n + length m
rename-size s p o q u d n m = rw (rename-bytes s p o q u d n m) (simp (length-append, length-head, length-bytes) (omega arith))

pub range_size : (k : Kind) (s p o f : ℕ) (c : List ℕ) → map_of_kind k ≡ map_of_kind Overwrite → length (encode (range_record k s p o f c)) ≡ 16 + length c
range_size k s p o f c e = rw (range-bytes k s p o f c e) (simp (length-append, length-head, length-bytes) (omega arith))

pub newlength-size : (s p o f : ℕ) → length (encode (length_record s p o f)) ≡ 14
newlength-size s p o f = rw (newlength-bytes s p o f) (simp (length-append, length-head, length-bytes))

pub forder-size : (s p : ℕ) (l : List ℕ) → Bytes l → length l % 2 ≡ 0 → length (encode (forder_record s p l)) ≡ 9 + length l
forder-size s p l h e = rw (forder-bytes s p l h e) (simp (length-append, length-head, length-bytes) (omega arith))

-- the lengths, for what must fit the buffer
pub ruleset sizes = (entry-size, rename-size, range_size, newlength-size, forder-size)
