-- What the reader of a whole record must answer: the record whose bytes begin at the place, and where its parts lie.
use Rattle.std.specs.Prelude.{ℕ, ◌+◌, ◌≡◌, List, ◌++◌, Bool, true, false, length, drop, Option, None, Some}
use Rattle.record_reader.specs.declared.Objects.{Objects}
use Rattle.buffer.specs.declared.span.Span.{Span}
use Rattle.record_reader.specs.declared.Names.{Names}
use Rattle.record_reader.specs.declared.Range.{Range}
use Rattle.record_reader.specs.declared.Whole.{Whole}
use Rattle.buffer.specs.Numeral.{bytes}
use Rattle.record.specs.Operation.{Record, kind_of, map_of}
use Rattle.buffer.specs.Code.Span.{span}
use Rattle.record.specs.Fields.{Parts, parts, stands_in, number_if, field, text, pairs, object_fields, name_fields, encode, valid}

-- where a field's bytes lie, if its bit stands; else 0 and 0
abbrev pub span_if : Bool → ℕ → ℕ → Span
span_if true start n = span start n
span_if false start n = span 0 0

abbrev pub objects_in : ℕ → Parts → Objects
objects_in m x =
    record {
      object = number_if (stands_in m 1) x.object;
      parent = number_if (stands_in m 2) x.parent;
      second = number_if (stands_in m 4) x.second;
      displaced = number_if (stands_in m 8) x.displaced;
    }

-- the names of a record whose field 4 would begin at a place: each lies behind its length
abbrev pub names_in : ℕ → Parts → ℕ → Names
names_in m x at =
    record {
      name = span_if (stands_in m 16) (at + 1) (length x.name);
      second = span_if (stands_in m 32) (at + length (field (stands_in m 16) (text x.name)) + 1) (length x.second_name);
    }

-- the offset, data and list of a record whose field 6 would begin at a place
abbrev pub range_in : ℕ → Parts → ℕ → Range
range_in m x at =
    record {
      offset = number_if (stands_in m 64) x.offset;
      content = span_if (stands_in m 128) (at + length (field (stands_in m 64) (bytes 4 x.offset)) + 2) (length x.block);
      list =
          span_if (stands_in m 256)
          (at + length (field (stands_in m 64) (bytes 4 x.offset))
          + length (field (stands_in m 128) (bytes 2 (length x.block) ++ x.block)) + 1)
          (length (pairs x.list));
    }

-- all that is answered of a record that begins at a place: "each call giving the next place"
unfoldable pub whole_of : Record → ℕ → Whole
whole_of r at =
    let m = map_of r.operation in
    let x = parts r.operation in
    record {
      head = record { map = m; sequence = r.sequence; program = r.program; kind = kind_of r.operation };
      objects = objects_in m x;
      names = names_in m x (at + 8 + length (object_fields m x));
      range = range_in m x (at + 8 + length (object_fields m x) + length (name_fields m x));
      next = record { at = at + length (encode r) };
    }

-- what stands at a place of a buffer: exactly if its bytes from there begin with those of a valid record, that record;
-- "20 Bad record: not one valid record at the start" in all other cases
pub data Exact (s : List ℕ) (at : ℕ) : Option Whole → Type 0 where
  read : (r : Record) (rest : List ℕ) → valid r ≡ true → drop at s ≡ encode r ++ rest → Exact s at (Some (whole_of r at))
  refused : ((r : Record) (rest : List ℕ) → valid r ≡ true → drop at s ≡ encode r ++ rest → ⊥) → Exact s at None
