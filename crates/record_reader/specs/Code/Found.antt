-- The record that the reader found in a buffer.
use Rattle.std.specs.Prelude.{ℕ, List}
use Rattle.std.specs.Prelude.{Option, None, Some}
use Rattle.record_reader.specs.declared.Objects.{Objects}
use Rattle.record_reader.specs.declared.Names.{Names}
use Rattle.record_reader.specs.declared.Range.{Range}
use Rattle.record_reader.specs.declared.Whole.{Whole}
use Rattle.record.specs.Operation.{Record}
use Rattle.buffer.specs.Code.Span.{stretch}
use Rattle.record.specs.Fields.{Parts, parted, objects_of, operation_of}
use Rattle.record_reader.specs.Code.Reader.{record_at}

abbrev pub parts_from : List ℕ → Objects → Names → Range → Parts
parts_from s o n g =
    parted o.object o.parent o.second o.displaced (stretch s n.name) (stretch s n.second) g.offset
    (stretch s g.content) (objects_of (stretch s g.list))

-- the record that an answer tells of, its names, data and list taken from the buffer
unfoldable pub record_from : List ℕ → Whole → Record
record_from s w =
    record {
      sequence = w.head.sequence;
      program = w.head.program;
      operation = operation_of w.head.kind w.head.map (parts_from s w.objects w.names w.range);
    }

abbrev pub decoded : List ℕ → Option Whole → Option Record
decoded s (Some w) = Some (record_from s w)
decoded s None = None

-- the valid record whose bytes begin at a place, if there is one
unfoldable pub decode_at : List ℕ → ℕ → Option Record
decode_at s at = decoded s (record_at s at)
