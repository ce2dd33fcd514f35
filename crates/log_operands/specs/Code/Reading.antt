-- What the code makes of the fields of a record, and within what limits they lie once they were read.
use Rattle.std.specs.Prelude.{ℕ, ◌≤◌, ◌<◌, ◌≡◌, List, false, length}
use Rattle.buffer.specs.declared.span.Span.{Span}
use Rattle.buffer.specs.Code.Span.{stretch}
use Rattle.record.specs.Operation.{Operation}
use Rattle.record.specs.Fields.{objects_of, operation_of}
use Rattle.record_reader.specs.declared.Head.{Head}
use Rattle.record_reader.specs.declared.Objects.{Objects}
use Rattle.record_reader.specs.declared.Names.{Names}
use Rattle.record_reader.specs.declared.Range.{Range}
use Rattle.record_reader.specs.Code.Found.{parts_from}
use Rattle.log_operands.specs.declared.Order.{Order}
use Rattle.log_operands.specs.Code.Ordering.{Small}

-- so many of fields 0 to 3, the objects of a part of the record, and no stretch
abbrev pub plain : ℕ → Objects → Span → Order
plain n o p =
    record {
      count = n;
      objects = o;
      listed = p;
      overwrite = false;
      offset = 0;
      len = 0;
    }

-- the operation whose fields were read, whatever its names are
abbrev pub read : List ℕ → Head → Objects → Names → Range → Operation
read s h o n g = operation_of h.kind h.map (parts_from s o n g)

-- the limits of what was read: objects below 256, an offset of 4 bytes, at most 1,024 bytes of data, all there, objects below 256 in a list
pub record Limited (s : List ℕ) (o : Objects) (g : Range) : Type 0 where
  pub object : o.object < 256
  pub parent : o.parent < 256
  pub second : o.second < 256
  pub displaced : o.displaced < 256
  pub offset : g.offset < 4294967296
  pub len : g.content.len ≤ 1024
  pub whole : length (stretch s g.content) ≡ g.content.len
  pub list : Small (objects_of (stretch s g.list))
