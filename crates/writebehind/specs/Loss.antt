-- Document 01, "Loss record": what the record reader answers a host of the record that a buffer's bytes begin with at a place.
use Rattle.std.specs.Prelude.{ℕ}
use Rattle.std.specs.Prelude.{Option, None, Some}
use Rattle.returned.specs.Returned
use Rattle.record.specs.Kind.{code_of}
use Rattle.record.specs.Operation.{Record}
use Rattle.record_reader.specs.declared.Whole.{Whole}
use Rattle.record_reader.specs.Answer.{whole_of}
use Rattle.writebehind.specs.declared.loss.Loss.{Loss}

-- "20 Bad record"; "The other results of a refusal are 0"
abbrev pub no_loss : Loss
no_loss =
    record {
      returned = Returned.bad_record;
      next = 0;
      sequence = 0;
      program = 0;
      kind = 0;
      map = 0;
      object = 0;
      parent = 0;
      second_parent = 0;
      displaced = 0;
      name_at = 0;
      name_len = 0;
      second_name_at = 0;
      second_name_len = 0;
      offset = 0;
      data_at = 0;
      data_len = 0;
      list_at = 0;
      list_len = 0;
    }

-- a record's fields with the code of its kind, and where its names, data and list lie
abbrev pub loss_with : ℕ → Whole → Loss
loss_with code w =
    record {
      returned = Returned.accepted;
      next = w.next.at;
      sequence = w.head.sequence;
      program = w.head.program;
      kind = code;
      map = w.head.map;
      object = w.objects.object;
      parent = w.objects.parent;
      second_parent = w.objects.second;
      displaced = w.objects.displaced;
      name_at = w.names.name.start;
      name_len = w.names.name.len;
      second_name_at = w.names.second.start;
      second_name_len = w.names.second.len;
      offset = w.range.offset;
      data_at = w.range.content.start;
      data_len = w.range.content.len;
      list_at = w.range.list.start;
      list_len = w.range.list.len;
    }

abbrev pub loss_in : Whole → Loss
loss_in w = loss_with (code_of w.head.kind) w

-- the number and the values of each answer of the reader
abbrev pub loss_read : Option Whole → Loss
loss_read (Some w) = loss_in w
loss_read None = no_loss

-- the answer for the record that begins at a place, if one does
abbrev pub reading_of : ℕ → Option Record → Option Whole
reading_of at None = None
reading_of at (Some r) = (Some (whole_of r at))

abbrev pub loss_of : ℕ → Option Record → Loss
loss_of at r = loss_read (reading_of at r)
