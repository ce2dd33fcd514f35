-- C12 of document 01, and the empty input.
use Rattle.std.specs.Prelude.{◌≡◌, refl, [], ◌∷◌, true}
use Rattle.buffer.specs.Numeral.{bytes}
use Rattle.record.specs.Operation.{Record, forder}
use Rattle.record.specs.Fields.{valid, valid_head, valid_parts, valid_objects, valid_names, valid_range, valid_list, all_up_to, different, member, tied, differing, in_block, encode, head_bytes, fields, object_fields, name_fields, range_fields, pairs}
use Rattle.text.specs.Decimal.{decimal, digits}
use Rattle.losses_line.specs.Line.{with_end, line}
use Rattle.losses_report.specs.Report.{Report, ends, told}

-- "forder 7 by program 3 on 5 and 6"
abbrev pub c12 : Record
c12 = record { sequence = 7; program = 3; operation = forder (5 ∷ 6 ∷ []) }

-- "C12 bytes 0 1 7 0 0 0 3 8 2 5 0 6 0"
pub c12-bytes : encode c12 ≡ 0 ∷ 1 ∷ 7 ∷ 0 ∷ 0 ∷ 0 ∷ 3 ∷ 8 ∷ 2 ∷ 5 ∷ 0 ∷ 6 ∷ 0 ∷ []
unfolding encode head_bytes fields object_fields name_fields range_fields pairs bytes
c12-bytes = refl

pub c12-valid : valid c12 ≡ true
unfolding valid valid_head valid_parts valid_objects valid_names valid_range valid_list all_up_to different member tied differing in_block
c12-valid = refl

-- C12 prints 7 3 8
pub c12-prints : Report 0 (0 ∷ 1 ∷ 7 ∷ 0 ∷ 0 ∷ 0 ∷ 3 ∷ 8 ∷ 2 ∷ 5 ∷ 0 ∷ 6 ∷ 0 ∷ []) (55 ∷ 32 ∷ 51 ∷ 32 ∷ 56 ∷ 10 ∷ [])
unfolding encode head_bytes fields object_fields name_fields range_fields pairs bytes line with_end decimal digits
c12-prints = told {rest = []} {out = []} c12 c12-valid ends

-- "empty input prints nothing"
pub empty-prints : Report 0 [] []
empty-prints = ends
