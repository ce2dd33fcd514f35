-- `record_reader::checked_head` meets its contract: the tests are those of `head_of`.
-- Assumes nothing.
use Rattle.record_reader.specs.Code.Reader.{head_of}
use Rattle.record_reader.proofs.checked_head.Goals as goal

pub returns-in_default : goal.returns-in_default
unfolding head_of
returns-in_default c = rw (← c.of_code.ensures, c.in_default.is)

pub returns-then-has_map : goal.returns-then-has_map
unfolding head_of
returns-then-has_map c =
    rw (← c.of_code.ensures, c.in-Some.is, ← c.valid_head.ensures, c.if-valid_head.true, ← c.has_map.ensures, c.if-has_map.true)

pub returns-else-has_map : goal.returns-else-has_map
unfolding head_of
returns-else-has_map c =
    rw (← c.of_code.ensures, c.in-Some.is, ← c.valid_head.ensures, c.if-valid_head.true, ← c.has_map.ensures, c.if-has_map.false)

pub returns-else-valid_head : goal.returns-else-valid_head
unfolding head_of
returns-else-valid_head c = rw (← c.of_code.ensures, c.in-Some.is, ← c.valid_head.ensures, c.if-valid_head.false)
