-- `record_reader::Place::range` meets its contract: field after field, as `range_at` has them.
-- Assumes nothing.
use Rattle.record_reader.specs.Code.Reader.{range_at}
use Rattle.record_reader.proofs.Place.range.Goals as goal

pub returns-in_default : goal.returns-in_default
unfolding range_at
returns-in_default c = rw (← c.offset.ensures, c.in_default.is)

pub returns-in_default-block : goal.returns-in_default-block
unfolding range_at
returns-in_default-block c = rw (← c.offset.ensures, c.in-Some.is, ← c.block.ensures, c.in_default-block.is)

pub returns-in_default-list : goal.returns-in_default-list
unfolding range_at
returns-in_default-list c =
    rw (← c.offset.ensures, c.in-Some.is, ← c.block.ensures, c.in-Some-block.is, ← c.list.ensures, c.in_default-list.is)

pub returns : goal.returns
unfolding range_at
returns c =
    rw (← c.offset.ensures, c.in-Some.is, ← c.block.ensures, c.in-Some-block.is, ← c.list.ensures, c.in-Some-list.is)
