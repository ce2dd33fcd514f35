-- `record_reader::Place::offset` meets its contract: the number is read where its bit stands.
-- Assumes nothing.
use Rattle.record_reader.specs.Code.Reader.{offset_at}
use Rattle.record_reader.proofs.Place.offset.Goals as goal

pub returns-then-stands : goal.returns-then-stands
unfolding offset_at
returns-then-stands c = rw (← c.stands.ensures, c.if-stands.true) c.four.ensures

pub returns : goal.returns
unfolding offset_at
returns c = rw (← c.stands.ensures, c.if-stands.false)
