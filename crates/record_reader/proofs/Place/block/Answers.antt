-- `record_reader::Place::block` meets its contract: the limits asked of the length that was read are those of `block_at`.
-- Assumes nothing.
use Rattle.record_reader.specs.Code.Reader.{block_at}
use Rattle.record_reader.proofs.Place.block.Goals as goal

pub returns-in_default : goal.returns-in_default
unfolding block_at
returns-in_default c = rw (← c.stands.ensures, c.if-stands.true, ← c.two.ensures, c.in_default.is)

pub returns-then-in_limits : goal.returns-then-in_limits
unfolding block_at
returns-then-in_limits c =
    rw (← c.stands.ensures, c.if-stands.true, ← c.two.ensures, c.in-Some.is, ← c.in_limits.ensures, c.if-in_limits.true) c.part.ensures

pub returns-then-stands : goal.returns-then-stands
unfolding block_at
returns-then-stands c =
    rw (← c.stands.ensures, c.if-stands.true, ← c.two.ensures, c.in-Some.is, ← c.in_limits.ensures, c.if-in_limits.false)

pub returns : goal.returns
unfolding block_at
returns c = rw (← c.stands.ensures, c.if-stands.false)
