-- `record_reader::Place::object` meets its contract: the limits asked of the number that was read are those of `object_at`.
-- Assumes nothing.
use Rattle.record_reader.specs.Code.Reader.{object_at}
use Rattle.record_reader.proofs.Place.object.Goals as goal

pub returns-in_default : goal.returns-in_default
unfolding object_at
returns-in_default c = rw (← c.stands.ensures, c.if-stands.true, ← c.two.ensures, c.in_default.is)

pub returns-then-in_limits : goal.returns-then-in_limits
unfolding object_at
returns-then-in_limits c =
    rw (← c.stands.ensures, c.if-stands.true, ← c.two.ensures, c.in-Some.is, ← c.in_limits.ensures, c.if-in_limits.true)

pub returns-then-stands : goal.returns-then-stands
unfolding object_at
returns-then-stands c =
    rw (← c.stands.ensures, c.if-stands.true, ← c.two.ensures, c.in-Some.is, ← c.in_limits.ensures, c.if-in_limits.false)

pub returns : goal.returns
unfolding object_at
returns c = rw (← c.stands.ensures, c.if-stands.false)
