-- `record_reader::Place::objects` meets its contract: field after field, as `objects_at` has them.
-- Assumes nothing.
use Rattle.record_reader.specs.Code.Reader.{objects_at}
use Rattle.record_reader.proofs.Place.objects.Goals as goal

pub returns-in_default : goal.returns-in_default
unfolding objects_at
returns-in_default c = rw (← c.object.ensures, c.in_default.is)

pub returns-in_default-object : goal.returns-in_default-object
unfolding objects_at
returns-in_default-object c = rw (← c.object.ensures, c.in-Some.is, ← c.object-2.ensures, c.in_default-object.is)

pub returns-in_default-object-2 : goal.returns-in_default-object-2
unfolding objects_at
returns-in_default-object-2 c =
    rw (← c.object.ensures, c.in-Some.is, ← c.object-2.ensures, c.in-Some-object.is, ← c.object-3.ensures, c.in_default-object-2.is)

pub returns-in_default-object-3 : goal.returns-in_default-object-3
unfolding objects_at
returns-in_default-object-3 c =
    rw (← c.object.ensures, c.in-Some.is, ← c.object-2.ensures, c.in-Some-object.is, ← c.object-3.ensures, c.in-Some-object-2.is, ← c.object-4.ensures, c.in_default-object-3.is)

pub returns : goal.returns
unfolding objects_at
returns c =
    rw (← c.object.ensures, c.in-Some.is, ← c.object-2.ensures, c.in-Some-object.is, ← c.object-3.ensures, c.in-Some-object-2.is, ← c.object-4.ensures, c.in-Some-object-3.is)
