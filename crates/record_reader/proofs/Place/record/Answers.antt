-- `record_reader::Place::record` meets its contract: the head, the fields in three parts, and what ties them, as `record_at` has them.
-- Assumes nothing.
use Rattle.record_reader.specs.Code.Reader.{record_at}
use Rattle.record_reader.proofs.Place.record.Goals as goal

pub returns-in_default : goal.returns-in_default
unfolding record_at
returns-in_default c = rw (← c.head.ensures, c.in_default.is)

pub returns-in_default-objects : goal.returns-in_default-objects
unfolding record_at
returns-in_default-objects c = rw (← c.head.ensures, c.in-Some.is, ← c.objects.ensures, c.in_default-objects.is)

pub returns-in_default-names : goal.returns-in_default-names
unfolding record_at
returns-in_default-names c =
    rw (← c.head.ensures, c.in-Some.is, ← c.objects.ensures, c.in-Some-objects.is, ← c.names.ensures, c.in_default-names.is)

pub returns-in_default-range : goal.returns-in_default-range
unfolding record_at
returns-in_default-range c =
    rw (← c.head.ensures, c.in-Some.is, ← c.objects.ensures, c.in-Some-objects.is, ← c.names.ensures, c.in-Some-names.is, ← c.range.ensures, c.in_default-range.is)

pub returns-then-tied : goal.returns-then-tied
unfolding record_at
returns-then-tied c =
    rw (← c.head.ensures, c.in-Some.is, ← c.objects.ensures, c.in-Some-objects.is, ← c.names.ensures, c.in-Some-names.is, ← c.range.ensures, c.in-Some-range.is, ← c.tied.ensures, c.if-tied.true)

pub returns : goal.returns
unfolding record_at
returns c =
    rw (← c.head.ensures, c.in-Some.is, ← c.objects.ensures, c.in-Some-objects.is, ← c.names.ensures, c.in-Some-names.is, ← c.range.ensures, c.in-Some-range.is, ← c.tied.ensures, c.if-tied.false)
