-- `record_reader::Place::names` meets its contract: field after field, as `names_at` has them.
-- Assumes nothing.
use Rattle.record_reader.specs.Code.Reader.{names_at}
use Rattle.record_reader.proofs.Place.names.Goals as goal

pub returns-in_default : goal.returns-in_default
unfolding names_at
returns-in_default c = rw (← c.name.ensures, c.in_default.is)

pub returns-in_default-name : goal.returns-in_default-name
unfolding names_at
returns-in_default-name c = rw (← c.name.ensures, c.in-Some.is, ← c.name-2.ensures, c.in_default-name.is)

pub returns : goal.returns
unfolding names_at
returns c =
    rw (← c.name.ensures, c.in-Some.is, ← c.name-2.ensures, c.in-Some-name.is)
