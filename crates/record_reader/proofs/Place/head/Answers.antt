-- `record_reader::Place::head` meets its contract: number after number, as `head_at` has them.
-- Assumes nothing.
use Rattle.record_reader.specs.Code.Reader.{head_at}
use Rattle.record_reader.proofs.Place.head.Goals as goal

pub returns-in_default : goal.returns-in_default
unfolding head_at
returns-in_default c = rw (← c.two.ensures, c.in_default.is)

pub returns-in_default-four : goal.returns-in_default-four
unfolding head_at
returns-in_default-four c = rw (← c.two.ensures, c.in-Some.is, ← c.four.ensures, c.in_default-four.is)

pub returns-in_default-one : goal.returns-in_default-one
unfolding head_at
returns-in_default-one c =
    rw (← c.two.ensures, c.in-Some.is, ← c.four.ensures, c.in-Some-four.is, ← c.one.ensures, c.in_default-one.is)

pub returns-in_default-one-2 : goal.returns-in_default-one-2
unfolding head_at
returns-in_default-one-2 c =
    rw (← c.two.ensures, c.in-Some.is, ← c.four.ensures, c.in-Some-four.is, ← c.one.ensures, c.in-Some-one.is, ← c.one-2.ensures, c.in_default-one-2.is)

pub returns : goal.returns
unfolding head_at
returns c =
    rw (← c.two.ensures, c.in-Some.is, ← c.four.ensures, c.in-Some-four.is, ← c.one.ensures, c.in-Some-one.is, ← c.one-2.ensures, c.in-Some-one-2.is) c.checked_head.ensures
