-- `record_reader::fit::objects_below` meets its contract: the four tests are those of `objects_below`.
-- Assumes nothing.
use Rattle.record_reader.specs.Code.Fit.{objects_below}
use Rattle.record_reader.proofs.fit.objects_below.Goals as goal

pub returns-then-below_if-3 : goal.returns-then-below_if-3
unfolding objects_below
returns-then-below_if-3 c =
    rw (← c.below_if.ensures, c.if-below_if.true, ← c.below_if-then-below_if.ensures, c.if-below_if-2.true, ← c.below_if-then-below_if-2.ensures, c.if-below_if-3.true) c.below_if-then-below_if-3.ensures

pub returns-else-below_if-3 : goal.returns-else-below_if-3
unfolding objects_below
returns-else-below_if-3 c =
    rw (← c.below_if.ensures, c.if-below_if.true, ← c.below_if-then-below_if.ensures, c.if-below_if-2.true, ← c.below_if-then-below_if-2.ensures, c.if-below_if-3.false)

pub returns-else-below_if-2 : goal.returns-else-below_if-2
unfolding objects_below
returns-else-below_if-2 c = rw (← c.below_if.ensures, c.if-below_if.true, ← c.below_if-then-below_if.ensures, c.if-below_if-2.false)

pub returns-else-below_if : goal.returns-else-below_if
unfolding objects_below
returns-else-below_if c = rw (← c.below_if.ensures, c.if-below_if.false)
