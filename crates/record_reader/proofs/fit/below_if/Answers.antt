-- `record_reader::fit::below_if` meets its contract: the test is asked where the bit stands.
-- Assumes nothing.
use Rattle.record_reader.proofs.fit.below_if.Goals as goal

pub returns-then-stands : goal.returns-then-stands
returns-then-stands c = rw (← c.stands.ensures, c.if-stands.true)

pub returns : goal.returns
returns c = rw (← c.stands.ensures, c.if-stands.false)
