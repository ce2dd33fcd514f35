-- `record_reader::tied` meets its contract: the two tests are those of `tied_at`.
-- Assumes nothing.
use Rattle.record_reader.specs.Code.Reader.{tied_at}
use Rattle.record_reader.proofs.tied.Goals as goal

pub returns-then-differ : goal.returns-then-differ
unfolding tied_at
returns-then-differ c = rw (← c.differ.ensures, c.if-differ.true) c.in_block.ensures

pub returns : goal.returns
unfolding tied_at
returns c = rw (← c.differ.ensures, c.if-differ.false)
