-- `buffer::put::put_two` meets its contract: a byte is put after the other. Assumes nothing.
use Rattle.buffer.specs.Numeral.{bytes}
use Rattle.buffer.specs.Laws.Patch.{put_then}
use Rattle.buffer.proofs.put.put_two.Goals as goal

pub returns : goal.returns
unfolding bytes
returns c = put_then c.put_one-next.ensures c.put_one.ensures
