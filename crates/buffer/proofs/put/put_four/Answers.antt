-- `buffer::put::put_four` meets its contract: 4 bytes are twice 2. Assumes nothing.
use Rattle.buffer.specs.Laws.Patch.{put_then, bytes-four}
use Rattle.buffer.proofs.put.put_four.Goals as goal

pub returns : goal.returns
returns c = rw (bytes-four c.args.v) (put_then c.put_two-next.ensures c.put_two.ensures)
