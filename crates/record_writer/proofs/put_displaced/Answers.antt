-- `record_writer::put_displaced` meets its contract. Assumes nothing.
use Rattle.buffer.specs.Laws.Patch.{put-none}
use Rattle.record_writer.proofs.put_displaced.Goals as goal

pub returns-in-None : goal.returns-in-None
returns-in-None c = let a = c.args in rw c.in-None.is (put-none a.buf.now a.at)
