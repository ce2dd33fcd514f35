-- `record_writer::put_head` meets its contract: the four numbers are put one after another.
-- Assumes nothing.
use Rattle.record.specs.Fields.{head_bytes}
use Rattle.buffer.specs.Laws.Patch.{put_then}
use Rattle.record_writer.proofs.put_head.Goals as goal

pub returns : goal.returns
unfolding head_bytes
returns c =
    put_then c.put_two-sequence_at.ensures (put_then c.put_four-program_at.ensures (put_then c.put_one-kind_at.ensures (rw c.code.ensures at c.put_one.ensures)))
