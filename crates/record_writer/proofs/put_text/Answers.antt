-- `record_writer::put_text` meets its contract: the length, and the bytes after it.
-- Assumes nothing.
use Rattle.buffer.specs.Laws.Patch.{put_then}
use Rattle.record_writer.proofs.put_text.Goals as goal

pub returns : goal.returns
returns c = put_then c.put_one-name_at.ensures c.put_bytes.ensures
