-- `record_writer::write_forder` meets its contract: the bytes of a list of even length are those of its objects.
-- Assumes nothing.
use Rattle.buffer.specs.Laws.Patch.{put_then}
use Rattle.record_writer.specs.Laws.Writer.{put_written, forder-bytes}
use Rattle.record_writer.proofs.write_forder.Goals as goal

pub returns : goal.returns
returns c =
    let a = c.args in
    let h = rw c.map.ensures at c.put_head-count_at.ensures in
    put_written _ (put_then h (put_then c.put_one-list_at.ensures c.put_bytes.ensures))
    (forder-bytes a.sequence a.program a.list.now (λ i. (c.type_inv.list i).fits) c.requires.list_len)
