-- `record_writer::write_entry` meets its contract: the head and the fields of the map are put one after another.
-- Assumes nothing.
use Rattle.buffer.specs.Laws.Patch.{put_then}
use Rattle.record_writer.specs.Laws.Writer.{put_written, entry-bytes}
use Rattle.record_writer.proofs.write_entry.Goals as goal

pub returns : goal.returns
returns c =
    let a = c.args in
    let h = rw c.map.ensures at c.put_head-object_at.ensures in
    put_written _ (put_then h (put_then c.put_two-parent_at.ensures (put_then c.put_two-name_at.ensures c.put_text.ensures)))
    (entry-bytes a.kind a.sequence a.program a.object a.parent a.name.now c.requires.kind_value)
