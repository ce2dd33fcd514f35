-- `record_writer::write_rename` meets its contract: the head and the fields of the map are put one after another.
-- Assumes nothing.
use Rattle.buffer.specs.Laws.Patch.{put_then}
use Rattle.record_writer.specs.Laws.Writer.{put_written, rename-bytes}
use Rattle.record_writer.proofs.write_rename.Goals as goal

pub returns : goal.returns
returns c =
    let a = c.args in
    let h = rw c.rename_map.ensures at c.put_head-object_at.ensures in
    put_written _
    (put_then h (put_then c.put_two-parent_at.ensures (put_then c.put_two-second_at.ensures (put_then c.put_two-displaced_at.ensures
    (put_then c.put_displaced-name_at.ensures (put_then c.put_text-second_name_at.ensures c.put_text.ensures))))))
    (rename-bytes a.sequence a.program a.object a.parent a.second a.displaced a.name.now a.second_name.now)
