-- `volume_write::write::write_head` meets its contract: the head is lent on as a part.
-- Assumes nothing.
use Prim.Native.Nat.{◌+◌, ◌*◌}
use mathlib.Core.Path.{sym, ap, ◌∙◌}
use native.Mathlib.Omega.{arith}
use native.Mathlib.Nat.{add-sub_cancel_left}
use lib.ListN.{length}
use Rattle.buffer.specs.Patch.{patch}
use Rattle.volume_entry.specs.Stored.{entry_bytes}
use Rattle.volume_entry.specs.Laws.Write.{length-head}
use Rattle.volume_tree.specs.Laws.Lent.{entry-room}
use Rattle.volume_write.specs.Laws.Write.{lent-part}
use Rattle.volume_write.proofs.write.write_head.Goals as goal

pub overflow_mul-at-2 : goal.overflow_mul-at-2
overflow_mul-at-2 c = omega (arith, entry-room _ _ _ c.requires.lent _ c.requires.i_lt_n)

pub overflow_add-end : goal.overflow_add-end
overflow_add-end c = omega (arith, entry-room _ _ _ c.requires.lent _ c.requires.i_lt_n)

pub slice_bounds-put_head-end : goal.slice_bounds-put_head-end
slice_bounds-put_head-end c = omega (arith, entry-room _ _ _ c.requires.lent _ c.requires.i_lt_n)

pub returns : goal.returns
returns c =
    let a = c.args in
    let at = a.i * entry_bytes a.b in
    lent-part a.s.now at (at + 64) c.put_head.new.head
    (ap length c.put_head.ensures ∙ length-head a.kind a.parent a.name.now c.requires.name_len_bound ∙ sym (add-sub_cancel_left at 64))
    ∙ ap (patch a.s.now at) c.put_head.ensures
