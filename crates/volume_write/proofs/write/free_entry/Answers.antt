-- `volume_write::write::free_entry` meets its contract: the entry is lent on as a part.
-- Assumes nothing.
use Prim.Native.Nat.{ℕ, ◌+◌, ◌*◌}
use mathlib.Core.Path.{ap, ◌∙◌}
use native.Mathlib.Omega.{arith}
use native.Mathlib.Nat.{add-sub_cancel_left}
use lib.ListN.{replicate}
use Rattle.buffer.specs.Patch.{patch}
use Rattle.volume_entry.specs.Stored.{entry_bytes}
use Rattle.volume_tree.specs.Laws.Lent.{entry-room}
use Rattle.volume_write.specs.Laws.Write.{lent-cleared, freed}
use Rattle.volume_write.proofs.write.free_entry.Goals as goal

pub overflow_mul-at : goal.overflow_mul-at
overflow_mul-at c = omega (arith, entry-room _ _ _ c.requires.formed.lent _ c.requires.i_lt_n)

pub overflow_add-end : goal.overflow_add-end
overflow_add-end c = omega (arith, entry-room _ _ _ c.requires.formed.lent _ c.requires.i_lt_n)

pub slice_bounds-clear-end : goal.slice_bounds-clear-end
slice_bounds-clear-end c = omega (arith, entry-room _ _ _ c.requires.formed.lent _ c.requires.i_lt_n)

pub returns : goal.returns
returns c =
    let a = c.args in
    let w = entry-room _ _ _ c.requires.formed.lent _ c.requires.i_lt_n in
    let at = a.i * entry_bytes a.b in
    lent-cleared a.s.now at (at + entry_bytes a.b) c.clear.new.s (omega arith) (omega arith) c.clear.ensures
    ∙ ap (λ (k : ℕ). patch a.s.now at (replicate k 0)) (add-sub_cancel_left at (entry_bytes a.b))
    ∙ freed a.n a.b a.s.now c.requires.formed a.i c.requires.i_lt_n
