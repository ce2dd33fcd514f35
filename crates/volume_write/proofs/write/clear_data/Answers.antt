-- `volume_write::write::clear_data` meets its contract: the data are lent on as a part.
-- Assumes nothing.
use Prim.Native.Nat.{ℕ, ◌+◌, ◌*◌, ◌-◌}
use mathlib.Core.Path.{◌≡◌, ap₂, ◌∙◌}
use native.Mathlib.Omega.{arith}
use lib.ListN.{replicate}
use Rattle.buffer.specs.Patch.{patch}
use Rattle.volume_entry.specs.Stored.{entry_bytes}
use Rattle.volume_tree.specs.Laws.Lent.{entry-room}
use Rattle.volume_write.specs.Laws.Write.{lent-cleared}
use Rattle.volume_write.proofs.write.clear_data.Goals as goal

pub overflow_mul-at-2 : goal.overflow_mul-at-2
overflow_mul-at-2 c = omega (arith, entry-room _ _ _ c.requires.lent _ c.requires.i_lt_n)

pub overflow_add-at-2 : goal.overflow_add-at-2
overflow_add-at-2 c = omega (arith, entry-room _ _ _ c.requires.lent _ c.requires.i_lt_n)

pub overflow_add-start : goal.overflow_add-start
overflow_add-start c = omega (arith, entry-room _ _ _ c.requires.lent _ c.requires.i_lt_n)

pub overflow_add-end : goal.overflow_add-end
overflow_add-end c = omega (arith, entry-room _ _ _ c.requires.lent _ c.requires.i_lt_n)

pub slice_bounds-clear-end : goal.slice_bounds-clear-end
slice_bounds-clear-end c = omega (arith, entry-room _ _ _ c.requires.lent _ c.requires.i_lt_n)

pub returns : goal.returns
returns c =
    let a = c.args in
    let w = entry-room _ _ _ c.requires.lent _ c.requires.i_lt_n in
    let at = a.i * entry_bytes a.b + 68 in
    let e : at + a.from ≡ a.i * entry_bytes a.b + (68 + a.from) = omega arith in
    let d : at + a.to - (at + a.from) ≡ a.to - a.from = omega arith in
    lent-cleared a.s.now (at + a.from) (at + a.to) c.clear.new.s (omega arith) (omega arith) c.clear.ensures
    ∙ ap₂ (λ (j k : ℕ). patch a.s.now j (replicate k 0)) e d
