-- `volume_write::write::write_len` meets its contract: the length is lent on as a part.
-- Assumes nothing.
use Prim.Native.Nat.{ℕ, ◌+◌, ◌*◌}
use mathlib.Core.Path.{ap, ◌∙◌}
use native.Mathlib.Omega.{arith}
use native.Mathlib.Nat.{add-zero}
use Rattle.buffer.specs.Numeral.{bytes}
use Rattle.buffer.specs.Laws.Numeral.{length-bytes}
use Rattle.buffer.specs.Patch.{patch}
use Rattle.volume_entry.specs.Stored.{entry_bytes}
use Rattle.volume_tree.specs.Laws.Lent.{entry-room}
use Rattle.volume_write.specs.Laws.Write.{lent-patched}
use Rattle.volume_write.proofs.write.write_len.Goals as goal

pub overflow_mul-start-2 : goal.overflow_mul-start-2
overflow_mul-start-2 c = omega (arith, entry-room _ _ _ c.requires.lent _ c.requires.i_lt_n)

pub overflow_add-start-2 : goal.overflow_add-start-2
overflow_add-start-2 c = omega (arith, entry-room _ _ _ c.requires.lent _ c.requires.i_lt_n)

pub overflow_add-end : goal.overflow_add-end
overflow_add-end c = omega (arith, entry-room _ _ _ c.requires.lent _ c.requires.i_lt_n)

pub slice_bounds-put_four-end : goal.slice_bounds-put_four-end
slice_bounds-put_four-end c = omega (arith, entry-room _ _ _ c.requires.lent _ c.requires.i_lt_n)

pub returns : goal.returns
returns c =
    let a = c.args in
    let w = entry-room _ _ _ c.requires.lent _ c.requires.i_lt_n in
    let k = a.i * entry_bytes a.b + 64 in
    lent-patched a.s.now k (k + 4) 0 (bytes 4 a.len) c.put_four.new.buf (omega arith) (omega arith)
    (rw (length-bytes 4 a.len) (omega arith)) c.put_four.ensures.placed
    ∙ ap (λ (j : ℕ). patch a.s.now j (bytes 4 a.len)) (add-zero k)
