-- `volume_write::write::write_block` meets its contract: the block is lent on as a part, which the data do not leave.
-- Assumes nothing.
use Prim.Native.Nat.{ℕ, ◌+◌, ◌*◌, ◌/◌, ◌%◌, ◌-◌, ◌≤◌}
use mathlib.Core.List.{List, ◌++◌}
use mathlib.Core.Path.{◌≡◌, ap, ◌∙◌}
use native.Mathlib.Omega.{arith}
use lib.ListN.{length, take, drop}
use Rattle.buffer.specs.Patch.{patch}
use Rattle.volume_entry.specs.Stored.{entry_bytes}
use Rattle.volume_tree.specs.Laws.Lent.{entry-room}
use Rattle.volume_write.specs.Laws.Write.{lent-patched}
use Rattle.volume_write.proofs.write.write_block.Goals as goal

-- data that came back in the block that was lent, as a patch of the volume
block : (s : List ℕ) (p b off : ℕ) (u x : List ℕ) → p + entry_bytes b ≤ length s → 1 ≤ length u → off % 1024 + length u ≤ 1024 → off + length u ≤ 1024 * b
    → x ≡ patch (take (p + 68 + off / 1024 * 1024 + 1024 - (p + 68 + off / 1024 * 1024)) (drop (p + 68 + off / 1024 * 1024) s)) (off % 1024) u
    → take (p + 68 + off / 1024 * 1024) s ++ (x ++ drop (p + 68 + off / 1024 * 1024 + 1024 - (p + 68 + off / 1024 * 1024)) (drop (p + 68 + off / 1024 * 1024) s))
    ≡ patch s (p + (68 + off)) u
block s p b off u x room some one within q =
    let k = p + 68 + off / 1024 * 1024 in
    let e : k + off % 1024 ≡ p + (68 + off) = omega arith in
    lent-patched s k (k + 1024) (off % 1024) u x (omega arith) (omega arith) (omega arith) q ∙ ap (λ (j : ℕ). patch s j u) e

pub overflow_mul-start-2 : goal.overflow_mul-start-2
overflow_mul-start-2 c = omega (arith, entry-room _ _ _ c.requires.lent _ c.requires.i_lt_n)

pub overflow_add-start-2 : goal.overflow_add-start-2
overflow_add-start-2 c = omega (arith, entry-room _ _ _ c.requires.lent _ c.requires.i_lt_n)

pub overflow_add-start-3 : goal.overflow_add-start-3
overflow_add-start-3 c = omega (arith, entry-room _ _ _ c.requires.lent _ c.requires.i_lt_n)

pub overflow_add-end : goal.overflow_add-end
overflow_add-end c = omega (arith, entry-room _ _ _ c.requires.lent _ c.requires.i_lt_n)

pub slice_bounds-put_bytes-end : goal.slice_bounds-put_bytes-end
slice_bounds-put_bytes-end c = omega (arith, entry-room _ _ _ c.requires.lent _ c.requires.i_lt_n)

pub returns : goal.returns
returns c =
    let a = c.args in
    let p = c.requires.in_bounds in
    block a.s.now (a.i * entry_bytes a.b) a.b a.offset a.src.now c.put_bytes.new.buf (entry-room _ _ _ c.requires.lent _ c.requires.i_lt_n)
    p.0 p.1 p.2 c.put_bytes.ensures.placed
