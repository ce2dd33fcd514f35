-- `buffer::put::put_bytes` meets its contract. The invariant: the first i bytes are pasted in at the place. Assumes nothing.
use native.Mathlib.Omega.{arith}
use mathlib.Core.Path.{◌≡◌, refl}
use lib.ListN.{length}
use Rattle.buffer.specs.Laws.Patch.{put-paste}
use Rattle.buffer.proofs.put.put_bytes.Goals as goal

pub returns : goal.returns
returns c =
    let a = c.args in
    let e : c.loop-i.i ≡ length a.src.now = omega arith in
    put-paste a.buf.now a.at a.src.now c.loop-i.buf (length a.src.now) (rw e at c.loop-i.invariant) refl
