-- `text::rest::keep_rest` meets its contract.
-- Assumes nothing.
use Rattle.std.proofs.Common.{ℕ, ◌≡◌, ◌+◌, ◌-◌, ◌≤◌, List, length, take, drop, ap, ◌∙◌, arith, length-take, length-drop, take_at}
use Rattle.std.proofs.Math.Seq.{paste}
use Rattle.std.proofs.lemmas.Slice.{between_is}
use Rattle.buffer.specs.Patch.{patch}
use Rattle.text.proofs.rest.keep_rest.Goals as goal

-- so many bytes that stand at a place, at the start
at-start : (l : List ℕ) (from n : ℕ) → from + n ≤ length l → paste l 0 (drop from l) n ≡ patch l 0 (take n (drop from l))
unfolding patch
at-start l from n h = let e : length (take n (drop from l)) ≡ n = simp (length-take, length-drop) (omega arith) in rw e

at-front : (l : List ℕ) (from to : ℕ) → from ≤ to → to ≤ length l → take (to - from) (patch l 0 (take (to - from) (drop from l))) ≡ drop from (take to l)
unfolding patch
at-front l from to h k =
    let s = take (to - from) (drop from l) in
    take_at s _ (to - from) (simp (length-take, length-drop) (omega arith)) ∙ between_is l from to

pub returns : goal.returns
returns c =
    let a = c.args in
    let moved = c.copy_within.ensures.after ∙ at-start a.buf.now a.from (a.to - a.from) (omega arith) in
    record { moved = moved; kept = ap (take (a.to - a.from)) moved ∙ at-front a.buf.now a.from a.to (omega arith) (omega arith) }
