-- `volume_write::format::format_volume` meets its contract: all bytes are zero but for the root's kind.
-- Assumes nothing.
use Prim.Native.Nat.{ℕ, ◌≤◌}
use mathlib.Core.Path.{ap, ◌∙◌}
use mathlib.Core.List.{List}
use native.Mathlib.Omega.{arith}
use lib.ListN.{set, replicate}
use Rattle.volume_tree.specs.Laws.Stored.{formatted-zeros}
use Rattle.volume_write.proofs.format.format_volume.Goals as goal

pub returns : goal.returns
returns c =
    let a = c.args in
    let h : 1 ≤ a.n = omega arith in
    ap (λ (s : List ℕ). set s 0 2) (c.clear.ensures ∙ ap (λ (k : ℕ). replicate k 0) c.requires.whole)
    ∙ formatted-zeros a.n a.b h
