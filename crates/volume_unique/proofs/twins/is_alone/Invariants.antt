-- `volume_unique::twins::is_alone` meets its contract. The loop's invariant: no entry passed behind the given one shares parent and name with it.
-- Assumes nothing.
use Prim.Native.Nat.{ℕ, ◌<◌}
use mathlib.Core.Bool.{Bool, true, not, ◌||◌}
use mathlib.Core.Path.{◌≡◌}
use lib.Dec.{leb}
use Rattle.volume_tree.specs.Volume.{Volume}
use Rattle.volume_tree.specs.Form.{twins}
use Rattle.volume_tree.specs.Stored.{read_volume}
use Rattle.volume_unique.proofs.twins.is_alone.Given as goal

-- the test that the loop runs on each entry behind the given one
abbrev pub test : Volume → ℕ → ℕ → Bool
test v i j = leb j i || not (twins v i j)

abbrev pub invariant-loop-j : goal.invariant-loop-j
invariant-loop-j l = (k : ℕ) → k < l.j → test (read_volume l.n l.b l.s) l.i k ≡ true
