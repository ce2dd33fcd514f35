-- `volume_tree::numbers::lowest` meets its contract. The loop's invariant: each number passed fails the test.
-- Assumes nothing.
use Rattle.std.proofs.Common.{ℕ, ◌<◌, false}
use Rattle.volume_tree.proofs.numbers.lowest.Given as goal

abbrev pub invariant-loop-i : goal.invariant-loop-i
invariant-loop-i g l = (j : ℕ) → j < l.i → goal.F-post g l.test j false
