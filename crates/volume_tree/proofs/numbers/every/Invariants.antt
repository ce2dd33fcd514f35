-- `volume_tree::numbers::every` meets its contract. The loop's invariant: each number passed passes the test.
-- Assumes nothing.
use Rattle.std.proofs.Common.{ℕ, ◌<◌, true}
use Rattle.volume_tree.proofs.numbers.every.Given as goal

abbrev pub invariant-loop-i : goal.invariant-loop-i
invariant-loop-i g l = (j : ℕ) → j < l.i → goal.F-post g l.test j true
