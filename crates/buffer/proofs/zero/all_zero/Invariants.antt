-- `buffer::zero::all_zero` meets its contract. The loop's invariant: all bytes are zero exactly where none was seen that is not, and
-- what is left of them is zero. Assumes nothing.
use mathlib.Core.Bool.{◌&&◌}
use mathlib.Core.Path.{◌≡◌}
use lib.Dec.{eqb}
use lib.ListN.{drop}
use Rattle.buffer.specs.Code.Zero.{zeros}
use Rattle.buffer.proofs.zero.all_zero.Given as goal

abbrev pub invariant-loop-b : goal.invariant-loop-b
invariant-loop-b l = eqb l.seen 0 && zeros (drop l.b-index l.s) ≡ zeros l.s
