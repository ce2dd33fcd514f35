-- `buffer::zero::clear` meets its contract. The loop's invariant: the first bytes are zeros, and the others are as they were. Assumes nothing.
use mathlib.Core.List.{◌++◌}
use mathlib.Core.Path.{◌≡◌}
use lib.ListN.{drop, replicate}
use Rattle.buffer.proofs.zero.clear.Given as goal

abbrev pub invariant-loop-b : goal.invariant-loop-b
invariant-loop-b l = l.s ≡ replicate l.b-index 0 ++ drop l.b-index l.initial.s
