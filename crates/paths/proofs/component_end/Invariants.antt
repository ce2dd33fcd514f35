-- `paths::component_end` meets its contract. The loop's invariant: the component is the bytes passed, and what stands before the next
-- slash from here on. Assumes nothing.
use Prim.Native.Nat.{◌-◌}
use mathlib.Core.List.{◌++◌}
use mathlib.Core.Path.{◌≡◌}
use lib.ListN.{take, drop}
use Rattle.paths.specs.Path.{up_to_slash}
use Rattle.paths.proofs.component_end.Given as goal

abbrev pub invariant-loop-i : goal.invariant-loop-i
invariant-loop-i l = up_to_slash (drop l.at l.path) ≡ take (l.i - l.at) (drop l.at l.path) ++ up_to_slash (drop l.i l.path)
