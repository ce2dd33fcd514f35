-- `log_touch::set::add_list` meets its contract. The loop goes from the last object to the first; the invariant: those passed are in
-- the set. Assumes nothing.
use Prim.Native.Nat.{ℕ}
use mathlib.Core.List.{List, ◌++◌}
use lib.ListN.{drop}
use Rattle.record.specs.Fields.{objects_of}
use Rattle.log_rules.specs.Code.Flags.{Holds}
use Rattle.log_touch.proofs.set.add_list.Given as goal

abbrev pub invariant-loop-i : goal.invariant-loop-i
invariant-loop-i l =
    (ops : List ℕ) → Holds l.initial.set ops → Holds l.set (drop l.i (objects_of l.list) ++ ops)
