-- `log_touch::set::shares_list` meets its contract. The invariant: the objects that are left decide the answer.
-- Assumes nothing.
use Prim.Native.Nat.{ℕ}
use mathlib.Core.Path.{◌≡◌}
use mathlib.Core.List.{List}
use lib.ListN.{drop}
use Rattle.record.specs.Fields.{objects_of}
use Rattle.log_rules.specs.Order.{shares}
use Rattle.log_rules.specs.Code.Flags.{Holds}
use Rattle.log_touch.proofs.set.shares_list.Given as goal

abbrev pub invariant-loop-i : goal.invariant-loop-i
invariant-loop-i l =
    (ops : List ℕ) → Holds l.set ops → shares (objects_of l.list) ops ≡ shares (drop l.i (objects_of l.list)) ops
