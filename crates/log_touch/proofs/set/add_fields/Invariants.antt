-- `log_touch::set::add_fields` meets its contract. The loop goes from the last field to the first; the invariant: those passed are in
-- the set. Assumes nothing.
use Prim.Native.Nat.{ℕ}
use mathlib.Core.Path.{◌≡◌}
use mathlib.Core.List.{List, ◌++◌}
use lib.ListN.{length, take, drop}
use Rattle.log_rules.specs.Code.Flags.{Holds}
use Rattle.log_touch.proofs.set.add_fields.Given as goal

abbrev pub invariant-loop-i : goal.invariant-loop-i
invariant-loop-i l =
    (length (take l.count l.fields) ≡ l.count) × ((ops : List ℕ) → Holds l.initial.set ops → Holds l.set (drop l.i (take l.count l.fields) ++ ops))
