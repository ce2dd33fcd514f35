-- What one slot adds to the objects reached.
use Rattle.std.specs.Prelude.{ℕ, ◌≡◌, List, ◌++◌, Bool, ◌&&◌, cond}
use Rattle.record.specs.Operation.{operands}
use Rattle.log_rules.specs.Slot.{Slot, is_waiting}
use Rattle.log_rules.specs.Order.{shares}
use Rattle.log_rules.specs.Code.Flags.{Holds}

-- a slot's operation waits and has an operand among some objects
abbrev pub is_reached : List ℕ → Slot → Bool
is_reached ops t = is_waiting t && shares (operands t.recorded.operation) ops

-- those objects and, if it does, its operands
abbrev pub reached_by : List ℕ → Slot → List ℕ
reached_by ops t = cond (is_reached ops t) (operands t.recorded.operation ++ ops) ops

-- one slot was tried with a set of objects: whether it is reached, and the set afterwards
pub record Tried (t : Slot) (before after : List ℕ) (r : Bool) : Type 0 where
  pub found : (ops : List ℕ) → Holds before ops → r ≡ is_reached ops t
  pub objects : (ops : List ℕ) → Holds before ops → Holds after (reached_by ops t)
