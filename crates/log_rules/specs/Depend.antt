-- Document 01, "Order and dependence": which waiting operations a call depends on.
use Rattle.std.specs.Prelude.{ℕ, List, [], ◌∷◌, ◌++◌, ◌&&◌, cond}
use Rattle.record.specs.Operation.{operands}
use Rattle.log_rules.specs.Programs.{with}
use Rattle.log_rules.specs.Slot.{Slot, with_dependents, is_waiting}
use Rattle.log_rules.specs.Order.{shares}

-- "a later successful call of its own has an operand which that operation, directly or through a chain of touching
-- operations, touches": from the last slot to the first, the objects that are reached so far
unfoldable pub reach : List ℕ → List Slot → List ℕ
reach ops [] = ops
reach ops (s ∷ l) =
    let r = reach ops l in
    cond (is_waiting s && shares (operands s.recorded.operation) r) (operands s.recorded.operation ++ r) r

-- the slots after an accepted call of a program with given operands: it now depends on each waiting operation that it reaches
unfoldable pub noted : ℕ → List ℕ → List Slot → List Slot
noted p ops [] = []
noted p ops (s ∷ l) =
    cond (is_waiting s && shares (operands s.recorded.operation) (reach ops l)) (with_dependents (with s.dependents p) s) s
    ∷ noted p ops l
