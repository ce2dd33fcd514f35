-- What is found of the slots before a position, which are the candidates, from the last to the first.
use Rattle.std.specs.Prelude.{List, Bool, ◌&&◌}
use Rattle.record.specs.Operation.{Operation, Record}
use Rattle.log_rules.specs.Slot.{Slot, is_waiting}
use Rattle.log_rules.specs.Order.{directly_precedes, any}
use Rattle.log_rules.specs.Change.{waiting_of}

-- a candidate waits and directly precedes an operation
abbrev pub waits_before : Operation → Slot → Bool
waits_before q t = is_waiting t && directly_precedes t.recorded.operation q

-- one of the candidates does
abbrev pub some_before : Operation → List Slot → Bool
some_before q l = any (λ (a : Record). directly_precedes a.operation q) (waiting_of l)
