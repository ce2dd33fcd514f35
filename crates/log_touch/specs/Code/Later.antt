-- What is told of the later of two operations: the set of its operands and, of an overwrite, where it writes.
use Rattle.std.specs.Prelude.{ℕ, List, Bool}
use Rattle.record.specs.Operation.{Operation, operands, overwrite_of}
use Rattle.log_rules.specs.Code.Flags.{Holds}
use Rattle.log_operands.specs.Code.Ordering.{Stretched}

pub record Later (q : Operation) (set : List ℕ) (w : Bool) (f n : ℕ) : Type 0 where
  pub objects : Holds set (operands q)
  pub stretch : Stretched (overwrite_of q) w f n
