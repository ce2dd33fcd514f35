-- `session_operations::operations::operations` meets its contract: across the end of the file two. Assumes nothing.
use native.Mathlib.Omega.{arith}
use Rattle.session_operations.specs.Laws.Write.{two-across}
use Rattle.session_operations.proofs.operations.operations.Goals as goal

pub returns-then-len-offset : goal.returns-then-len-offset
returns-then-len-offset c =
    let a = c.args in
    λ o. two-across a.len o a.offset a.«data».now c.if-data-eq0.false (omega arith) (omega arith)
