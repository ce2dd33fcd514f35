-- `session_admission::program::number_refusal` meets its contract. Assumes nothing.
use native.Mathlib.Omega.{arith}
use borrow.Author.Tests.{lt-ltb, le-ltb}
use Rattle.session.specs.Code.Table.{first_number}
use Rattle.session_admission.proofs.program.number_refusal.Goals as goal

pub returns-then-program-lt-PROGRAMS : goal.returns-then-program-lt-PROGRAMS
unfolding first_number
returns-then-program-lt-PROGRAMS c = rw (lt-ltb c.args.program 32 (omega arith))

pub returns : goal.returns
unfolding first_number
returns c = rw (le-ltb c.args.program 32 (omega arith))
