-- `session_admission::program::program_refusal` meets its contract. Assumes nothing.
use native.Mathlib.Omega.{arith}
use mathlib.Core.Path.{◌≡◌, sym, ◌∙◌}
use mathlib.Core.Bool.{true, false}
use borrow.Author.Tests.{lt-ltb, le-ltb}
use Rattle.log_rules.specs.Programs.{holds}
use Rattle.log_rules.specs.Stored.{read_log}
use Rattle.session.specs.Code.Table.{first_number}
use Rattle.session_admission.proofs.program.program_refusal.Goals as goal

pub returns-then-is_marked : goal.returns-then-is_marked
unfolding first_number
returns-then-is_marked c =
    let a = c.args in
    let h : holds (read_log a.m a.log.now).head.marks a.program ≡ true = sym c.is_marked.ensures ∙ c.if-is_marked.true in
    rw (lt-ltb a.program 32 (omega arith), h)

pub returns-then-program-lt-PROGRAMS : goal.returns-then-program-lt-PROGRAMS
unfolding first_number
returns-then-program-lt-PROGRAMS c =
    let a = c.args in
    let h : holds (read_log a.m a.log.now).head.marks a.program ≡ false = sym c.is_marked.ensures ∙ c.if-is_marked.false in
    rw (lt-ltb a.program 32 (omega arith), h)

pub returns : goal.returns
unfolding first_number
returns c = rw (le-ltb c.args.program 32 (omega arith))
