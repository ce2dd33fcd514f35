-- `session_change::accept_change` meets its contract. Assumes nothing.
use mathlib.Core.Path.{sym, ◌∙◌}
use Rattle.returned.specs.Refusal.{number_of}
use Rattle.returned.specs.Laws.Refusal.{refused-number, refused-some, accepted-number, not-refused}
use Rattle.log_rules.specs.Stored.{read_log}
use Rattle.session.specs.Call.{geometry}
use Rattle.session_change.specs.Laws.Change.{by-program, by-own, by-room}
use Rattle.session_change.proofs.accept_change.Goals as goal

pub returns-in-Err-clause-number : goal.returns-in-Err-clause-number
returns-in-Err-clause-number g c =
    let a = c.args in
    sym (refused-number c.in-Err.is)
    ∙ by-program (geometry a.n a.b a.m) (read_log a.m a.log.now) a.program (number_of a.own) a.count _ c.program_refusal.ensures (refused-some c.in-Err.is)

pub returns-in-Err-own-clause-number : goal.returns-in-Err-own-clause-number
returns-in-Err-own-clause-number g c =
    let a = c.args in
    sym (refused-number c.in-Err-own.is)
    ∙ by-own (geometry a.n a.b a.m) (read_log a.m a.log.now) a.program (number_of a.own) a.count _ c.program_refusal.ensures
    (not-refused _ c.in_default.not-Err) (refused-some c.in-Err-own.is)

pub returns-in-Err-room_refusal-clause-number : goal.returns-in-Err-room_refusal-clause-number
returns-in-Err-room_refusal-clause-number g c =
    let a = c.args in
    sym (refused-number c.in-Err-room_refusal.is)
    ∙ by-room (geometry a.n a.b a.m) (read_log a.m a.log.now) a.program (number_of a.own) a.count _ c.program_refusal.ensures
    (not-refused _ c.in_default.not-Err) (accepted-number c.in-Ok.is) _ c.room_refusal.ensures

pub returns-in_default-room_refusal-clause-number : goal.returns-in_default-room_refusal-clause-number
returns-in_default-room_refusal-clause-number g c =
    let a = c.args in
    sym (not-refused _ c.in_default-room_refusal.not-Err)
    ∙ by-room (geometry a.n a.b a.m) (read_log a.m a.log.now) a.program (number_of a.own) a.count _ c.program_refusal.ensures
    (not-refused _ c.in_default.not-Err) (accepted-number c.in-Ok.is) _ c.room_refusal.ensures
