-- `session_questions::first_refusal` meets its contract. Assumes nothing.
use mathlib.Core.Path.{sym, ◌∙◌}
use Rattle.returned.specs.Laws.Refusal.{refused-number, refused-some, not-refused}
use Rattle.session_admission.specs.Laws.Admitted.{admitted}
use Rattle.session_questions.specs.Laws.Noted.{first-lent, first-program}
use Rattle.session_questions.proofs.first_refusal.Goals as goal

pub returns-in-Err : goal.returns-in-Err
returns-in-Err c =
    let a = c.args in
    sym (refused-number c.in-Err.is)
    ∙ first-lent a.n a.b a.m a.program a.server.now a.view.now a.log.now _ c.admit.ensures (refused-some c.in-Err.is)

pub program_refusal-requires : goal.program_refusal-requires
program_refusal-requires c =
    let a = c.args in
    (admitted a.n a.b a.m a.server.now a.view.now a.log.now (sym c.admit.ensures ∙ not-refused _ c.in_default.not-Err)).log.whole

pub returns : goal.returns
returns c =
    let a = c.args in
    first-program a.n a.b a.m a.program a.server.now a.view.now a.log.now (sym c.admit.ensures ∙ not-refused _ c.in_default.not-Err) _ c.program_refusal.ensures
