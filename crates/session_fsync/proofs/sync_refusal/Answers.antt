-- `session_fsync::sync_refusal` meets its contract: two tables, one behind the other. Assumes nothing.
use mathlib.Core.Path.{refl, sym, ◌∙◌}
use Rattle.volume_tree.specs.Stored.{read_volume}
use Rattle.log_rules.specs.Stored.{read_log}
use Rattle.returned.specs.Laws.Refusal.{refused-number, refused-some, not-refused}
use Rattle.session.specs.Model.{program_rows, object_rows}
use Rattle.session.proofs.Laws.Table.{first-left, first-right}
use Rattle.session_fsync.proofs.sync_refusal.Goals as goal

pub returns-in-Err : goal.returns-in-Err
returns-in-Err c =
    let a = c.args in
    sym (refused-number c.in-Err.is)
    ∙ sym (first-left _ (program_rows (read_log a.m a.log.now) a.program) (object_rows (read_volume a.n a.b a.view.now) a.object)
    (sym c.program_refusal.ensures) (refused-some c.in-Err.is))

pub returns : goal.returns
returns c =
    let a = c.args in
    c.object_refusal.ensures
    ∙ sym (first-right 0 (program_rows (read_log a.m a.log.now) a.program) (object_rows (read_volume a.n a.b a.view.now) a.object) refl
    (sym c.program_refusal.ensures ∙ not-refused _ c.in_default.not-Err))
