-- `session_cut::cut` meets its contract. Assumes nothing.
use mathlib.Core.Path.{sym, ◌∙◌}
use Rattle.returned.specs.Laws.Refusal.{refused-number, refused-some, not-refused}
use Rattle.session.specs.Call.{cut}
use Rattle.session_admission.specs.Laws.Admitted.{not-admitted, admitted}
use Rattle.log_rules.proofs.Laws.Geometry.{logged-most}
use Rattle.session_cut.specs.Laws.Cut.{cut_left}
use Rattle.session_cut.proofs.cut.Goals as goal

pub returns-in-Err : goal.returns-in-Err
returns-in-Err c =
    let a = c.args in
    rw (sym (refused-number c.in-Err.is)) (sym (not-admitted _ cut _ _ (sym c.admit.ensures) (refused-some c.in-Err.is)))

pub discard-requires : goal.discard-requires
discard-requires c =
    let a = c.args in
    let h = admitted a.n a.b a.m a.server.now a.view.now a.log.now (sym c.admit.ensures ∙ not-refused _ c.in_default.not-Err) in
    logged-most a.n a.b a.m a.log.now h.log

pub copy_volume-requires : goal.copy_volume-requires
copy_volume-requires c =
    let a = c.args in
    let h = admitted a.n a.b a.m a.server.now a.view.now a.log.now (sym c.admit.ensures ∙ not-refused _ c.in_default.not-Err) in
    h.view.lent.whole ∙ sym h.server.lent.whole

pub returns : goal.returns
returns c =
    let a = c.args in
    let h = admitted a.n a.b a.m a.server.now a.view.now a.log.now (sym c.admit.ensures ∙ not-refused _ c.in_default.not-Err) in
    (cut_left _ _ _ _ _ _ _ _ h c.copy_volume.ensures c.discard.ensures)
