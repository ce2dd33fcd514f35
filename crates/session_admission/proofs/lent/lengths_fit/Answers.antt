-- `session_admission::lent::lengths_fit` meets its contract: each buffer is tested as it should be lent. Assumes nothing.
use mathlib.Core.Path.{sym, ◌∙◌}
use mathlib.Core.Bool.{◌&&◌}
use Rattle.volume_tree.specs.Stored.{lent}
use Rattle.log_rules.specs.Stored.{lent_log}
use Rattle.session_admission.specs.Laws.Admitted.{lengths-lent, passes, stops}
use Rattle.session_admission.proofs.lent.lengths_fit.Goals as goal

pub returns-then-is_lent-2 : goal.returns-then-is_lent-2
returns-then-is_lent-2 c =
    let a = c.args in
    let n = a.n in
    let b = a.b in
    let s = a.server.now in
    let v = a.view.now in
    let l = a.log.now in
    c.is_lent-then-is_lent-2.ensures
    ∙ passes (lent n b v) (lent_log n b a.m l) (sym c.is_lent-then-is_lent.ensures ∙ c.if-is_lent-2.true)
    ∙ passes (lent n b s) (lent n b v && lent_log n b a.m l) (sym c.is_lent.ensures ∙ c.if-is_lent.true)
    ∙ lengths-lent n b a.m s v l

pub returns-else-is_lent-2 : goal.returns-else-is_lent-2
returns-else-is_lent-2 c =
    let a = c.args in
    let n = a.n in
    let b = a.b in
    let s = a.server.now in
    let v = a.view.now in
    let l = a.log.now in
    stops (lent n b v) (lent_log n b a.m l) (sym c.is_lent-then-is_lent.ensures ∙ c.if-is_lent-2.false)
    ∙ passes (lent n b s) (lent n b v && lent_log n b a.m l) (sym c.is_lent.ensures ∙ c.if-is_lent.true)
    ∙ lengths-lent n b a.m s v l

pub returns-else-is_lent : goal.returns-else-is_lent
returns-else-is_lent c =
    let a = c.args in
    let n = a.n in
    let b = a.b in
    let s = a.server.now in
    let v = a.view.now in
    let l = a.log.now in
    stops (lent n b s) (lent n b v && lent_log n b a.m l) (sym c.is_lent.ensures ∙ c.if-is_lent.false) ∙ lengths-lent n b a.m s v l
