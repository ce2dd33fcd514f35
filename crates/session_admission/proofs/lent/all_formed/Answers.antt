-- `session_admission::lent::all_formed` meets its contract. Assumes nothing.
use Prim.Native.Nat.{ℕ}
use mathlib.Core.Path.{sym, ◌∙◌}
use mathlib.Core.List.{List}
use mathlib.Core.Bool.{Bool, ◌&&◌}
use Rattle.volume_tree.specs.Stored.{formed}
use Rattle.log_rules.specs.Stored.{formed_log}
use Rattle.session.specs.Model.{agreeing}
use Rattle.session_admission.specs.Code.Admitted.{model_in}
use Rattle.session_admission.specs.Laws.Admitted.{passes, stops}
use Rattle.session_admission.proofs.lent.all_formed.Goals as goal

-- The tests of the view, the log and what ties them.
abbrev rest : ℕ → ℕ → ℕ → List ℕ → List ℕ → List ℕ → Bool
rest n b m s v l = formed n b v && (formed_log n b m l && agreeing (model_in n b m s v l))

pub returns-then-log_formed : goal.returns-then-log_formed
returns-then-log_formed c =
    let a = c.args in
    let l = formed_log a.n a.b a.m a.log.now in
    let t = agreeing (model_in a.n a.b a.m a.server.now a.view.now a.log.now) in
    c.agree.ensures ∙ passes l t (sym c.if-log_formed.ensures)
    ∙ passes (formed a.n a.b a.view.now) (l && t) (sym c.if-well_formed-2.ensures)
    ∙ passes (formed a.n a.b a.server.now) (rest a.n a.b a.m a.server.now a.view.now a.log.now) (sym c.if-well_formed.ensures)

pub returns-else-log_formed : goal.returns-else-log_formed
returns-else-log_formed c =
    let a = c.args in
    let l = formed_log a.n a.b a.m a.log.now in
    let t = agreeing (model_in a.n a.b a.m a.server.now a.view.now a.log.now) in
    stops l t (sym c.if-log_formed.ensures)
    ∙ passes (formed a.n a.b a.view.now) (l && t) (sym c.if-well_formed-2.ensures)
    ∙ passes (formed a.n a.b a.server.now) (rest a.n a.b a.m a.server.now a.view.now a.log.now) (sym c.if-well_formed.ensures)

pub returns-else-well_formed-2 : goal.returns-else-well_formed-2
returns-else-well_formed-2 c =
    let a = c.args in
    stops (formed a.n a.b a.view.now) _ (sym c.if-well_formed-2.ensures)
    ∙ passes (formed a.n a.b a.server.now) (rest a.n a.b a.m a.server.now a.view.now a.log.now) (sym c.if-well_formed.ensures)

pub returns-else-well_formed : goal.returns-else-well_formed
returns-else-well_formed c =
    let a = c.args in
    stops (formed a.n a.b a.server.now) (rest a.n a.b a.m a.server.now a.view.now a.log.now) (sym c.if-well_formed.ensures)
