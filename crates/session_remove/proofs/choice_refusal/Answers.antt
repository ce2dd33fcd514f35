-- `session_remove::choice_refusal` meets its contract. Assumes nothing.
use mathlib.Core.Path.{sym, ◌∙◌}
use Rattle.volume_tree.specs.Stored.{read_volume}
use Rattle.session_remove.specs.Code.Remove.{removed_kind}
use Rattle.session_remove.specs.Laws.Row.{choice-wrong, choice-full, choice-fine}
use Rattle.session_remove.proofs.choice_refusal.Goals as goal

pub returns-then-has_children : goal.returns-then-has_children
returns-then-has_children c =
    let a = c.args in
    choice-full (removed_kind a.directory) (read_volume a.n a.b a.view.now) a.object (sym c.is_removed_kind.ensures ∙ c.if-is_removed_kind.true)
    (sym c.has_children.ensures ∙ c.if-has_children.true)

pub returns-then-is_removed_kind : goal.returns-then-is_removed_kind
returns-then-is_removed_kind c =
    let a = c.args in
    choice-fine (removed_kind a.directory) (read_volume a.n a.b a.view.now) a.object (sym c.is_removed_kind.ensures ∙ c.if-is_removed_kind.true)
    (sym c.has_children.ensures ∙ c.if-has_children.false)

pub returns : goal.returns
returns c =
    let a = c.args in
    choice-wrong (removed_kind a.directory) (read_volume a.n a.b a.view.now) a.object (sym c.is_removed_kind.ensures ∙ c.if-is_removed_kind.false)
