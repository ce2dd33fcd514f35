-- `session_rename::move_refusal` meets its contract. Assumes nothing.
use mathlib.Core.Path.{sym, ◌∙◌}
use Rattle.volume_entry.specs.Entry.{kind_number}
use Rattle.volume_tree.specs.Stored.{read_volume}
use Rattle.volume_tree.specs.Laws.Answer.{of_entry}
use Rattle.session_rename.specs.Laws.Row.{move-leaves, move-free, move-mixed, move-full, move-fine}
use Rattle.session_rename.proofs.move_refusal.Goals as goal

pub returns-then-leaves_parent : goal.returns-then-leaves_parent
returns-then-leaves_parent c =
    let a = c.args in
    move-leaves (read_volume a.n a.b a.view.now) a.parent a.second a.object a.displaced (sym c.leaves_parent.ensures ∙ c.if-leaves_parent.true)

pub returns-in_default : goal.returns-in_default
returns-in_default c =
    let a = c.args in
    move-free (read_volume a.n a.b a.view.now) a.parent a.second a.object (sym c.leaves_parent.ensures ∙ c.if-leaves_parent.false)
    a.displaced c.in_default.not-Some

pub returns-then-kind : goal.returns-then-kind
returns-then-kind c =
    let a = c.args in
    let one = of_entry kind_number c.entry.ensures c.kind.ensures in
    let other = of_entry kind_number c.entry-2.ensures c.kind-2.ensures in
    rw c.in-Some.is
    (move-mixed (read_volume a.n a.b a.view.now) a.parent a.second a.object (sym c.leaves_parent.ensures ∙ c.if-leaves_parent.false) c.in-Some.gone (λ q. c.if-kind.true (one ∙ q ∙ sym other)))

pub returns-then-has_children : goal.returns-then-has_children
returns-then-has_children c =
    let a = c.args in
    let one = of_entry kind_number c.entry.ensures c.kind.ensures in
    let other = of_entry kind_number c.entry-2.ensures c.kind-2.ensures in
    rw c.in-Some.is
    (move-full (read_volume a.n a.b a.view.now) a.parent a.second a.object (sym c.leaves_parent.ensures ∙ c.if-leaves_parent.false) c.in-Some.gone (sym one ∙ c.if-kind.false ∙ other)
    (sym c.has_children.ensures ∙ c.if-has_children.true))

pub returns : goal.returns
returns c =
    let a = c.args in
    let one = of_entry kind_number c.entry.ensures c.kind.ensures in
    let other = of_entry kind_number c.entry-2.ensures c.kind-2.ensures in
    rw c.in-Some.is
    (move-fine (read_volume a.n a.b a.view.now) a.parent a.second a.object (sym c.leaves_parent.ensures ∙ c.if-leaves_parent.false) c.in-Some.gone (sym one ∙ c.if-kind.false ∙ other)
    (sym c.has_children.ensures ∙ c.if-has_children.false))
