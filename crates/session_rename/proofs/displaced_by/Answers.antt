-- `session_rename::displaced_by` meets its contract. Assumes nothing.
use mathlib.Core.Path.{sym, ◌∙◌}
use Rattle.volume_tree.specs.Volume.{search as search_in}
use Rattle.volume_tree.specs.Stored.{read_volume}
use Rattle.volume_tree.specs.Laws.Lent.{length-read}
use Rattle.volume_tree.specs.Laws.Answer.{found_at, found_nothing}
use Rattle.session_names.specs.Laws.Row.{found-object}
use Rattle.session_rename.specs.Laws.Row.{displaces-itself, displaces-another, displaces-none}
use Rattle.session_rename.proofs.displaced_by.Goals as goal

pub returns-then-i-object : goal.returns-then-i-object
returns-then-i-object c =
    let a = c.args in
    let v = read_volume a.n a.b a.view.now in
    let i = c.in-Some.i in
    let h = found_at (search_in v a.parent a.name.now) i (sym c.in-Some.is ∙ c.search.ensures) in
    (displaces-itself v a.object a.parent a.name.now i h c.if-i-object.true, λ j y. absurd (cc))

pub returns-else-i-object : goal.returns-else-i-object
returns-else-i-object c =
    let a = c.args in
    let v = read_volume a.n a.b a.view.now in
    let i = c.in-Some.i in
    let h = found_at (search_in v a.parent a.name.now) i (sym c.in-Some.is ∙ c.search.ensures) in (
      displaces-another v a.object a.parent a.name.now i h c.if-i-object.false,
      λ j y. rw (length-read a.n a.b a.view.now) at (found-object v a.parent a.name.now j (h ∙ y)).0,
    )

pub returns-in-None : goal.returns-in-None
returns-in-None c =
    let a = c.args in
    let v = read_volume a.n a.b a.view.now in
    let h = found_nothing (search_in v a.parent a.name.now) (sym c.in-None.is ∙ c.search.ensures) in
    (displaces-none v a.object a.parent a.name.now h, λ j y. absurd (cc))
