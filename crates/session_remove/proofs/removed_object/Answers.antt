-- `session_remove::removed_object` meets its contract. Assumes nothing.
use mathlib.Core.Path.{sym, ◌∙◌}
use Rattle.volume_tree.specs.Stored.{read_volume}
use Rattle.volume_tree.specs.Laws.Lent.{length-read}
use Rattle.session_names.specs.Laws.Row.{found-object}
use Rattle.session_remove.specs.Code.Remove.{removed_kind}
use Rattle.session_remove.specs.Laws.Row.{remove-text, remove-refused, remove-found}
use Rattle.returned.specs.Laws.Refusal.{refused-number, refused-none, not-refused}
use Rattle.session_remove.proofs.removed_object.Goals as goal

pub returns-in-Err : goal.returns-in-Err
returns-in-Err c =
    let a = c.args in
    remove-text (removed_kind a.directory) (read_volume a.n a.b a.view.now) a.parent a.name.now _ c.text_refusal.ensures _ c.in-Err.is

pub returns-in-Err-seek : goal.returns-in-Err-seek
returns-in-Err-seek c =
    let a = c.args in
    remove-refused (removed_kind a.directory) (read_volume a.n a.b a.view.now) a.parent a.name.now _ c.text_refusal.ensures
    (not-refused _ c.in_default.not-Err) _ c.seek.ensures _ c.in-Err-seek.is

pub choice_refusal-requires : goal.choice_refusal-requires
choice_refusal-requires c =
    let a = c.args in
    let is = c.seek.ensures.found _ c.in-Ok.is in
    record {
      lent = c.requires;
      object_lt_n = rw (length-read a.n a.b a.view.now) at (found-object (read_volume a.n a.b a.view.now) a.parent a.name.now _ is).0;
    }

pub returns-in-Err-choice_refusal : goal.returns-in-Err-choice_refusal
returns-in-Err-choice_refusal c =
    let a = c.args in
    remove-found (removed_kind a.directory) (read_volume a.n a.b a.view.now) a.parent a.name.now _ c.text_refusal.ensures
    (not-refused _ c.in_default.not-Err) _ c.seek.ensures _ c.in-Ok.is _ (sym (refused-number c.in-Err-choice_refusal.is) ∙ c.choice_refusal.ensures)
    (λ x z. refused-none _ x z)

pub returns : goal.returns
returns c =
    let a = c.args in
    remove-found (removed_kind a.directory) (read_volume a.n a.b a.view.now) a.parent a.name.now _ c.text_refusal.ensures
    (not-refused _ c.in_default.not-Err) _ c.seek.ensures _ c.in-Ok.is _ (sym (not-refused _ c.in_default-choice_refusal.not-Err) ∙ c.choice_refusal.ensures)
    (λ x z. cc)
