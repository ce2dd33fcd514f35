-- `session_rename::renamed` meets its contract. Assumes nothing.
use mathlib.Core.Path.{sym, ◌∙◌}
use Rattle.volume_tree.specs.Stored.{read_volume}
use Rattle.volume_tree.specs.Laws.Lent.{length-read}
use Rattle.session_names.specs.Laws.Row.{found-object}
use Rattle.session_rename.specs.Laws.Row.{rename-text, rename-place, rename-found, rename-refused, rename-moved}
use Rattle.returned.specs.Laws.Refusal.{refused-number, not-refused}
use Rattle.session_rename.proofs.renamed.Goals as goal

pub returns-in-Err : goal.returns-in-Err
returns-in-Err c =
    let a = c.args in
    let v = read_volume a.n a.b a.view.now in
    rename-text v a.parent a.name.now a.second a.second_name.now _ _ c.text_refusal.ensures c.text_refusal-2.ensures _ c.lower_of.ensures.number _ c.in-Err.is

pub returns-in-Err-lower_of : goal.returns-in-Err-lower_of
returns-in-Err-lower_of c =
    let a = c.args in
    let v = read_volume a.n a.b a.view.now in
    rename-place v a.parent a.name.now a.second a.second_name.now _ _ c.text_refusal.ensures c.text_refusal-2.ensures _ c.lower_of.ensures.number
    (not-refused _ c.in_default.not-Err) _ _ c.seek-sought.ensures c.directory_refusal.ensures _ c.lower_of-2.ensures.number c.lower_of-2.ensures.value _ c.in-Err-lower_of.is

pub move_refusal-requires : goal.move_refusal-requires
move_refusal-requires c =
    let a = c.args in
    let v = read_volume a.n a.b a.view.now in
    let is =
    rename-found v a.parent a.name.now a.second a.second_name.now _ _ c.text_refusal.ensures c.text_refusal-2.ensures _ c.lower_of.ensures.number
    (not-refused _ c.in_default.not-Err) _ _ c.seek-sought.ensures c.directory_refusal.ensures _ c.lower_of-2.ensures.number c.lower_of-2.ensures.value _ c.in-Ok.is in
    record {
      lent = c.requires;
      object_lt_n = (rw (length-read a.n a.b a.view.now) at (found-object v a.parent a.name.now _ is).0, c.displaced_by-displaced.ensures.1);
    }

pub returns-in-Err-move_refusal : goal.returns-in-Err-move_refusal
returns-in-Err-move_refusal c =
    let a = c.args in
    let v = read_volume a.n a.b a.view.now in
    rename-refused v a.parent a.name.now a.second a.second_name.now _ _ c.text_refusal.ensures c.text_refusal-2.ensures _ c.lower_of.ensures.number
    (not-refused _ c.in_default.not-Err) _ _ c.seek-sought.ensures c.directory_refusal.ensures _ c.lower_of-2.ensures.number c.lower_of-2.ensures.value _ c.in-Ok.is
    c.displaced_by-displaced.result c.displaced_by-displaced.ensures.0 _ (sym (refused-number c.in-Err-move_refusal.is) ∙ c.move_refusal.ensures)

pub returns : goal.returns
returns c =
    let a = c.args in
    let v = read_volume a.n a.b a.view.now in
    rename-moved v a.parent a.name.now a.second a.second_name.now _ _ c.text_refusal.ensures c.text_refusal-2.ensures _ c.lower_of.ensures.number
    (not-refused _ c.in_default.not-Err) _ _ c.seek-sought.ensures c.directory_refusal.ensures _ c.lower_of-2.ensures.number c.lower_of-2.ensures.value _ c.in-Ok.is
    c.displaced_by-displaced.result c.displaced_by-displaced.ensures.0 (sym (not-refused _ c.in_default-move_refusal.not-Err) ∙ c.move_refusal.ensures)
