-- `session_make::make_refusal` meets its contract: the text's rows, then the directory's, then what is taken. Assumes nothing.
use Rattle.returned.specs.Refusal.{number_of}
use Rattle.returned.specs.Laws.Refusal.{refused-number, refused-some, not-refused}
use Prim.Native.Nat.{◌<◌}
use lib.ListN.{length}
use mathlib.Core.Path.{refl, sym, ◌∙◌}
use Rattle.volume_entry.specs.Entry.{is_used}
use Rattle.volume_tree.specs.Volume.{search as search_in}
use Rattle.volume_tree.specs.Stored.{read_volume}
use Rattle.volume_tree.specs.Laws.Lent.{length-read}
use Rattle.volume_tree.specs.Laws.Answer.{settled, of_entry, found_at, found_nothing}
use Rattle.session_change.specs.Laws.Change.{stops_first, goes_on}
use Rattle.session_names.specs.Code.Rows.{text_rows}
use Rattle.session_make.specs.Laws.Row.{new_rows, object-past, object-root, new-refused, object-taken, name-taken, none-taken}
use Rattle.session_make.proofs.make_refusal.Goals as goal

pub returns-in-Err : goal.returns-in-Err
returns-in-Err c =
    let a = c.args in
    sym (refused-number c.in-Err.is)
    ∙ stops_first (text_rows a.name.now) (new_rows (read_volume a.n a.b a.view.now) a.parent a.name.now a.object) _
    c.text_refusal.ensures (refused-some c.in-Err.is)

pub returns-then-n-object : goal.returns-then-n-object
returns-then-n-object c =
    let a = c.args in
    let v = read_volume a.n a.b a.view.now in
    goes_on 0 (text_rows a.name.now) (new_rows v a.parent a.name.now a.object) refl _ 7 c.text_refusal.ensures
    (not-refused _ c.in_default.not-Err) (object-past v a.parent a.name.now a.object (rw (length-read a.n a.b a.view.now) c.if-n-object.true))

pub returns-then-object-eq0 : goal.returns-then-object-eq0
returns-then-object-eq0 c =
    let a = c.args in
    let v = read_volume a.n a.b a.view.now in
    goes_on 0 (text_rows a.name.now) (new_rows v a.parent a.name.now a.object) refl _ 7 c.text_refusal.ensures
    (not-refused _ c.in_default.not-Err) (object-root v a.parent a.name.now a.object c.if-object-eq0.true)

pub returns-in-Err-directory_refusal : goal.returns-in-Err-directory_refusal
returns-in-Err-directory_refusal c =
    let a = c.args in
    let v = read_volume a.n a.b a.view.now in
    let low : a.object < length v = rw (length-read a.n a.b a.view.now) c.if-n-object.false in
    sym (refused-number c.in-Err-directory_refusal.is)
    ∙ goes_on 0 (text_rows a.name.now) (new_rows v a.parent a.name.now a.object) refl _ _ c.text_refusal.ensures
    (not-refused _ c.in_default.not-Err)
    (new-refused v a.parent a.name.now a.object low c.if-object-eq0.false (number_of c.directory_refusal.result) c.directory_refusal.ensures
    (refused-some c.in-Err-directory_refusal.is))

pub returns-then-is_used : goal.returns-then-is_used
returns-then-is_used c =
    let a = c.args in
    let v = read_volume a.n a.b a.view.now in
    let low : a.object < length v = rw (length-read a.n a.b a.view.now) c.if-n-object.false in
    goes_on 0 (text_rows a.name.now) (new_rows v a.parent a.name.now a.object) refl _ 10 c.text_refusal.ensures
    (not-refused _ c.in_default.not-Err)
    (object-taken v a.parent a.name.now a.object low c.if-object-eq0.false (number_of c.directory_refusal.result) c.directory_refusal.ensures
    (not-refused _ c.in_default-directory_refusal.not-Err) (settled (of_entry is_used c.entry.ensures c.is_used.ensures) c.if-is_used.true))

pub returns-in-Some : goal.returns-in-Some
returns-in-Some c =
    let a = c.args in
    let v = read_volume a.n a.b a.view.now in
    let low : a.object < length v = rw (length-read a.n a.b a.view.now) c.if-n-object.false in
    goes_on 0 (text_rows a.name.now) (new_rows v a.parent a.name.now a.object) refl _ 10 c.text_refusal.ensures
    (not-refused _ c.in_default.not-Err)
    (name-taken v a.parent a.name.now a.object low c.if-object-eq0.false (number_of c.directory_refusal.result) c.directory_refusal.ensures
    (not-refused _ c.in_default-directory_refusal.not-Err) _
    (found_at (search_in v a.parent a.name.now) _ (sym c.in-Some.is ∙ c.search.ensures)))

pub returns-in-None : goal.returns-in-None
returns-in-None c =
    let a = c.args in
    let v = read_volume a.n a.b a.view.now in
    let low : a.object < length v = rw (length-read a.n a.b a.view.now) c.if-n-object.false in
    goes_on 0 (text_rows a.name.now) (new_rows v a.parent a.name.now a.object) refl _ 0 c.text_refusal.ensures
    (not-refused _ c.in_default.not-Err)
    (none-taken v a.parent a.name.now a.object low c.if-object-eq0.false (number_of c.directory_refusal.result) c.directory_refusal.ensures
    (not-refused _ c.in_default-directory_refusal.not-Err) (settled (of_entry is_used c.entry.ensures c.is_used.ensures) c.if-is_used.false)
    (found_nothing (search_in v a.parent a.name.now) (sym c.in-None.is ∙ c.search.ensures)))
