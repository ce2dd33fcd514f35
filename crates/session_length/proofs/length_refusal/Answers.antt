-- `session_length::length_refusal` meets its contract: where the object is a file the length decides. Assumes nothing.
use Prim.Native.Nat.{◌*◌}
use mathlib.Core.List.{[], ◌∷◌}
use lib.Dec.{ltb}
use Rattle.session.specs.Refusal.{row}
use Rattle.returned.specs.Laws.Refusal.{refused-number, refused-some, not-refused}
use mathlib.Core.Path.{sym, ◌∙◌}
use borrow.Author.Tests.{lt-ltb, le-ltb}
use Rattle.volume_tree.specs.Stored.{read_volume}
use Rattle.session_change.specs.Laws.File.{file-refused, range-refused, range-passed}
use Rattle.session_length.proofs.length_refusal.Goals as goal

pub returns-in-Err : goal.returns-in-Err
returns-in-Err c =
    let a = c.args in
    sym (refused-number c.in-Err.is)
    ∙ file-refused (read_volume a.n a.b a.view.now) a.object (row 12 (ltb (1024 * a.b) a.length) ∷ []) _ c.file_refusal.ensures (refused-some c.in-Err.is)

pub returns-then-b-length : goal.returns-then-b-length
returns-then-b-length c =
    let a = c.args in
    range-refused (read_volume a.n a.b a.view.now) a.object (ltb (1024 * a.b) a.length) (sym (not-refused _ c.in_default.not-Err) ∙ c.file_refusal.ensures) (lt-ltb (1024 * a.b) a.length c.if-b-length.true)

pub returns : goal.returns
returns c =
    let a = c.args in
    range-passed (read_volume a.n a.b a.view.now) a.object (ltb (1024 * a.b) a.length) (sym (not-refused _ c.in_default.not-Err) ∙ c.file_refusal.ensures) (le-ltb (1024 * a.b) a.length c.if-b-length.false)
