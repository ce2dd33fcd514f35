-- `session_forder::is_free` meets its contract: past the end of the volume nothing is used. Assumes nothing.
use Prim.Native.Nat.{◌≤◌}
use mathlib.Core.Path.{sym, ◌∙◌}
use lib.ListN.{length}
use borrow.Author.Tests.{le-leb}
use Rattle.volume_tree.specs.Stored.{read_volume}
use Rattle.volume_tree.specs.Laws.Lent.{length-read}
use Rattle.session_forder.specs.Laws.List.{past-free}
use Rattle.session_forder.proofs.is_free.Goals as goal

pub returns-then-n-object : goal.returns-then-n-object
returns-then-n-object c =
    let a = c.args in
    let v = read_volume a.n a.b a.view.now in
    let h : length v ≤ a.object = rw (length-read a.n a.b a.view.now) c.if-n-object.true in
    le-leb a.n a.object c.if-n-object.true ∙ sym (past-free v a.object h)
