-- `session_forder::forder_refusal` meets its contract: the shared tests of a list decide what is bad. Assumes nothing.
use Prim.Native.Nat.{◌≤◌}
use mathlib.Core.Path.{◌≡◌, sym, ◌∙◌}
use lib.ListN.{length}
use Rattle.record.specs.Fields.{all_below, objects_of}
use Rattle.volume_tree.specs.Stored.{read_volume}
use Rattle.volume_tree.specs.Laws.Lent.{length-read}
use Rattle.session_forder.specs.Laws.List.{odd-bad, high-bad, invalid-bad, fine-list, list-refused, list-free, list-passed}
use Rattle.session_forder.proofs.forder_refusal.Goals.{then-list-ne0-via-then-list-ne0, then-list-ne0-via-else-list-ne0+then-not-good_list, then-list-ne0-via-else-list-ne0+else-not-good_list+then-not-list_below}
use Rattle.session_forder.proofs.forder_refusal.Goals as goal

pub returns-then-list-ne0 : goal.returns-then-list-ne0
returns-then-list-ne0 c =
    let a = c.args in
    let v = read_volume a.n a.b a.view.now in
    let few : length v ≤ 256 = rw (length-read a.n a.b a.view.now) c.requires.most in
    list-refused v a.list.now
    (elim c.then-list-ne0.branch [
      | then-list-ne0-via-then-list-ne0 w ↦ odd-bad v a.list.now w.if-list-ne0.true
      | then-list-ne0-via-else-list-ne0+then-not-good_list w ↦ invalid-bad v a.list.now few (sym w.good_list.ensures ∙ w.if-not-good_list.true)
      | then-list-ne0-via-else-list-ne0+else-not-good_list+then-not-list_below w ↦
          high-bad v a.list.now (rw (length-read a.n a.b a.view.now) (sym w.list_below.ensures ∙ w.if-not-list_below.true))
    ])

pub returns-then-any_free : goal.returns-then-any_free
returns-then-any_free c =
    let a = c.args in
    let v = read_volume a.n a.b a.view.now in
    -- the test of each object against n, in the volume's own terms
    let below : all_below (length v) (objects_of a.list.now) ≡ c.list_below.result = rw (length-read a.n a.b a.view.now) (sym c.list_below.ensures) in
    list-free v a.list.now (fine-list v a.list.now c.if-list-ne0.false (sym c.good_list.ensures ∙ c.if-not-good_list.false) (below ∙ c.if-not-list_below.false))
    (sym c.any_free.ensures ∙ c.if-any_free.true)

pub returns : goal.returns
returns c =
    let a = c.args in
    let v = read_volume a.n a.b a.view.now in
    let below : all_below (length v) (objects_of a.list.now) ≡ c.list_below.result = rw (length-read a.n a.b a.view.now) (sym c.list_below.ensures) in
    list-passed v a.list.now (fine-list v a.list.now c.if-list-ne0.false (sym c.good_list.ensures ∙ c.if-not-good_list.false) (below ∙ c.if-not-list_below.false))
    (sym c.any_free.ensures ∙ c.if-any_free.false)
