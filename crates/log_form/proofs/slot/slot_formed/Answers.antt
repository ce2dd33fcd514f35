-- `log_form::slot::slot_formed` meets its contract: the front, and then the record's part. Assumes nothing.
use Rattle.std.specs.Prelude.{None}
use Prim.Native.Nat.{ℕ}
use mathlib.Core.Bool.{true, false}
use mathlib.Core.List.{List}
use mathlib.Core.Path.{◌≡◌, ◌∙◌}
use lib.Dec.{eqb}
use lib.ListN.{get_or}
use Rattle.record_reader.specs.Code.Reader.{record_at}
use Rattle.volume_tree.specs.Laws.Answer.{settled}
use Rattle.log_rules.specs.Stored.{record_part}
use Rattle.log_form.specs.Code.Checks.{front_formed, form_by, slot_form}
use Rattle.log_form.proofs.slot.slot_formed.Goals as goal

module _ (n b : ℕ) (e : List ℕ) where
  no_front : front_formed e ≡ false → None ≡ slot_form n b e
  unfolding slot_form
  no_front f = rw f

  fronted : front_formed e ≡ true → (k : ℕ) → k ≡ get_or e 0 0 → form_by n b (eqb k 1) (record_part e) (record_at (record_part e) 0) ≡ slot_form n b e
  unfolding slot_form
  fronted f k p = rw (f, p)

pub returns-then-front_formed : goal.returns-then-front_formed
returns-then-front_formed c =
    let a = c.args in
    c.record_formed.ensures ∙ fronted a.n a.b a.e.now (settled c.front_formed.ensures c.if-front_formed.true) c.byte_at-waits.result c.byte_at-waits.ensures.0

pub returns : goal.returns
returns c =
    let a = c.args in
    no_front a.n a.b a.e.now (settled c.front_formed.ensures c.if-front_formed.false)
