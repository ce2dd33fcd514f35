-- `log_form::log_formed` meets its contract: the tests that are run decide the form.
-- Assumes nothing.
use Prim.Native.Nat.{ℕ, ◌*◌, ◌-◌, ◌≤◌, ◌<◌}
use mathlib.Core.Bool.{Bool, true, false}
use mathlib.Core.List.{List}
use mathlib.Core.Path.{◌≡◌, ap, ◌∙◌}
use native.Mathlib.Omega.{arith}
use lib.ListN.{length, take, drop, length-drop}
use borrow.Author.Tests.{le-leb, lt-leb}
use Rattle.buffer.specs.Numeral.{numeral, Bytes}
use Rattle.buffer.specs.Laws.Span.{take_rest}
use Rattle.log_rules.specs.Stored.{read_head, head_bytes, slot_bytes, lent_log, formed_log}
use Rattle.volume_tree.specs.Laws.Answer.{settled}
use Rattle.log_form.specs.Code.Checks.{slots_formed, log_formed}
use Rattle.log_form.specs.Laws.Checks.{checks-log}
use Rattle.log_form.specs.Laws.Form.{Lent, lent-inv}
use Rattle.log_form.proofs.log_formed.Goals as goal

module _ (n b m : ℕ) (s : List ℕ) where
  not-lent : lent_log n b m s ≡ false → false ≡ formed_log n b m s
  unfolding formed_log
  not-lent t = rw t

  slots-long : Lent n b m s → length (take (length s - head_bytes) (drop head_bytes s)) ≡ m * slot_bytes
  slots-long l = ap length (take_rest head_bytes s) ∙ length-drop head_bytes s ∙ omega (arith, l.whole)

  module _ (next : ℕ) (e : next ≡ numeral (take 4 s)) where
    numberless : next < 1 → false ≡ log_formed n b m s
    unfolding log_formed read_head
    numberless h = rw (← e, lt-leb 1 next h)

    numbered : 1 ≤ next → (r : Bool) → r ≡ slots_formed n b next m 0 false (take (length s - head_bytes) (drop head_bytes s)) → r ≡ log_formed n b m s
    unfolding log_formed read_head
    numbered h r q = rw (← e, le-leb 1 next h) (q ∙ ap (slots_formed n b next m 0 false) (take_rest head_bytes s))

  -- what is lent as it should be is formed exactly if it passes the tests
  tested : lent_log n b m s ≡ true → Bytes s → (r : Bool) → r ≡ log_formed n b m s → r ≡ formed_log n b m s
  unfolding formed_log
  tested t byte r q = rw t (q ∙ checks-log n b m s (lent-inv n b m s t).whole byte)

pub four_at-next-requires : goal.four_at-next-requires
four_at-next-requires c =
    let a = c.args in
    omega (arith, (lent-inv a.n a.b a.m a.s.now (settled c.is_lent.ensures c.if-is_lent.true)).whole)

pub slice_bounds-slots_formed-count : goal.slice_bounds-slots_formed-count
slice_bounds-slots_formed-count c =
    let a = c.args in
    omega (arith, (lent-inv a.n a.b a.m a.s.now (settled c.is_lent.ensures c.if-is_lent.true)).whole)

pub slice_bounds-slots_formed-start : goal.slice_bounds-slots_formed-start
slice_bounds-slots_formed-start c =
    let a = c.args in
    omega (arith, (lent-inv a.n a.b a.m a.s.now (settled c.is_lent.ensures c.if-is_lent.true)).whole)

pub slots_formed-requires : goal.slots_formed-requires
slots_formed-requires c =
    let a = c.args in
    let l = lent-inv a.n a.b a.m a.s.now (settled c.is_lent.ensures c.if-is_lent.true) in
    record { b_bound = l.blocks; s_len = slots-long a.n a.b a.m a.s.now l }

pub returns-then-next-ge1 : goal.returns-then-next-ge1
returns-then-next-ge1 c =
    let a = c.args in
    tested a.n a.b a.m a.s.now (settled c.is_lent.ensures c.if-is_lent.true) (λ i. (c.type_inv.s i).fits) c.slots_formed.result
    (numbered a.n a.b a.m a.s.now c.four_at-next.result c.four_at-next.ensures.0 c.if-next-ge1.true c.slots_formed.result c.slots_formed.ensures)

pub returns-else-next-ge1 : goal.returns-else-next-ge1
returns-else-next-ge1 c =
    let a = c.args in
    tested a.n a.b a.m a.s.now (settled c.is_lent.ensures c.if-is_lent.true) (λ i. (c.type_inv.s i).fits) false
    (numberless a.n a.b a.m a.s.now c.four_at-next.result c.four_at-next.ensures.0 c.if-next-ge1.false)

pub returns-else-is_lent : goal.returns-else-is_lent
returns-else-is_lent c =
    let a = c.args in
    not-lent a.n a.b a.m a.s.now (settled c.is_lent.ensures c.if-is_lent.false)
