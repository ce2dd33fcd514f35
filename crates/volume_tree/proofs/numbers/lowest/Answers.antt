-- `volume_tree::numbers::lowest` meets its contract. The loop's invariant: each number passed fails the test.
-- Assumes nothing.
use Rattle.std.proofs.Common.{true, false, sym, arith}
use borrow.Author.Count.{below_none, below_more}
use Rattle.volume_tree.specs.Laws.Form.{some-lowest, none-lowest}
use Rattle.volume_tree.proofs.numbers.lowest.Goals as goal

pub loop-i-init : goal.loop-i-init
loop-i-init g c = below_none _

pub returns-then-test : goal.returns-then-test
returns-then-test g c = λ f h.
    let i = c.loop-i.i in
    sym (some-lowest c.args.n f i (omega arith) (sym (h i true (omega arith) (rw c.if-test.true at c.test.ensures)))
    (λ j k. sym (h j false (omega arith) (c.loop-i.invariant j k))))

pub loop-i-preserved : goal.loop-i-preserved
loop-i-preserved g c = below_more _ c.loop-i.i c.loop-i.invariant (rw c.if-test.false at c.test.ensures)

pub returns : goal.returns
returns g c = λ f h. sym (none-lowest c.args.n f (λ j k. sym (h j false k (c.loop-i.invariant j (omega arith)))))
