-- `volume_tree::numbers::every` meets its contract. The loop's invariant: each number passed passes the test.
-- Assumes nothing.
use Rattle.std.proofs.Common.{true, false, sym, arith}
use borrow.Author.Count.{below_none, below_more}
use Rattle.volume_tree.specs.Laws.Form.{every-intro, every-not}
use Rattle.volume_tree.proofs.numbers.every.Goals as goal

pub loop-i-init : goal.loop-i-init
loop-i-init g c = below_none _

pub returns-then-not-test : goal.returns-then-not-test
returns-then-not-test g c = λ f h.
    sym (every-not c.args.n f c.loop-i.i (omega arith) (sym (h c.loop-i.i false (omega arith) (rw c.if-not-test.true at c.test.ensures))))

pub loop-i-preserved : goal.loop-i-preserved
loop-i-preserved g c = below_more _ c.loop-i.i c.loop-i.invariant (rw c.if-not-test.false at c.test.ensures)

pub returns : goal.returns
returns g c = λ f h. sym (every-intro c.args.n f (λ j k. sym (h j true k (c.loop-i.invariant j (omega arith)))))
