-- `losses_line::put_with_end` meets its contract: the byte that ends the number is stored behind its digits.
-- Assumes nothing.
use native.Mathlib.Omega.{arith}
use Rattle.buffer.specs.Laws.Patch.{put-set, put_then}
use Rattle.losses_line.specs.Line.{with_end}
use Rattle.losses_line.specs.Laws.Line.{length-with_end}
use Rattle.losses_line.proofs.put_with_end.Goals as goal

pub put_decimal-next-requires : goal.put_decimal-next-requires
put_decimal-next-requires c = omega (arith, length-with_end c.args.v c.args.end)

pub bounds-out-next : goal.bounds-out-next
bounds-out-next c =
    let a = c.args in
    let p = c.put_decimal-next in
    omega (arith, p.ensures.ends, p.auto.out, length-with_end a.v a.end)

pub overflow_add-result : goal.overflow_add-result
overflow_add-result c =
    let a = c.args in
    omega (arith, c.put_decimal-next.ensures.ends, length-with_end a.v a.end)

pub returns : goal.returns
unfolding with_end
returns c =
    let a = c.args in
    let p = c.put_decimal-next in
    put_then p.ensures (put-set p.new.out p.result a.end (omega (arith, p.ensures.ends, p.auto.out, length-with_end a.v a.end)))
