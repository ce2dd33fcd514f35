-- `text::decimal::put_decimal` meets its contract: the last digit goes behind the others.
-- Assumes nothing.
use Rattle.std.proofs.Common.{arith}
use Rattle.text.specs.Laws.Decimal.{length-small, length-large, small_put, large-put}
use Rattle.text.proofs.decimal.+put_decimal.Goals as goal

pub bounds-out-at : goal.bounds-out-at
bounds-out-at t c = omega (arith, length-small c.args.v c.if-v-lt10.true)

pub returns-then-v-lt10 : goal.returns-then-v-lt10
returns-then-v-lt10 t c =
    let a = c.args in
    rw c.digit.ensures (small_put a.out.now a.at a.v c.if-v-lt10.true (omega (arith, length-small a.v c.if-v-lt10.true)))

pub put_decimal-next-requires : goal.put_decimal-next-requires
put_decimal-next-requires t c = (omega arith, omega (arith, length-large c.args.v c.if-v-lt10.false))

pub bounds-out-next : goal.bounds-out-next
bounds-out-next t c =
    let p = c.put_decimal-next in
    omega (arith, p.ensures.ends, p.auto.out, length-large c.args.v c.if-v-lt10.false)

pub overflow_add-result-2 : goal.overflow_add-result-2
overflow_add-result-2 t c = omega (arith, c.put_decimal-next.ensures.ends, length-large c.args.v c.if-v-lt10.false)

pub returns : goal.returns
returns t c =
    let a = c.args in
    let p = c.put_decimal-next in
    let big = c.if-v-lt10.false in
    rw c.digit-2.ensures (large-put a.v big p.ensures (omega (arith, p.ensures.ends, p.auto.out, length-large a.v big)))
