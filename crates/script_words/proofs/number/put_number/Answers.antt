-- `script_words::number::put_number` meets its contract: a number of 64 bits has at most 20 digits.
-- Assumes nothing.
use native.Mathlib.Omega.{arith}
use Rattle.text.specs.Laws.Decimal.{length-below}
use Rattle.script_words.proofs.number.put_number.Goals as goal

pub put_decimal-requires : goal.put_decimal-requires
put_decimal-requires c = omega (arith, length-below 19 c.args.v (omega arith))

pub returns : goal.returns
returns c =
    let a = c.args in
    let p = c.put_decimal in
    (omega (arith, p.ensures.ends, length-below 19 a.v (omega arith)), p.ensures)
