-- `record_reader::Place::one` meets its contract: no byte is left, or the byte at the place is the number.
-- Assumes nothing.
use native.Mathlib.Omega.{arith}
use mathlib.Core.Path.{sym, ◌∙◌}
use Rattle.buffer.specs.Laws.Numeral.{numeral-one}
use Rattle.record_reader.specs.Laws.Reader.{number_short, number-there}
use Rattle.record_reader.proofs.Place.one.Goals as goal

pub returns-then-s-at : goal.returns-then-s-at
returns-then-s-at c = sym (number_short 1 _ _ (omega arith))

pub returns : goal.returns
returns c =
    let a = c.args in
    let h = c.if-s-at.false in
    sym (number-there 1 a.s.now a.self.at c.byte_at.result (omega arith) (numeral-one _ _ h ∙ sym c.byte_at.ensures.0))
