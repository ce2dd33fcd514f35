-- `record_reader::Place::four` meets its contract: too few bytes are left, or those at the place store the number.
-- Assumes nothing.
use native.Mathlib.Omega.{arith}
use mathlib.Core.Path.{sym}
use Rattle.record_reader.specs.Laws.Reader.{number_short, number-there}
use Rattle.record_reader.proofs.Place.four.Goals as goal

pub returns-then-s-at : goal.returns-then-s-at
returns-then-s-at c = sym (number_short 4 _ _ (omega arith))

pub returns-then-s-at-lt4 : goal.returns-then-s-at-lt4
returns-then-s-at-lt4 c = sym (number_short 4 _ _ c.if-s-at-lt4.true)

pub returns : goal.returns
returns c = sym (number-there 4 _ _ c.four_at.result c.if-s-at-lt4.false (sym c.four_at.ensures.0))
