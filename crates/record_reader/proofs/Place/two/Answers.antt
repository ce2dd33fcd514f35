-- `record_reader::Place::two` meets its contract: too few bytes are left, or those at the place store the number.
-- Assumes nothing.
use native.Mathlib.Omega.{arith}
use mathlib.Core.Path.{sym}
use Rattle.record_reader.specs.Laws.Reader.{number_short, number-there}
use Rattle.record_reader.proofs.Place.two.Goals as goal

pub returns-then-s-at : goal.returns-then-s-at
returns-then-s-at c = sym (number_short 2 _ _ (omega arith))

pub returns-then-s-at-lt2 : goal.returns-then-s-at-lt2
returns-then-s-at-lt2 c = sym (number_short 2 _ _ c.if-s-at-lt2.true)

pub returns : goal.returns
returns c = sym (number-there 2 _ _ c.two_at.result c.if-s-at-lt2.false (sym c.two_at.ensures.0))
