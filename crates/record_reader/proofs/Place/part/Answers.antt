-- `record_reader::Place::part` meets its contract: each return is one case of `part_at`.
-- Assumes nothing.
use mathlib.Core.Path.{sym}
use Rattle.record_reader.specs.Laws.Reader.{part-past, part-short, part-there}
use Rattle.record_reader.proofs.Place.part.Goals as goal

pub returns-then-s-at : goal.returns-then-s-at
returns-then-s-at c = sym (part-past _ _ _ c.if-s-at.true)

pub returns-then-s-at-2 : goal.returns-then-s-at-2
returns-then-s-at-2 c = sym (part-short _ _ _ c.if-s-at.false c.if-s-at-2.true)

pub returns : goal.returns
returns c = sym (part-there _ _ _ c.if-s-at.false c.if-s-at-2.false)
