-- `record_reader::Place::list` meets its contract: the count, the stretch behind it and the test on it are those of `list_at`.
-- Assumes nothing.
use native.Mathlib.Omega.{arith}
use mathlib.Core.Path.{sym, ◌∙◌}
use Rattle.record_reader.specs.Code.Reader.{list_at}
use Rattle.record_reader.specs.Laws.Reader.{number-below}
use Rattle.record_reader.proofs.Place.list.Goals as goal

pub returns-in_default : goal.returns-in_default
unfolding list_at
returns-in_default c = rw (← c.stands.ensures, c.if-stands.true, ← c.one.ensures, c.in_default.is)

-- a byte twice fits
pub overflow_add-count : goal.overflow_add-count
overflow_add-count c =
    omega (arith, number-below 1 _ _ _ _ (λ i. omega (arith, c.type_inv.s i)) (sym c.one.ensures ∙ c.in-Some.is))

pub returns-in_default-part : goal.returns-in_default-part
unfolding list_at
returns-in_default-part c =
    rw (← c.stands.ensures, c.if-stands.true, ← c.one.ensures, c.in-Some.is, ← c.part.ensures, c.in_default-part.is)

pub returns-then-good_list : goal.returns-then-good_list
unfolding list_at
returns-then-good_list c =
    let g = rw c.stretch_of.ensures at c.good_list.ensures in
    rw (← c.stands.ensures, c.if-stands.true, ← c.one.ensures, c.in-Some.is, ← c.part.ensures, c.in-Some-part.is, sym g ∙ c.if-good_list.true)

pub returns-then-stands : goal.returns-then-stands
unfolding list_at
returns-then-stands c =
    let g = rw c.stretch_of.ensures at c.good_list.ensures in
    rw (← c.stands.ensures, c.if-stands.true, ← c.one.ensures, c.in-Some.is, ← c.part.ensures, c.in-Some-part.is, sym g ∙ c.if-good_list.false)

pub returns : goal.returns
unfolding list_at
returns c = rw (← c.stands.ensures, c.if-stands.false)
