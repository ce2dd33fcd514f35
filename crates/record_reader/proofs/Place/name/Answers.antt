-- `record_reader::Place::name` meets its contract: the length, the stretch behind it and the test of its text are those of `name_at`.
-- Assumes nothing.
use mathlib.Core.Path.{sym, ◌∙◌}
use Rattle.names.proofs.Laws.Name.{fine-valid, error-invalid}
use Rattle.record_reader.specs.Code.Reader.{name_at}
use Rattle.record_reader.proofs.Place.name.Goals as goal

pub returns-in_default : goal.returns-in_default
unfolding name_at
returns-in_default c = rw (← c.stands.ensures, c.if-stands.true, ← c.one.ensures, c.in_default.is)

pub returns-in_default-part : goal.returns-in_default-part
unfolding name_at
returns-in_default-part c =
    rw (← c.stands.ensures, c.if-stands.true, ← c.one.ensures, c.in-Some.is, ← c.part.ensures, c.in_default-part.is)

pub returns-in-Ok : goal.returns-in-Ok
unfolding name_at
returns-in-Ok c =
    let g = rw c.stretch_of.ensures at c.name_text.ensures in
    rw (← c.stands.ensures, c.if-stands.true, ← c.one.ensures, c.in-Some.is, ← c.part.ensures, c.in-Some-part.is, fine-valid _ (sym g ∙ c.in-Ok.is))

pub returns-in-Err : goal.returns-in-Err
unfolding name_at
returns-in-Err c =
    let g = rw c.stretch_of.ensures at c.name_text.ensures in
    rw (← c.stands.ensures, c.if-stands.true, ← c.one.ensures, c.in-Some.is, ← c.part.ensures, c.in-Some-part.is, error-invalid _ _ (sym g ∙ c.in-Err.is))

pub returns : goal.returns
unfolding name_at
returns c = rw (← c.stands.ensures, c.if-stands.false)
