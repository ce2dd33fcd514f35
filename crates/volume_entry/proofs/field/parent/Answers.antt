-- `volume_entry::field::parent` meets its contract: the number that stands there where the entry has a name, and 0 where it has none.
-- Assumes nothing.
use mathlib.Core.Path.{sym, ◌∙◌}
use native.Mathlib.Omega.{arith}
use Rattle.volume_entry.specs.Stored.{read_entry}
use Rattle.volume_entry.specs.Laws.Field.{named-fields, unnamed-fields}
use Rattle.volume_entry.proofs.field.parent.Goals as goal

pub returns-then-has_name : goal.returns-then-has_name
returns-then-has_name c =
    let u = named-fields c.args.e.now (sym c.has_name.ensures ∙ c.if-has_name.true) in
    (c.two_at.ensures.0 ∙ sym u.1, c.two_at.ensures.1)

pub returns : goal.returns
returns c =
    let e = read_entry c.args.e.now in
    (sym (unnamed-fields e (sym c.has_name.ensures ∙ c.if-has_name.false)).1, omega arith)
