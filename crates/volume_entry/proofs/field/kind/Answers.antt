-- `volume_entry::field::kind` meets its contract: a byte below 2 is the kind's number, and any other is read as 2. Assumes nothing.
use mathlib.Core.Path.{sym, ◌∙◌}
use native.Mathlib.Omega.{arith}
use Rattle.volume_entry.specs.Laws.Field.{kind-below, kind-above}
use Rattle.volume_entry.proofs.field.kind.Goals as goal

pub returns-then-code-lt-DIRECTORY : goal.returns-then-code-lt-DIRECTORY
returns-then-code-lt-DIRECTORY c =
    let b = c.byte_at-code.ensures.0 in
    b ∙ sym (kind-below c.args.e.now (omega arith))

pub returns : goal.returns
returns c = sym (kind-above c.args.e.now (omega arith))
