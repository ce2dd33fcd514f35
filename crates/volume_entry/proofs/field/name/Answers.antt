-- `volume_entry::field::name` meets its contract: the stretch behind the parent where the entry has a name, and nothing where it has none.
-- Assumes nothing.
use Prim.Native.Nat.{ℕ}
use mathlib.Core.Path.{sym, ap, ◌∙◌}
use lib.ListN.{take, drop}
use Rattle.volume_entry.specs.Stored.{read_entry}
use Rattle.volume_entry.specs.Laws.Field.{named-fields, unnamed-fields}
use Rattle.volume_entry.proofs.field.name.Goals as goal

pub returns-then-has_name : goal.returns-then-has_name
returns-then-has_name c =
    let s = c.args.e.now in
    c.stretch_of.ensures
    ∙ ap (λ (k : ℕ). take k (drop 4 s)) c.byte_at.ensures.0
    ∙ sym (named-fields s (sym c.has_name.ensures ∙ c.if-has_name.true)).0

pub returns : goal.returns
returns c =
    sym (unnamed-fields (read_entry c.args.e.now) (sym c.has_name.ensures ∙ c.if-has_name.false)).0
