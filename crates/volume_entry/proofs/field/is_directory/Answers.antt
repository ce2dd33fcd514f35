-- `volume_entry::field::is_directory` meets its contract, by the kind's number. Assumes nothing.
use Prim.Native.Nat.{ℕ}
use mathlib.Core.Path.{ap, ◌∙◌}
use lib.Dec.{eqb}
use Rattle.volume_entry.specs.Stored.{read_entry}
use Rattle.volume_entry.specs.Laws.Field.{directory-kind}
use Rattle.volume_entry.proofs.field.is_directory.Goals as goal

pub returns : goal.returns
returns c = ap (λ (k : ℕ). eqb k 2) c.kind.ensures ∙ directory-kind (read_entry c.args.e.now)
