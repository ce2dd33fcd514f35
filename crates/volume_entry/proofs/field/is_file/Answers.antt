-- `volume_entry::field::is_file` meets its contract, by the kind's number. Assumes nothing.
use Prim.Native.Nat.{ℕ}
use mathlib.Core.Path.{ap, ◌∙◌}
use lib.Dec.{eqb}
use Rattle.volume_entry.specs.Stored.{read_entry}
use Rattle.volume_entry.specs.Laws.Field.{file-kind}
use Rattle.volume_entry.proofs.field.is_file.Goals as goal

pub returns : goal.returns
returns c = ap (λ (k : ℕ). eqb k 1) c.kind.ensures ∙ file-kind (read_entry c.args.e.now)
