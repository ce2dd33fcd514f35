-- `volume_entry::field::has_name` meets its contract, by the kind's number. Assumes nothing.
use Prim.Native.Nat.{ℕ}
use mathlib.Core.Path.{ap, ◌∙◌}
use mathlib.Core.Bool.{not}
use lib.Dec.{eqb}
use Rattle.volume_entry.specs.Stored.{read_entry}
use Rattle.volume_entry.specs.Laws.Field.{named-kind}
use Rattle.volume_entry.proofs.field.has_name.Goals as goal

pub returns : goal.returns
returns c = ap (λ (k : ℕ). not (eqb k 0)) c.kind.ensures ∙ named-kind (read_entry c.args.e.now)
