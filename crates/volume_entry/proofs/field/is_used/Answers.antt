-- `volume_entry::field::is_used` meets its contract, by the kind's number. Assumes nothing.
use Prim.Native.Nat.{ℕ}
use mathlib.Core.Path.{ap, ◌∙◌}
use mathlib.Core.Bool.{not}
use lib.Dec.{eqb}
use Rattle.volume_entry.specs.Stored.{read_entry}
use Rattle.volume_entry.specs.Laws.Field.{used-kind}
use Rattle.volume_entry.proofs.field.is_used.Goals as goal

pub returns : goal.returns
returns c = ap (λ (k : ℕ). not (eqb k 0)) c.kind.ensures ∙ used-kind (read_entry c.args.e.now)
