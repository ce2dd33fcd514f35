-- An operation in the code is the slice that holds its record, with what the reader found there.
use Rattle.std.specs.Prelude.{ℕ, ◌<◌, ◌≡◌, List, true, set}
use Rattle.std.specs.Prelude.{Option, None, Some}
use Rattle.record_reader.specs.declared.Whole.{Whole}
use Rattle.record.specs.Operation.{Operation}
use Rattle.record.specs.Fields.{valid, fits}
use Rattle.record_reader.specs.Code.Found.{record_from}
use Rattle.volume_entry.specs.Entry.{free}
use Rattle.volume_tree.specs.Volume.{Volume}
use Rattle.volume_tree.specs.Form.{well_formed}

-- the operation of the record that was found in a slice
abbrev pub operation_in : List ℕ → Whole → Operation
operation_in s w = (record_from s w).operation

-- what was found is a valid record, and it fits n and b: "Records fit n and b."
pub record Fitting (n b : ℕ) (s : List ℕ) (w : Whole) : Type 0 where
  pub sound : valid (record_from s w) ≡ true
  pub fit : fits n b (record_from s w) ≡ true

-- an object that a rename displaces is another one, and the volume is well formed without it
abbrev pub Displaces : ℕ → ℕ → Volume → ℕ → Option ℕ → Type 0
Displaces n b v o None = Unit
Displaces n b v o (Some d) = (d < n) × (o ≡ d → ⊥) × (well_formed n b (set v d free) ≡ true)
