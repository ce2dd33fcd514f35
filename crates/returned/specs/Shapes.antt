-- The shapes in which an entry hands over its returned number and its other results, by their fields.
use Rattle.std.specs.Prelude.{ℕ}
use Rattle.returned.specs.declared.Code.{Code}
use Rattle.returned.specs.declared.Value.{Value}
use Rattle.returned.specs.declared.Status.{Status}

abbrev pub code : ℕ → Code
code n = record { returned = n }

abbrev pub value : ℕ → ℕ → Value
value n x = record { returned = n; value = x }

abbrev pub status : ℕ → ℕ → ℕ → ℕ → Status
status n k l u = record { returned = n; kind = k; length = l; usage = u }
