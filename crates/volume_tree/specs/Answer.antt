-- What the code answers, as the definitions have it.
use Rattle.std.specs.Prelude.{ℕ}
use Rattle.std.specs.Prelude.{Option, None, Some}
use Rattle.returned.specs.Returned

-- the returned number of a name that is to be found
abbrev pub found_number : Option ℕ → ℕ
found_number (Some i) = Returned.accepted
found_number None = Returned.no_object
