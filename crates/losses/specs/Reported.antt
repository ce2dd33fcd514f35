-- What the program writes, where it is known which bytes the input gives and which bytes the output holds.
use Rattle.std.specs.Prelude.{ℕ, ◌^◌, ◌<◌, List, length, ⊤, Option, None, Some}
use Rattle.std.specs.Io.KnownBytes.{Appends}
use Rattle.losses_report.specs.Report.{Report}

-- the input, what the output held before, and what it holds after: it grew by the report of the whole input, if a usize holds the input's length
abbrev pub Reported : Option (List ℕ) → Option (List ℕ) → Option (List ℕ) → Type 0
Reported None before after = ⊤
Reported (Some s) before after = length s < 2 ^ 64 → (out : List ℕ) × Report 0 s out × Appends before after out
