-- The script format: "writes the bytes at AT of the area .. (where AT plus their count is over 32,768: `bad line`)".
use Rattle.std.specs.Prelude.{◌≡◌, ℕ, ◌+◌, ◌<◌, ◌≤◌, List, length, Option, None, Some}
use Rattle.buffer.specs.Patch.{patch}

-- the bytes stand at the place, or there is no room for them and the area is as before
abbrev pub Poked : List ℕ → ℕ → List ℕ → List ℕ → Option (Unit {0}) → Type 0
Poked area at s after (Some done) = (at + length s ≤ length area) × (after ≡ patch area at s)
Poked area at s after None = (length area < at + length s) × (after ≡ area)
