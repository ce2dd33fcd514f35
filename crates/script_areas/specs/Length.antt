-- The script format: lengths "reckoned without overflow (where one exceeds 32,768: `bad line`)".
use Rattle.std.specs.Prelude.{◌≡◌, ℕ, ◌<◌, ◌≤◌, Option, None, Some}
use Rattle.script_areas.specs.declared.length.Lengths.{Lengths}

-- a length is exact, or none where it is over an area's length
abbrev pub Reckoned : ℕ → Option ℕ → Type 0
Reckoned exact (Some r) = r ≡ exact
Reckoned exact None = 32768 < exact

-- lengths of which none exceeds an area
abbrev pub Within : Lengths → Type 0
Within l = (l.server ≤ 32768) × (l.view ≤ 32768) × (l.log ≤ 32768)
