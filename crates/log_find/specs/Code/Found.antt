-- What the position says that a search of the slots answers.
use Rattle.std.specs.Prelude.{ℕ, ◌<◌, ◌≡◌, List, Bool, true, false, length, Option, None, Some}
use Rattle.log_rules.specs.Slot.{Slot}
use Rattle.log_rules.specs.Code.Slots.{slot_at}

-- no slot before a position passes a test
abbrev pub NoneBefore : (Slot → Bool) → List Slot → ℕ → Type 0
NoneBefore f l i = (j : ℕ) → j < i → f (slot_at l j) ≡ false

-- the first slot that passes a test, or none where no slot passes it
abbrev pub FoundBy : (Slot → Bool) → List Slot → Option ℕ → Type 0
FoundBy f l (Some i) = (i < length l) × (f (slot_at l i) ≡ true) × NoneBefore f l i
FoundBy f l None = NoneBefore f l (length l)
