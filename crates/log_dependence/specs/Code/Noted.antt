-- What noting dependence leaves of one slot and of the set of the objects reached.
use Rattle.std.specs.Prelude.{ℕ, ◌≡◌, List, cond, set}
use Rattle.log_rules.specs.Programs.{with}
use Rattle.log_rules.specs.Slot.{Slot, with_dependents}
use Rattle.log_rules.specs.Stored.{encode_slots}
use Rattle.log_rules.specs.Code.Slots.{slots_in, slot_at}
use Rattle.log_rules.specs.Code.Flags.{Holds}
use Rattle.log_dependence.specs.Code.Reached.{is_reached, reached_by}

-- the slot afterwards
abbrev pub noted_slot : ℕ → List ℕ → Slot → Slot
noted_slot p ops t = cond (is_reached ops t) (with_dependents (with t.dependents p) t) t

-- the bytes of all slots, and the set, afterwards
pub record NotedAt (p i : ℕ) (before after set₀ set₁ : List ℕ) : Type 0 where
  pub slot : (ops : List ℕ) → Holds set₀ ops → after ≡ encode_slots (set (slots_in before) i (noted_slot p ops (slot_at (slots_in before) i)))
  pub objects : (ops : List ℕ) → Holds set₀ ops → Holds set₁ (reached_by ops (slot_at (slots_in before) i))
