-- What the code is given as a log, or as the used slots of one, and the parts of them that it lends on.
use Rattle.std.specs.Prelude.{ℕ, ◌*◌, ◌/◌, ◌≤◌, ◌≡◌, List, [], true, length, get_or, take, drop}
use Rattle.record.specs.Operation.{forder, record_of}
use Rattle.log_rules.specs.Slot.{lost, Slot, good_slots, well_formed_log}
use Rattle.log_rules.specs.Stored.{head_bytes, slot_bytes, log_bytes, encode_slots, encode_log, read_slots, read_log}

-- the slots that the bytes of so many used slots tell of
abbrev pub slots_in : List ℕ → List Slot
slots_in s = read_slots (length s / slot_bytes) s

-- the bytes of the slot at a position
abbrev pub slot_part : List ℕ → ℕ → List ℕ
slot_part s i = take slot_bytes (drop (i * slot_bytes) s)

-- the slot at a position; past the last one a slot that stands for none
abbrev pub no_slot : Slot
no_slot = record { state = lost; dependents = 0; recorded = record_of 0 0 (forder []) }

abbrev pub slot_at : List Slot → ℕ → Slot
slot_at l i = get_or l i no_slot

-- bytes that are those of used slots, of any geometry: "n objects (2..256), b blocks a file (1..64) and m log slots (1..1,024)"
pub record Slotted (s : List ℕ) : Type 0 where
  pub most : length (slots_in s) ≤ 1024
  pub good : good_slots 256 64 (slots_in s) ≡ true
  pub stored : encode_slots (slots_in s) ≡ s

-- bytes that are those of a well-formed log of m slots, for n objects and b blocks a file
pub record Logged (n b m : ℕ) (s : List ℕ) : Type 0 where
  pub objects : n ≤ 256
  pub blocks : b ≤ 64
  pub most : m ≤ 1024
  pub whole : length s ≡ log_bytes m
  pub form : well_formed_log n b m (read_log m s) ≡ true
  pub stored : encode_log m (read_log m s) ≡ s

-- how many slots of a log are used
abbrev pub used_in : ℕ → List ℕ → ℕ
used_in m s = length (read_log m s).slots

-- the bytes of its used slots
abbrev pub used_part : ℕ → List ℕ → List ℕ
used_part m s = take (used_in m s * slot_bytes) (drop head_bytes s)
