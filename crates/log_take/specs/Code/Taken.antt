-- What a take leaves: the record in the caller's buffer, and the log without its slot.
use Rattle.std.specs.Prelude.{ℕ, ◌+◌, ◌≡◌, List, ◌++◌, length, take, drop}
use Rattle.buffer.specs.Patch.{patch}
use Rattle.record.specs.Operation.{Record}
use Rattle.record.specs.Fields.{encode}
use Rattle.log_rules.specs.Slot.{Log, with_slots}

-- a record's bytes at the start of a buffer, its other bytes as before, and how many they are
pub record Written (r : Record) (before after : List ℕ) (len : ℕ) : Type 0 where
  pub placed : after ≡ patch before 0 (encode r)
  pub long : len ≡ length (encode r)

-- a log without the slot at a position: later slots move down by one
abbrev pub freed_at : ℕ → Log → Log
freed_at i l = with_slots (take i l.slots ++ drop (i + 1) l.slots) l
