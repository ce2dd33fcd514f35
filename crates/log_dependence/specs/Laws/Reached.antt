-- What is told of a slot decides whether it is reached. Assumes nothing.
use Rattle.std.specs.Prelude.{ℕ, ◌<◌, ◌≡◌, List, ◌++◌, Bool, true, false, cond, length}
use Rattle.std.proofs.Common.{◌∙◌}
use Rattle.record.specs.Operation.{operands}
use Rattle.record.specs.Fields.{encode}
use Rattle.volume_entry.specs.Stored.{padded}
use Rattle.log_rules.specs.Slot.{Slot, is_waiting}
use Rattle.log_rules.specs.Stored.{record_bytes}
use Rattle.log_rules.specs.Order.{shares}
use Rattle.log_rules.specs.Code.Slots.{slots_in, slot_at, Slotted}
use Rattle.log_rules.specs.Code.Flags.{Holds}
use Rattle.log_slots.specs.Laws.Slot.{record-valid}
use Rattle.log_operands.specs.declared.Order.{Order}
use Rattle.log_operands.specs.Code.Ordering.{Ordering, Told}
use Rattle.log_dependence.specs.Code.Reached.{Tried}

-- what is told of the bytes of a slot's record is told of its operation
pub slot-told : (s : List ℕ) → Slotted s → (i : ℕ) → i < length (slots_in s) → (x : List ℕ) → x ≡ padded record_bytes (encode (slot_at (slots_in s) i).recorded) → (o : Order) → Told x o
    → Ordering x (slot_at (slots_in s) i).recorded.operation o
slot-told s u i lt x e o tell = tell (slot_at (slots_in s) i).recorded _ (record-valid s u i lt) e

-- a slot that waits is reached if it has an operand among the objects
pub tried-waiting : (t : Slot) (before after : List ℕ) (r : Bool) → is_waiting t ≡ true → ((ops : List ℕ) → Holds before ops → r ≡ shares (operands t.recorded.operation) ops)
    → ((ops : List ℕ) → Holds before ops → Holds after (cond r (operands t.recorded.operation ++ ops) ops)) → Tried t before after r
tried-waiting t before after r wait same held = record { found = λ ops h. same ops h ∙ rw wait; objects = λ ops h. rw (wait, ← same ops h) (held ops h) }

-- one that does not wait is not
pub tried-lost : (t : Slot) (objects : List ℕ) → is_waiting t ≡ false → Tried t objects objects false
tried-lost t objects wait = record { found = λ ops h. rw wait; objects = λ ops h. rw wait h }
