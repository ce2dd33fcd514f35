-- `log_compact::move_slot` meets its contract. The loop's invariant: the first i bytes of the slot are moved, and the others are as they
-- were. Assumes nothing.
use Prim.Native.Nat.{◌*◌}
use mathlib.Core.Path.{◌≡◌}
use lib.ListN.{length, drop}
use lib.Seq.{paste}
use Rattle.log_rules.specs.Stored.{slot_bytes}
use Rattle.log_compact.proofs.move_slot.Given as goal

abbrev pub invariant-loop-i : goal.invariant-loop-i
invariant-loop-i l =
    (l.s ≡ paste l.initial.s (l.to * slot_bytes) (drop (l.from * slot_bytes) l.initial.s) l.i) × (length l.s ≡ length l.initial.s)
