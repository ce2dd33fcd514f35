-- `log_dependence::note_slots` meets its contract. The loop's invariant: the slots from the place on are noted, and what they reach is in
-- the set. Assumes nothing.
use Prim.Native.Nat.{ℕ, ◌≤◌}
use mathlib.Core.Path.{◌≡◌}
use mathlib.Core.List.{List}
use lib.ListN.{length, drop}
use Rattle.log_rules.specs.Stored.{encode_slots}
use Rattle.log_rules.specs.Depend.{reach}
use Rattle.log_rules.specs.Code.Slots.{slots_in}
use Rattle.log_rules.specs.Code.Flags.{Holds}
use Rattle.log_dependence.specs.Laws.Noted.{partly}
use Rattle.log_dependence.proofs.note_slots.Given as goal

abbrev pub invariant-loop-i : goal.invariant-loop-i
invariant-loop-i l =
    (l.i ≤ length (slots_in l.initial.s)) × ((ops : List ℕ) → Holds l.initial.reached ops → Holds l.reached (reach ops (drop l.i (slots_in l.initial.s))) × (l.s ≡ encode_slots (partly l.program ops (slots_in l.initial.s) l.i)))
