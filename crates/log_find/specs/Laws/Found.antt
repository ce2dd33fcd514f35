-- What a search of the slots found, as the log's definitions have it; and how the search goes from slot to slot. Assumes nothing.
use Rattle.std.specs.Prelude.{ℕ, ◌+◌, ◌/◌, ◌≤◌, ◌<◌, ◌≡◌, List, ◌++◌, Bool, true, false, length, take, drop, eqb}
use Rattle.std.proofs.Common.{arith, below_more}
use Rattle.std.specs.Prelude.{None, Some}
use Rattle.log_rules.specs.Slot.{Slot, is_waiting, sequence_of}
use Rattle.log_rules.specs.Stored.{slot_bytes}
use Rattle.log_rules.specs.Change.{removed, earliest, is_sequence, is_loss_of}
use Rattle.log_rules.specs.Code.Slots.{slots_in, slot_at, Slotted}
use Rattle.log_rules.proofs.Laws.Freed.{removed-at, earliest-at, earliest-not}
use Rattle.log_slots.specs.Laws.Slot.{slots-count}
use Rattle.log_find.specs.Code.Found.{NoneBefore, FoundBy}

module _ (f : Slot → Bool) (l : List Slot) where
  -- The slot that was found is the earliest that passes the test.
  pub found-earliest : (i : ℕ) → FoundBy f l (Some i) → earliest f l ≡ Some (slot_at l i).recorded
  found-earliest i h = earliest-at f l i h.0 h.1 h.2

  -- It is the one that is freed.
  pub found-removed : (i : ℕ) → FoundBy f l (Some i) → removed f l ≡ take i l ++ drop (i + 1) l
  found-removed i h = removed-at f l i h.0 h.1 h.2

  -- Where none was found there is no earliest.
  pub found_nothing : FoundBy f l None → earliest f l ≡ None
  found_nothing h = earliest-not f l h

module _ (f : Slot → Bool) (s : List ℕ) (u : Slotted s) (i : ℕ) (before : NoneBefore f (slots_in s) i) where
  -- A search from the first slot on ends at a slot that passes the test.
  pub found_here : i < length s / slot_bytes → f (slot_at (slots_in s) i) ≡ true → FoundBy f (slots_in s) (Some i)
  found_here h t = (omega (arith, slots-count s u), t, before)

  -- It goes on past one that does not.
  pub found-next : f (slot_at (slots_in s) i) ≡ false → NoneBefore f (slots_in s) (i + 1)
  found-next t = below_more (λ j. f (slot_at (slots_in s) j) ≡ false) i before t

  -- Behind the last slot nothing was found.
  pub found-end : length s / slot_bytes ≤ i → FoundBy f (slots_in s) None
  found-end h j k = before j (omega (arith, slots-count s u))

-- Of a waiting slot the sequence number is asked, and of a lost one the program.
pub waiting-sequence : (q : ℕ) (s : Slot) → is_waiting s ≡ true → eqb (sequence_of s) q ≡ is_sequence q s
waiting-sequence q s h = rw h

pub lost-sequence : (q : ℕ) (s : Slot) → is_waiting s ≡ false → false ≡ is_sequence q s
lost-sequence q s h = rw h

pub waiting-loss : (p : ℕ) (s : Slot) → is_waiting s ≡ true → false ≡ is_loss_of p s
waiting-loss p s h = rw h

pub lost-loss : (p : ℕ) (s : Slot) → is_waiting s ≡ false → eqb s.recorded.program p ≡ is_loss_of p s
lost-loss p s h = rw h
