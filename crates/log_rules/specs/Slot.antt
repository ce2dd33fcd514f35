-- Document 01, "Geometry and stored form": the log, its slots, and when it is well formed.
use Rattle.std.specs.Prelude.{ℕ, ◌^◌, List, [], ◌∷◌, Bool, true, not, ◌&&◌, ◌||◌, length, leb, ltb, eqb}
use Rattle.record.specs.Operation.{Record}
use Rattle.record.specs.Fields.{valid, fits}

-- "state (1: 0 free, 1 waiting, 2 lost)"; free slots are those after the used ones
pub data State : Type 0 where
  waiting : State
  lost : State

abbrev pub state_number : State → ℕ
state_number waiting = 1
state_number lost = 2

-- "state .., dependents (4 ..; zero if lost), a loss record"
pub record Slot : Type 0 where
  pub state : State
  pub dependents : ℕ
  pub recorded : Record

-- a slot with another state, and with other dependents
abbrev pub with_state : State → Slot → Slot
with_state t s = record { state = t; dependents = s.dependents; recorded = s.recorded }

abbrev pub with_dependents : ℕ → Slot → Slot
with_dependents d s = record { state = s.state; dependents = d; recorded = s.recorded }

-- "next sequence number (4, from 1), marked programs (4 ..)": what stands before the slots
pub record Head : Type 0 where
  pub next : ℕ
  pub marks : ℕ

-- "then .. slots": the used ones, in their order
pub record Log : Type 0 where
  pub head : Head
  pub slots : List Slot

-- a log with another next number, with other marks, and with other slots
abbrev pub with_next : ℕ → Log → Log
with_next n l = record { head = record { next = n; marks = l.head.marks }; slots = l.slots }

abbrev pub with_marks : ℕ → Log → Log
with_marks k l = record { head = record { next = l.head.next; marks = k }; slots = l.slots }

abbrev pub with_slots : List Slot → Log → Log
with_slots s l = record { head = l.head; slots = s }

abbrev pub is_waiting : Slot → Bool
is_waiting s = eqb (state_number s.state) 1

abbrev pub sequence_of : Slot → ℕ
sequence_of s = s.recorded.sequence

-- "Records fit n and b"; any 32 bits are dependents, "zero if lost"
abbrev pub good_slot : ℕ → ℕ → Slot → Bool
good_slot n b s =
    (valid s.recorded && fits n b s.recorded) && (ltb s.dependents (2 ^ 32) && (is_waiting s || eqb s.dependents 0))

unfoldable pub good_slots : ℕ → ℕ → List Slot → Bool
good_slots n b [] = true
good_slots n b (s ∷ l) = good_slot n b s && good_slots n b l

-- "in rising sequence, the lost before the waiting, all below the next number": whether one slot may follow another, and
-- the last one the next number
abbrev pub follows : Slot → Slot → Bool
follows s t = ltb (sequence_of s) (sequence_of t) && (not (is_waiting s) || is_waiting t)

unfoldable pub rising : ℕ → List Slot → Bool
rising next [] = true
rising next (s ∷ []) = ltb (sequence_of s) next
rising next (s ∷ t ∷ l) = follows s t && rising next (t ∷ l)

-- "next sequence number (4, from 1)"; 4,294,967,295 is the last, and any 32 bits are marks
abbrev pub good_head : Head → Bool
good_head h = (leb 1 h.next && ltb h.next (2 ^ 32)) && ltb h.marks (2 ^ 32)

unfoldable pub well_formed_log : ℕ → ℕ → ℕ → Log → Bool
well_formed_log n b m l =
    good_head l.head && (leb (length l.slots) m && (good_slots n b l.slots && rising l.head.next l.slots))

-- Mount "begins an empty log, next number 1 and no marks"
abbrev pub empty_head : Head
empty_head = record { next = 1; marks = 0 }

abbrev pub empty_log : Log
empty_log = record { head = empty_head; slots = [] }
