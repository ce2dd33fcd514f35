-- Document 01, "Calls": what issuing, sending, discarding, taking and renewing leave of the log.
use Rattle.std.specs.Prelude.{ℕ, ◌+◌, List, [], ◌∷◌, ◌++◌, map, Bool, not, ◌&&◌, cond, eqb}
use Rattle.std.specs.Prelude.{Option, None, Some}
use Rattle.record.specs.Operation.{Operation, Record}
use Rattle.log_rules.specs.Programs.{with, without, union}
use Rattle.log_rules.specs.Slot.{waiting, lost, Slot, with_state, with_dependents, Log, with_next, with_marks, with_slots, is_waiting, sequence_of}
use Rattle.log_rules.specs.Depend.{noted}

-- the waiting operations, in issue order
unfoldable pub waiting_of : List Slot → List Record
waiting_of [] = []
waiting_of (s ∷ l) = cond (is_waiting s) (s.recorded ∷ waiting_of l) (waiting_of l)

-- an accepted call brings the dependence of its program on what its operands reach
abbrev pub note : ℕ → List ℕ → Log → Log
note p ops l = with_slots (noted p ops l.slots) l

-- an operation waits, and its issuer depends on it
abbrev pub waiting_slot : Record → Slot
waiting_slot r = record { state = waiting; dependents = with 0 r.program; recorded = r }

-- "takes one sequence number and waits"
unfoldable pub issue : ℕ → Operation → Log → Log
issue p o l =
    let r : Record = record { sequence = l.head.next; program = p; operation = o } in
    with_next (l.head.next + 1) (with_slots (l.slots ++ (waiting_slot r ∷ [])) l)

-- "frees its slot": later slots move down by one
unfoldable pub removed : (Slot → Bool) → List Slot → List Slot
removed f [] = []
removed f (s ∷ l) = cond (f s) l (s ∷ removed f l)

abbrev pub is_sequence : ℕ → Slot → Bool
is_sequence n s = is_waiting s && eqb (sequence_of s) n

-- "Push sends the waiting operation of a given sequence number and frees its slot."
abbrev pub sent : ℕ → Log → Log
sent n l = with_slots (removed (is_sequence n) l.slots) l

-- "Cut turns all waiting ones into lost ones, marks the dependents"
abbrev pub discarded : Slot → Slot
discarded s = cond (is_waiting s) (with_state lost (with_dependents 0 s)) s

unfoldable pub dependents_of : List Slot → ℕ
dependents_of [] = 0
dependents_of (s ∷ l) = union (cond (is_waiting s) s.dependents 0) (dependents_of l)

unfoldable pub discard : Log → Log
discard l = with_marks (union l.head.marks (dependents_of l.slots)) (with_slots (map discarded l.slots) l)

-- "Take writes the earliest loss of a program and frees its slot."
abbrev pub is_loss_of : ℕ → Slot → Bool
is_loss_of p s = not (is_waiting s) && eqb s.recorded.program p

unfoldable pub earliest : (Slot → Bool) → List Slot → Option Record
earliest f [] = None
earliest f (s ∷ l) = cond (f s) (Some s.recorded) (earliest f l)

abbrev pub taken : ℕ → Log → Log
taken p l = with_slots (removed (is_loss_of p) l.slots) l

-- "Renew clears its mark."
abbrev pub renewed : ℕ → Log → Log
renewed p l = with_marks (without l.head.marks p) l

-- the waiting operation of a sequence number
unfoldable pub waiting_at : ℕ → Log → Option Record
waiting_at n l = earliest (is_sequence n) l.slots

-- a program's losses, in order
unfoldable pub losses_of : ℕ → List Slot → List Record
losses_of p [] = []
losses_of p (s ∷ l) = cond (is_loss_of p s) (s.recorded ∷ losses_of p l) (losses_of p l)
