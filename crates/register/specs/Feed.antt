-- Document 01, "The register" and "Order and dependence": how a call's arguments and answers change the register, sentence by sentence.
-- Nothing here goes by what a call does to the buffers.
use Rattle.std.specs.Prelude.{ℕ, ◌+◌, ◌-◌, List, [], ◌∷◌, ◌++◌, map, Bool, false, ◌&&◌, ◌||◌, cond, length, get_or, drop, leb, eqb}
use Rattle.std.specs.Prelude.{Option, None, Some}
use Rattle.std.proofs.Math.ListN
use Rattle.returned.specs.Returned
use Rattle.paths.specs.Path.{components}
use Rattle.record.specs.Operation.{Operation, Record, operands}
use Rattle.record.specs.Fields.{member, objects_of}
use Rattle.volume_entry.specs.Entry.{contents_of}
use Rattle.volume_tree.specs.Volume.{Volume, entry_at, search}
use Rattle.session.specs.Class.{Question, lookup, list, stat, read, Change, create_file, make_directory, remove_file, remove_directory, rename, write, set_length, forder, push, fsync, cut, take, renew}
use Rattle.session.specs.Call.{Call, question, change, link, recovery, Answer}
use Rattle.register.specs.Register.{Register, Acknowledged, waiting, sent, lost, is_waiting, recorded_of, fated, view_of, with_operations, with_touch, with_renewal, later}
use Rattle.register.specs.History.{directly}

-- an operation directly precedes one of some
unfoldable pub precedes_some : Acknowledged → List Acknowledged → Bool
precedes_some a [] = false
precedes_some a (b ∷ l) = directly a b || precedes_some a l

-- the waiting operations that a test picks "and their predecessors, in issue order": of some operations in issue order, from the last to
-- the first, each that waits and is picked, or directly precedes one found behind it
unfoldable pub covered : (Acknowledged → Bool) → List Acknowledged → List Acknowledged
covered pick [] = []
covered pick (a ∷ l) =
    let found = covered pick l in
    cond (is_waiting a && (pick a || precedes_some a found)) (a ∷ found) found

abbrev pub covered_in : (Acknowledged → Bool) → Register → List Record
covered_in pick r = map recorded_of (covered pick r.operations)

-- "with that object as operand"
abbrev pub has_object : ℕ → Acknowledged → Bool
has_object o a = member o (operands a.recorded.operation)

-- "It needs d sends: all waiting operations with that object as operand and their predecessors, in issue order."
abbrev pub needed_for : ℕ → Register → List Record
needed_for o r = covered_in (has_object o) r

-- the operation on what a name leads to; none where it leads to nothing
abbrev pub on_found : Option ℕ → (ℕ → Operation) → List Operation
on_found None f = []
on_found (Some o) f = f o ∷ []

-- what a rename's second name leads to is displaced, unless it is the object itself
abbrev pub displacing : ℕ → Option ℕ → Option ℕ
displacing o None = None
displacing o (Some i) = cond (eqb i o) None (Some i)

-- "wholly inside the length (overwrite) or beginning at the length (append)"; across the end of the file "an overwrite and then an append"
-- (document 02, K1), of the bytes up to the length and of the rest
abbrev pub writing : ℕ → ℕ → ℕ → List ℕ → List Operation
writing len o f s =
    cond (leb (f + length s) len) (Operation.overwrite o f s ∷ [])
    (cond (leb len f) (Operation.append o f s ∷ [])
    (Operation.overwrite o f (ListN.take (len - f) s) ∷ Operation.append o len (drop (len - f) s) ∷ []))

-- the operations that a change is, "completed from the replay of the sent and waiting": the volume is that replay
abbrev pub operations_in : Volume → Change → List Operation
operations_in v (create_file d n o) = Operation.create_file o d n ∷ []
operations_in v (make_directory d n o) = Operation.make_directory o d n ∷ []
operations_in v (remove_file d n) = on_found (search v d n) (λ o. Operation.remove o d n)
operations_in v (remove_directory d n) = on_found (search v d n) (λ o. Operation.remove o d n)
operations_in v (rename d n e k) = on_found (search v d n) (λ o. Operation.rename o d e (displacing o (search v e k)) n k)
operations_in v (write o f s) = writing (length (contents_of (entry_at v o))) o f s
operations_in v (set_length o f) = Operation.set_length o f ∷ []
operations_in v (forder s) = Operation.forder (objects_of s) ∷ []

-- "the directories it searches and the object found": from one on, a name after the other
abbrev pub onward : Option ℕ → (ℕ → List ℕ) → List ℕ
onward None f = []
onward (Some i) f = f i

unfoldable pub passed : Volume → ℕ → List (List ℕ) → List ℕ
passed v d [] = d ∷ []
passed v d (n ∷ ns) = d ∷ onward (search v d n) (λ i. passed v i ns)

-- ""/" is the root", and has no component
abbrev pub names_in : List ℕ → List (List ℕ)
names_in s = cond (eqb (length s) 1) [] (components s)

-- "Lookup's operands are the directories it searches and the object found; the others have their object."
abbrev pub operands_in : Volume → Question → List ℕ
operands_in v (lookup s) = passed v 0 (names_in s)
operands_in v (list o s) = o ∷ []
operands_in v (stat o) = o ∷ []
operands_in v (read o f s) = o ∷ []

-- "a later successful call of its own has an operand": a call of a program, with its operands
abbrev pub enter : ℕ → List ℕ → Register → Register
enter p ops r = later (with_touch (record { program = p; touched = ops; time = r.happened }) r)

-- "An accepted change or forder adds its operation, waiting, numbered on from 1": one after the other, each with its operands
abbrev pub acknowledged : ℕ → Operation → Register → Acknowledged
acknowledged p o r = record { recorded = record { sequence = length r.operations + 1; program = p; operation = o }; issued = r.happened; fate = waiting }

abbrev pub add : ℕ → Operation → Register → Register
add p o r = later (with_operations (r.operations ++ (acknowledged p o r ∷ [])) r)

unfoldable pub add_all : ℕ → List Operation → Register → Register
add_all p [] r = r
add_all p (o ∷ os) r = add_all p os (add p o (enter p (operands o) r))

-- "sends its operation": the one of a number, and those of some records
abbrev pub sending : ℕ → Acknowledged → Acknowledged
sending q a = cond (eqb a.recorded.sequence q) (fated sent a) a

abbrev pub send_one : ℕ → Register → Register
send_one q r = with_operations (map (sending q) r.operations) r

unfoldable pub send_all : List Record → Register → Register
send_all [] r = r
send_all (q ∷ l) r = send_all l (send_one q.sequence r)

-- "makes all waiting ones lost"
abbrev pub losing : ℕ → Acknowledged → Acknowledged
losing time a = cond (is_waiting a) (fated (lost time) a) a

abbrev pub lose_all : Register → Register
lose_all r = later (with_operations (map (losing r.happened) r.operations) r)

-- "Renew clears its mark": from then on a program is marked for what is discarded later
abbrev pub renewing : ℕ → Register → Register
renewing p r = later (with_renewal (record { program = p; time = r.happened }) r)

-- "An accepted push sends its operation, an accepted fsync the d it needs"; "A cut, accepted .., makes all waiting ones lost."
abbrev pub accepted : Call → Register → Register
accepted (question p q) r = enter p (operands_in (view_of r) q) r
accepted (change i c) r = add_all i.program (operations_in (view_of r) c) r
accepted (link (push q)) r = send_one q r
accepted (link (fsync p o k)) r = send_all (needed_for o r) (enter p (o ∷ []) r)
accepted (link cut) r = lose_all r
accepted (recovery p (take s)) r = r
accepted (recovery p renew) r = renewing p r

-- "refusal 17 the first k", and a cut "at the end of refusal 17": "Fsync counts as such a call even if the link fails"; "refusal 2 as many
-- as it reports"
abbrev pub broken_off : ℕ → ℕ → ℕ → Answer → Register → Register
broken_off p o k a r =
    cond (eqb a.returned Returned.link_lost) (lose_all (send_all (ListN.take k (needed_for o r)) (enter p (o ∷ []) r)))
    (cond (eqb a.returned Returned.damaged) (send_all (ListN.take (get_or a.results 0 0) (needed_for o r)) r) r)

-- "Nothing else here changes it."
abbrev pub refused : Call → Answer → Register → Register
refused (question p q) a r = r
refused (change i c) a r = r
refused (link (push q)) a r = r
refused (link (fsync p o k)) a r = broken_off p o k a r
refused (link cut) a r = r
refused (recovery p l) a r = r

-- "A register is fed only each call's arguments, the three buffers apart, and its answers."
unfoldable pub feed : Call → Answer → Register → Register
feed c a r = cond (eqb a.returned Returned.accepted) (accepted c r) (refused c a r)
