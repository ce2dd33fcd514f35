-- Document 01, "The register": what it holds.
use Rattle.std.specs.Prelude.{ℕ, ◌+◌, List, [], ◌∷◌, ◌++◌, Bool, true, false, not, ◌||◌, cond}
use Rattle.record.specs.Operation.{Record}
use Rattle.volume_tree.specs.Volume.{Volume}
use Rattle.register.specs.Replay.{replay}

-- "the acknowledged operations, each waiting, sent or lost"; a lost one with the time of its loss
pub data Fate : Type 0 where
  waiting : Fate
  sent : Fate
  lost : ℕ → Fate

-- an acknowledged operation, with the time of its issue; a time is how many operations, calls with operands, losses and renewals the
-- register was told of before
pub record Acknowledged : Type 0 where
  pub recorded : Record
  pub issued : ℕ
  pub fate : Fate

-- an accepted call of a program with its operands, and an accepted renewal, each with its time: the history that dependence and marks
-- are told from
pub record Touch : Type 0 where
  pub program : ℕ
  pub touched : List ℕ
  pub time : ℕ

pub record Renewal : Type 0 where
  pub program : ℕ
  pub time : ℕ

-- "It holds the server volume as mounted and the acknowledged operations", in issue order; and the history of calls
pub record Register : Type 0 where
  pub mounted : Volume
  pub operations : List Acknowledged
  pub touches : List Touch
  pub renewals : List Renewal
  pub happened : ℕ

-- as an accepted mount leaves it
abbrev pub begun : Volume → Register
begun v = record { mounted = v; operations = []; touches = []; renewals = []; happened = 0 }

-- with other operations, with one more call of a program, with one more renewal, and a time later
abbrev pub with_operations : List Acknowledged → Register → Register
with_operations l r = record { mounted = r.mounted; operations = l; touches = r.touches; renewals = r.renewals; happened = r.happened }

abbrev pub with_touch : Touch → Register → Register
with_touch t r = record { mounted = r.mounted; operations = r.operations; touches = r.touches ++ (t ∷ []); renewals = r.renewals; happened = r.happened }

abbrev pub with_renewal : Renewal → Register → Register
with_renewal n r = record { mounted = r.mounted; operations = r.operations; touches = r.touches; renewals = r.renewals ++ (n ∷ []); happened = r.happened }

abbrev pub later : Register → Register
later r = record { mounted = r.mounted; operations = r.operations; touches = r.touches; renewals = r.renewals; happened = r.happened + 1 }

-- the record of an acknowledged operation, and the operation with another fate
abbrev pub recorded_of : Acknowledged → Record
recorded_of a = a.recorded

abbrev pub fated : Fate → Acknowledged → Acknowledged
fated f a = record { recorded = a.recorded; issued = a.issued; fate = f }

abbrev pub is_waiting : Acknowledged → Bool
is_waiting a = waits a.fate
  where
    waits : Fate → Bool
    waits waiting = true
    waits sent = false
    waits (lost t) = false

abbrev pub is_sent : Acknowledged → Bool
is_sent a = went a.fate
  where
    went : Fate → Bool
    went waiting = false
    went sent = true
    went (lost t) = false

abbrev pub is_lost : Acknowledged → Bool
is_lost a = not (is_waiting a || is_sent a)

unfoldable pub chosen : (Acknowledged → Bool) → List Acknowledged → List Record
chosen f [] = []
chosen f (a ∷ l) = cond (f a) (a.recorded ∷ chosen f l) (chosen f l)

-- the records of the sent, the waiting and the lost ones, in issue order
abbrev pub sent_in : Register → List Record
sent_in r = chosen is_sent r.operations

abbrev pub waiting_in : Register → List Record
waiting_in r = chosen is_waiting r.operations

abbrev pub lost_in : Register → List Record
lost_in r = chosen is_lost r.operations

-- "the replay of the sent and waiting"
unfoldable pub view_of : Register → Volume
view_of r = replay r.mounted (chosen (λ a. is_sent a || is_waiting a) r.operations)
