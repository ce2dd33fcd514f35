-- Document 02, K1, "Writes across the end of a file": what becomes of the two operations of such a write, on whole lists of calls.
use Rattle.std.specs.Prelude.{ℕ, ◌+◌, ◌-◌, ◌<◌, ◌≡◌, List, [], ◌∷◌, ◌++◌, Bool, true, length, take, drop}
use Rattle.record.specs.Operation.{Operation, record_of}
use Rattle.volume_entry.specs.Entry.{contents_of}
use Rattle.volume_tree.specs.Volume.{entry_at}
use Rattle.session.specs.Call.{Geometry, Issuer, write}
use Rattle.register.specs.Register.{Register, Acknowledged, waiting, is_waiting, is_lost, view_of}
use Rattle.register.specs.History.{Is}
use Rattle.register.specs.Run.{State, Moment, Run, next, run, instead, CouldHaveBeenSent}
use Rattle.register.specs.Claim.{SentAt}

-- the length of a file in "the replay of the sent and waiting"
abbrev pub length_in : Register → ℕ → ℕ
length_in r o = length (contents_of (entry_at (view_of r) o))

-- an accepted write that begins before the length of its file and ends after it
pub record Across (m : Moment) : Type 0 where
  pub by : Issuer
  pub object : ℕ
  pub offset : ℕ
  pub bytes : List ℕ
  pub call : m.call ≡ write by object offset bytes
  pub accepted : m.answer.returned ≡ 0
  pub begins : offset < length_in m.before.register object
  pub ends : length_in m.before.register object < offset + length bytes

-- "an overwrite and then an append": of the bytes up to the length, and of the rest at the length
abbrev pub first_operation : {m : Moment} → Across m → Operation
first_operation {m} w = Operation.overwrite w.object w.offset (take (length_in m.before.register w.object - w.offset) w.bytes)

abbrev pub second_operation : {m : Moment} → Across m → Operation
second_operation {m} w =
    Operation.append w.object (length_in m.before.register w.object)
    (drop (length_in m.before.register w.object - w.offset) w.bytes)

-- the operation of a number waits, is lost
abbrev pub WaitsAt : Register → ℕ → Type 0
WaitsAt r q = (a : Acknowledged) × Is a r × (a.recorded.sequence ≡ q) × (is_waiting a ≡ true)

abbrev pub LostAt : Register → ℕ → Type 0
LostAt r q = (a : Acknowledged) × Is a r × (a.recorded.sequence ≡ q) × (is_lost a ≡ true)

-- some pushes and then a cut, all accepted, that leave the operation of one number sent and that of another lost
pub record KeepsOnly (g : Geometry) (s : State) (kept gone : ℕ) : Type 0 where
  pub set : ℕ → Bool
  pub could : CouldHaveBeenSent g s set
  pub sent : SentAt (run g (instead set s.register) s).last.register kept
  pub lost : LostAt (run g (instead set s.register) s).last.register gone

-- what holds of a write across the end, in a list of calls r that it belongs to
pub record TwoOperations (g : Geometry) (m : Moment) (w : Across m) (r : Run) : Type 0 where
  -- "They take consecutive numbers, and the register adds both; the first is returned."
  pub overwrite : Acknowledged
  pub append : Acknowledged
  pub added : (next g m.call m.before).register.operations ≡ m.before.register.operations ++ (overwrite ∷ append ∷ [])
  pub first : overwrite.recorded ≡ record_of (length m.before.register.operations + 1) w.by.program (first_operation w)
  pub second : append.recorded ≡ record_of (length m.before.register.operations + 2) w.by.program (second_operation w)
  pub wait : (overwrite.fate ≡ waiting) × (append.fate ≡ waiting)
  pub told : m.answer.results ≡ overwrite.recorded.sequence ∷ []
  -- "A cut may keep the overwrite without the append": wherever the list ends, as long as the append waits
  pub may : WaitsAt r.last.register append.recorded.sequence → KeepsOnly g r.last overwrite.recorded.sequence append.recorded.sequence
  -- "and never the reverse": wherever the list ends, after a cut too
  pub never : SentAt r.last.register append.recorded.sequence → SentAt r.last.register overwrite.recorded.sequence
