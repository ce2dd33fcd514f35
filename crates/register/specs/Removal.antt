-- Document 02, K4, "Remove becomes two calls": what the removes of a list of calls took, from the view and from the server.
use Rattle.std.specs.Prelude.{ℕ, ◌+◌, ◌≡◌, Bool, true, false, length}
use mathlib.Core.List.{List, [], ◌∷◌, ◌++◌, Memᴰ}
use Rattle.std.specs.Prelude.{Some}
use Rattle.record.specs.Operation.{Operation, Record, record_of}
use Rattle.volume_entry.specs.Entry.{Entry, is_file, is_directory}
use Rattle.volume_tree.specs.Volume.{Volume, entry_at, search, has_children}
use Rattle.session.specs.Call.{Geometry, Issuer, Call, remove_file, remove_directory}
use Rattle.register.specs.Replay.{replay}
use Rattle.register.specs.Register.{Register, Acknowledged, sent_in, view_of}
use Rattle.register.specs.Run.{Moment, Run, next}
use Rattle.register.specs.Claim.{SentAt}

-- an accepted remove by one of the two calls
pub record Removes (call : Issuer → ℕ → List ℕ → Call) (m : Moment) : Type 0 where
  pub by : Issuer
  pub parent : ℕ
  pub name : List ℕ
  pub made : m.call ≡ call by parent name
  pub accepted : m.answer.returned ≡ 0

-- an object of a kind, without children
abbrev pub Bare : (Entry → Bool) → Volume → ℕ → Type 0
Bare kind v o = (kind (entry_at v o) ≡ true) × (has_children v o ≡ false)

-- a sent operation, where it stands among the sent ones: what its object was on the server
pub record OnServer (kind : Entry → Bool) (v : Volume) (r : Register) (q : Record) (o : ℕ) : Type 0 where
  pub before : List Record
  pub after : List Record
  pub among : sent_in r ≡ before ++ (q ∷ after)
  pub there : Bare kind (replay v before) o

-- what such a remove took, in a list of calls r on the mounted volume v
pub record Removed (g : Geometry) (v : Volume) (r : Run) (kind : Entry → Bool) (m : Moment) (program parent : ℕ) (name : List ℕ) : Type 0 where
  -- in the view it is what the name leads to
  pub object : ℕ
  pub found : search (view_of m.before.register) parent name ≡ Some object
  pub seen : Bare kind (view_of m.before.register) object
  -- "Kind 3 stays in the record"
  pub removal : Acknowledged
  pub added : (next g m.call m.before).register.operations ≡ m.before.register.operations ++ (removal ∷ [])
  pub logged : removal.recorded ≡ record_of (length m.before.register.operations + 1) program (Operation.remove object parent name)
  -- and if it was sent, whenever that was, it met the same kind on the server
  pub sent : SentAt r.last.register removal.recorded.sequence → OnServer kind v r.last.register removal.recorded object

-- after a list of calls on what an accepted mount of the volume v left
pub record Removals (g : Geometry) (v : Volume) (r : Run) : Type 0 where
  -- "Remove file takes only files"
  pub files : (m : Moment) → Memᴰ m r.moments → (w : Removes remove_file m) → Removed g v r is_file m w.by.program w.parent w.name
  -- "remove directory only empty directories"
  pub directories : (m : Moment) → Memᴰ m r.moments → (w : Removes remove_directory m) → Removed g v r is_directory m w.by.program w.parent w.name
