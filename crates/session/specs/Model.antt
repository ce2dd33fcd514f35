-- What a call works on: the two volumes and the log that the buffers store; and the conditions that most calls ask.
use Rattle.std.specs.Prelude.{ℕ, ◌+◌, List, [], ◌∷◌, Bool, true, false, not, cond, length, ltb, eqb, Result, Ok, Err}
use Rattle.returned.specs.Returned
use Rattle.names.specs.declared.NameError.{NameError}
use Rattle.names.specs.declared.NameError.TheVariants.{Bad, Long}
use Rattle.volume_entry.specs.Entry.{is_used}
use Rattle.volume_tree.specs.Volume.{Volume, entry_at}
use Rattle.log_rules.specs.Programs.{holds}
use Rattle.log_rules.specs.Slot.{Log, empty_log}
use Rattle.log_rules.specs.Change.{waiting_of}
use Rattle.session.specs.Told.{Told}
use Rattle.session.specs.Call.{Geometry, Call, Answer, refusal}
use Rattle.session.specs.Refusal.{Row, row, lowest_number}

pub record Model : Type 0 where
  pub server : Volume
  pub view : Volume
  pub log : Log

-- what a model tells a call
abbrev pub told_of : Model → Told
told_of x = record { view = x.view; waiting = waiting_of x.log.slots }

-- "copies it to the view and begins an empty log": what an accepted mount leaves of a server volume
abbrev pub mounted_model : Volume → Model
mounted_model v = record { server = v; view = v; log = empty_log }

-- what ties the server, the view and the log to each other, besides the form that each has by itself: nothing does
unfoldable pub agreeing : Model → Bool
agreeing x = true

-- with another server volume, with another view, and with another log
abbrev pub with_server : Volume → Model → Model
with_server v x = record { server = v; view = x.view; log = x.log }

abbrev pub with_view : Volume → Model → Model
with_view v x = record { server = x.server; view = v; log = x.log }

abbrev pub with_log : Log → Model → Model
with_log l x = record { server = x.server; view = x.view; log = l }

-- the call is refused by its table, or answered
abbrev pub unless : Call → List Row → Answer → Answer
unless c rows a = cond (eqb (lowest_number rows) 0) a (refusal (lowest_number rows) c)

-- "32 or more"; "the program is marked"
abbrev pub bad_program : ℕ → Row
bad_program p = row Returned.bad_program (not (ltb p 32))

abbrev pub is_marked : Log → ℕ → Row
is_marked l p = row Returned.marked (holds l.head.marks p)

-- what is asked of the program of a call, but for take and renew
abbrev pub program_rows : Log → ℕ → List Row
program_rows l p = bad_program p ∷ is_marked l p ∷ []

-- "name or path text, other than length over 60"; "over 60 bytes"
abbrev pub is_bad : Result (Unit {0}) NameError → Bool
is_bad (Ok x) = false
is_bad (Err Bad) = true
is_bad (Err Long) = false

abbrev pub is_long : Result (Unit {0}) NameError → Bool
is_long (Ok x) = false
is_long (Err Bad) = false
is_long (Err Long) = true

-- "object n or more"; "entry free"
abbrev pub outside : Volume → ℕ → Bool
outside v o = not (ltb o (length v))

abbrev pub is_free : Volume → ℕ → Bool
is_free v o = not (is_used (entry_at v o))

-- what is asked of an object by its number: 7, 8
abbrev pub object_rows : Volume → ℕ → List Row
object_rows v o = row Returned.bad_number (outside v o) ∷ row Returned.no_object (is_free v o) ∷ []

-- "m slots used", "next number is 4,294,967,295": too few slots or numbers are left for so many operations
abbrev pub no_slots : Geometry → Log → ℕ → Row
no_slots g l k = row Returned.log_full (ltb g.capacity (length l.slots + k))

abbrev pub no_numbers : Log → ℕ → Row
no_numbers l k = row Returned.spent (ltb 4294967295 (l.head.next + k))

-- room for so many operations
abbrev pub room_for : Geometry → Log → ℕ → List Row
room_for g l k = no_slots g l k ∷ no_numbers l k ∷ []
