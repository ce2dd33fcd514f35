-- What is asked of an operation that is issued, and what issuing it, and several of a call, leaves of the log and of the view.
use Rattle.std.specs.Prelude.{ℕ, ◌<◌, ◌≡◌, List, [], ◌∷◌, ◌++◌, true}
use Rattle.record.specs.Operation.{Operation, Record, record_of, operands}
use Rattle.record.specs.Fields.{encode, valid, fits}
use Rattle.volume_tree.specs.Volume.{Volume}
use Rattle.volume_tree.specs.Stored.{encode_volume}
use Rattle.volume_apply.specs.Apply.{applies, apply}
use Rattle.log_rules.specs.Slot.{Log}
use Rattle.log_rules.specs.Stored.{encode_log, read_log}
use Rattle.log_rules.specs.Change.{note, issue}
use Rattle.log_draft.specs.declared.Draft.{Draft}
use Rattle.log_draft.specs.Code.Draft.{Placed}
use Rattle.log_rules.specs.Code.Slots.{used_in}

-- the record of an operation that may be issued: it is valid, fits, and applies to the view
pub record Issuable (n b : ℕ) (v : Volume) (r : Record) : Type 0 where
  pub sound : valid r ≡ true
  pub fit : fits n b r ≡ true
  pub ready : applies v r.operation ≡ true

-- a slice begins with the bytes of a record
pub record Begins (s : List ℕ) (r : Record) : Type 0 where
  pub rest : List ℕ
  pub bytes : s ≡ encode r ++ rest

-- "Each accepted change, and forder, .. takes one sequence number and waits", and brings its dependence
abbrev pub issued_log : Record → Log → Log
issued_log r l = issue r.program r.operation (note r.program (operands r.operation) l)

-- a record stands in the first free slot, and its operation may be issued
pub record Ready (n b m : ℕ) (d : Draft) (s : List ℕ) (v : Volume) (l : Log) (r : Record) : Type 0 where
  pub placed : Placed n b m d s l r
  pub able : Issuable n b v r

-- the sequence number and the log afterwards, in which the operation waits
pub record Waits (m number : ℕ) (log' : List ℕ) (l : Log) (r : Record) : Type 0 where
  pub gives : number ≡ l.head.next
  pub log : log' ≡ encode_log m (issued_log r l)

-- the same, and the view afterwards
pub record Issued (n b m : ℕ) (number : ℕ) (log' view' : List ℕ) (v : Volume) (l : Log) (r : Record) : Type 0 where
  pub gives : number ≡ l.head.next
  pub log : log' ≡ encode_log m (issued_log r l)
  pub view : view' ≡ encode_volume b (apply v r.operation)

-- a record that a log can keep: it is valid, and fits
pub record Kept (n b : ℕ) (r : Record) : Type 0 where
  pub sound : valid r ≡ true
  pub fit : fits n b r ≡ true

-- a log has a free slot and a number for one more operation
abbrev pub Room : ℕ → List ℕ → Type 0
Room m s = (used_in m s < m) × ((read_log m s).head.next < 4294967295)

-- operations of a program one after the other: what they leave of a log and of a volume
unfoldable pub issued_all : ℕ → List Operation → Log → Log
issued_all p [] l = l
issued_all p (o ∷ os) l = issued_all p os (issued_log (record_of l.head.next p o) l)

unfoldable pub applied_all : List Operation → Volume → Volume
applied_all [] v = v
applied_all (o ∷ os) v = applied_all os (apply v o)

-- the sequence number of the first, and the log and the view afterwards
pub record AllIssued (b m number : ℕ) (log' view' : List ℕ) (v : Volume) (l : Log) (p : ℕ) (os : List Operation) : Type 0 where
  pub gives : number ≡ l.head.next
  pub log : log' ≡ encode_log m (issued_all p os l)
  pub view : view' ≡ encode_volume b (applied_all os v)
