-- Document 02, K2, "Letter case in names": what holds of names on whole lists of calls, and of buffers with two names that are the same.
use Rattle.std.specs.Prelude.{ℕ, ◌+◌, ◌≡◌, true, length}
use mathlib.Core.List.{List, [], ◌∷◌, ◌++◌, Memᴰ}
use Rattle.std.specs.Prelude.{None, Some}
use Rattle.names.specs.Name.{same_name}
use Rattle.record.specs.Operation.{Operation, Record, record_of}
use Rattle.volume_entry.specs.Entry.{name_of}
use Rattle.volume_tree.specs.Volume.{Volume, entry_at, is_child, search}
use Rattle.volume_apply.specs.Spelling.{Respelled}
use Rattle.session.specs.Call.{Geometry, Issuer, rename}
use Rattle.session.specs.Model.{Model}
use Rattle.session.specs.Step.{decode_model}
use Rattle.register.specs.Replay.{replay}
use Rattle.register.specs.Register.{Acknowledged, waiting, sent_in, view_of}
use Rattle.register.specs.Run.{Moment, Run, next}

-- two objects of one directory have the same name
pub record TwoAlike (v : Volume) : Type 0 where
  pub directory : ℕ
  pub one : ℕ
  pub other : ℕ
  pub differ : one ≡ other → ⊥
  pub first : is_child v directory one ≡ true
  pub second : is_child v directory other ≡ true
  pub same : same_name (name_of (entry_at v one)) (name_of (entry_at v other)) ≡ true

-- an accepted rename in one parent to another spelling of the name, or to the same
pub record SameNames (m : Moment) : Type 0 where
  pub by : Issuer
  pub parent : ℕ
  pub name : List ℕ
  pub second_name : List ℕ
  pub call : m.call ≡ rename by parent name parent second_name
  pub accepted : m.answer.returned ≡ 0
  pub same : same_name name second_name ≡ true

-- what such a rename does
pub record NewSpelling (g : Geometry) (m : Moment) (w : SameNames m) : Type 0 where
  pub object : ℕ
  pub found : search (view_of m.before.register) w.parent w.name ≡ Some object
  -- it is logged without a displaced object, and "records keep both names as typed"
  pub renaming : Acknowledged
  pub added : (next g m.call m.before).register.operations ≡ m.before.register.operations ++ (renaming ∷ [])
  pub waits : renaming.fate ≡ waiting
  pub logged :
      renaming.recorded
      ≡ record_of (length m.before.register.operations + 1) w.by.program (Operation.rename object w.parent w.parent None w.name w.second_name)
  -- it "displaces nothing and changes the stored spelling", and "only the stored spelling itself changes nothing"
  pub view : Respelled (view_of m.before.register) (view_of (next g m.call m.before).register) object w.second_name

-- after a list of calls on what an accepted mount of the volume v left
pub record Spellings (g : Geometry) (v : Volume) (r : Run) : Type 0 where
  -- no two names of one directory are the same, neither on the server nor in the view
  pub apart : (x : Model) → decode_model g r.last.buffers ≡ Some x → (TwoAlike x.server → ⊥) × (TwoAlike x.view → ⊥)
  -- a rename of the list that only changes the case does that and no more
  pub renamed : (m : Moment) → Memᴰ m r.moments → (w : SameNames m) → NewSpelling g m w
  -- and so does a sent one, where it stands among the sent ones, on the server
  pub sent :
      (before after : List Record) (q : Record) → sent_in r.last.register ≡ before ++ (q ∷ after)
      → (o p : ℕ) (n k : List ℕ) → q.operation ≡ Operation.rename o p p None n k → Respelled (replay v before) (replay v (before ++ (q ∷ []))) o k
