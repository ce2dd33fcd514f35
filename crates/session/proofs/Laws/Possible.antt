-- When an effect may take place: what holds of the volumes and the log where a call has it.
use Rattle.std.specs.Prelude.{ℕ, ◌<◌, ◌≡◌, List, [], ◌∷◌, true, false, length}
use Rattle.std.specs.Prelude.{Some}
use Rattle.record.specs.Operation.{Operation, Record}
use Rattle.volume_tree.specs.Form.{well_formed}
use Rattle.volume_apply.specs.Apply.{applies}
use Rattle.log_rules.specs.Slot.{well_formed_log}
use Rattle.log_rules.specs.Order.{any, before}
use Rattle.log_rules.specs.Change.{waiting_of, waiting_at, earliest, is_loss_of}
use Rattle.session.specs.Call.{Geometry, in_range}
use Rattle.session.specs.Model.{Model, agreeing}
use Rattle.session.specs.Effect.{Effect, note, issue, send, discard, take, renew, perform}
use Rattle.session.proofs.Laws.Issue.{Recordable}

-- a geometry in range, and a view, a server volume and a log that are well formed for it and agree
pub record Sound (g : Geometry) (x : Model) : Type 0 where
  pub range : in_range g ≡ true
  pub server : well_formed g.objects g.blocks x.server ≡ true
  pub view : well_formed g.objects g.blocks x.view ≡ true
  pub log : well_formed_log g.objects g.blocks g.capacity x.log ≡ true
  pub agree : agreeing x ≡ true

-- an operation that may be issued: its program, room and a number, and that it applies to the view and can be recorded
pub record Issuable (g : Geometry) (x : Model) (p : ℕ) (o : Operation) : Type 0 where
  pub program : p < 32
  pub fit : applies x.view o ≡ true
  pub recordable : Recordable g.objects g.blocks o
  pub room : length x.log.slots < g.capacity
  pub number : x.log.head.next < 4294967295

-- an operation that may be sent: it waits under its number, applies to the server, and no waiting one precedes it
pub record Sendable (x : Model) (q : ℕ) (r : Record) : Type 0 where
  pub found : waiting_at q x.log ≡ Some r
  pub fit : applies x.server r.operation ≡ true
  pub free : any (λ a. before a r) (waiting_of x.log.slots) ≡ false

abbrev pub Possible : Geometry → Model → Effect → Type 0
Possible g x (note p ops) = p < 32
Possible g x (issue p o) = Issuable g x p o
Possible g x (send q) = (r : Record) × Sendable x q r
Possible g x discard = Unit {0}
Possible g x (take p) = (r : Record) × (earliest (is_loss_of p) x.log.slots ≡ Some r)
Possible g x (renew p) = Unit {0}

-- each of a list where those before it have taken place
abbrev pub AllPossible : Geometry → Model → List Effect → Type 0
AllPossible g x [] = Unit {0}
AllPossible g x (e ∷ es) = Possible g x e × AllPossible g (perform e x) es
