-- The claim on the entries: what holds of the calls that a host in C makes from an accepted `wb_mount` on, of two such lists, and of
-- one call on any buffers.
use Rattle.std.specs.Prelude.{ℕ, ◌≡◌, ◌↔◌, true}
use mathlib.Core.List.{List, map, Memᴰ}
use Rattle.returned.specs.Returned
use Rattle.record.specs.Operation.{Record}
use Rattle.volume_tree.specs.Volume.{Volume}
use Rattle.volume_apply.specs.Apply.{applies}
use Rattle.log_rules.specs.Order.{PrecedesIn, needed}
use Rattle.log_rules.specs.Change.{waiting_of}
use Rattle.session.specs.Call.{push, fsync}
use Rattle.session.specs.Model.{Model}
use Rattle.session.specs.Step.{Result, Stores}
use Rattle.register.specs.Register.{recorded_of}
use Rattle.register.specs.Run.{Moment, Run, Mounted, play}
use Rattle.register.specs.Claim.{Demand, Determined, Broken, Unchanged, Sent, Stopped}
use Rattle.register.specs.Entries.{Seen, calls_of, Shows}
use Rattle.register.specs.Across.{Across, TwoOperations}
use Rattle.register.specs.Spelling.{Spellings}
use Rattle.register.specs.Removal.{Removals}
use Rattle.entries.specs.Observed.{Observed, Right, AllRight, HandedOn, Mounting, RightMount}

-- what a host saw of its calls, one by one
abbrev pub seen_of : List Observed → List Seen
seen_of os = map (λ (o : Observed). record { call = o.call; answer = o.answer; after = o.after }) os

-- an accepted mount and the calls after it, each right, on the buffers that the host handed on
pub record Hosted (m : Mounting) (os : List Observed) : Type 0 where
  pub mounted : RightMount m
  pub accepted : m.returned ≡ 0
  pub right : AllRight os
  pub handed : HandedOn m.geometry m.after os

-- the run of the calls of a host, from the volume that it mounted
abbrev pub run_of : Mounting → List Observed → Volume → Run
run_of m os v = play m.geometry m.before v (calls_of (seen_of os))

-- one list: the run shows just what the host saw, and the claim, and the theorems of document 02's requests, hold of it
pub record OnList (m : Mounting) (os : List Observed) (v : Volume) : Type 0 where
  pub mounted : Mounted m.geometry m.before v
  pub shows : Shows (run_of m os v).moments (run_of m os v).last m.after (seen_of os)
  pub demand : Demand m.geometry v (run_of m os v)
  -- K1, K2 and K4
  pub across : (n : Moment) → Memᴰ n (run_of m os v).moments → (w : Across n) → TwoOperations m.geometry n w (run_of m os v)
  pub spelled : Spellings m.geometry v (run_of m os v)
  pub removed : Removals m.geometry v (run_of m os v)

-- the returned number of a call
abbrev pub returned : Observed → ℕ
returned o = o.answer.returned

abbrev pub result_of : Observed → Result
result_of o = record { gives = o.answer; leaves = o.after }

-- one call on any buffers
pub record OnAny (o : Observed) : Type 0 where
  pub pushed :
      (x : Model) → Stores o.geometry o.before x → (q : Record) → o.call ≡ push q.sequence → Memᴰ q (waiting_of x.log.slots) → applies x.server q.operation ≡ true
      → (returned o ≡ 0) ↔ ((a : Record) → Memᴰ a (waiting_of x.log.slots) → PrecedesIn (waiting_of x.log.slots) a q → ⊥)
  pub sends : (x : Model) → Stores o.geometry o.before x → (q : ℕ) → o.call ≡ push q → returned o ≡ 0 → Sent o.geometry x q o.after
  pub unchanged :
      (returned o ≡ 0 → ⊥) → (returned o ≡ Returned.link_lost → ⊥)
      → (returned o ≡ Returned.damaged → (x : Model) → Stores o.geometry o.before x → (p t k : ℕ) → o.call ≡ fsync p t k → ⊥) → Unchanged o.call o.before (result_of o)
  pub stopped :
      (x : Model) → Stores o.geometry o.before x → (p t k : ℕ) → o.call ≡ fsync p t k → returned o ≡ Returned.damaged
      → Stopped o.geometry k x (needed t (waiting_of x.log.slots)) (result_of o)

-- the whole claim, of a host's calls
pub record HostDemands : Type 0 where
  pub lists : (m : Mounting) (os : List Observed) → Hosted m os → (v : Volume) × OnList m os v
  pub determined :
      (m n : Mounting) (os ps : List Observed) (v w : Volume) → OnList m os v → OnList n ps w
      → m.geometry.objects ≡ n.geometry.objects → m.geometry.blocks ≡ n.geometry.blocks → m.after.server ≡ n.after.server
      → Hosted m os → Hosted n ps → Broken (run_of m os v) → Broken (run_of n ps w)
      → map recorded_of (run_of m os v).last.register.operations ≡ map recorded_of (run_of n ps w).last.register.operations
      → Determined m.geometry n.geometry (run_of m os v) (run_of n ps w)
  pub any : (o : Observed) → Right o → OnAny o
