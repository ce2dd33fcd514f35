-- Document 01, "The register": "Demand 3 is one claim on a whole list of calls". A list of calls from an accepted mount on,
-- each with the buffers as the last one left them, and the register fed with each call's arguments and answers.
use Rattle.std.specs.Prelude.{ℕ, ◌≡◌, Bool, ◌&&◌}
use mathlib.Core.List.{List, [], ◌∷◌, ◌++◌, map, Memᴰ}
use Rattle.std.specs.Prelude.{Some}
use Rattle.record.specs.Operation.{Record}
use Rattle.volume_tree.specs.Volume.{Volume}
use Rattle.volume_tree.specs.Stored.{decode_volume}
use Rattle.session.specs.Call.{Geometry, Buffers, Call, push, cut, Answer}
use Rattle.session.specs.Step.{step, mount}
use Rattle.register.specs.Register.{Register, begun, Acknowledged, is_sent, is_waiting, chosen}
use Rattle.register.specs.Feed.{feed}
use Rattle.register.specs.History.{Is}

-- the three buffers and the register between two calls
pub record State : Type 0 where
  pub buffers : Buffers
  pub register : Register

-- a call of the list, what it met and what it answered
pub record Moment : Type 0 where
  pub call : Call
  pub before : State
  pub answer : Answer

-- the calls of a list, in order, and what they left
pub record Run : Type 0 where
  pub moments : List Moment
  pub last : State

-- "Each gets the buffers as the last one left them."
abbrev pub next : Geometry → Call → State → State
next g c s =
    let y = step g c s.buffers in
    record { buffers = y.leaves; register = feed c y.gives s.register }

unfoldable pub run : Geometry → List Call → State → Run
run g [] s = record { moments = []; last = s }
run g (c ∷ cs) s =
    let rest = run g cs (next g c s) in
    record { moments = record { call = c; before = s; answer = (step g c s.buffers).gives } ∷ rest.moments; last = rest.last }

-- "The list starts as an accepted mount leaves the buffers": v is the server volume as mounted, what the server's bytes then hold
pub record Mounted (g : Geometry) (s : Buffers) (v : Volume) : Type 0 where
  pub accepted : (mount g s).gives.returned ≡ 0
  pub server : decode_volume g.objects g.blocks (mount g s).leaves.server ≡ Some v

abbrev pub play : Geometry → Buffers → Volume → List Call → Run
play g s v cs = run g cs (record { buffers = (mount g s).leaves; register = begun v })

-- every call of a run is accepted
abbrev pub AllAccepted : Run → Type 0
AllAccepted r = (m : Moment) → Memᴰ m r.moments → m.answer.returned ≡ 0

-- pushes of the members that wait, in issue order, and then a cut; a set is told by the members' numbers
abbrev pub instead : (ℕ → Bool) → Register → List Call
instead set r = map (λ (q : Record). push q.sequence) (chosen (λ a. set a.recorded.sequence && is_waiting a) r.operations) ++ (cut ∷ [])

-- ""Could have been sent": in place of the list's last call, pushes of the members unsent before it, in issue order, and then a cut
-- would all be accepted and leave just that set sent": the state is the one before the last call
pub record CouldHaveBeenSent (g : Geometry) (s : State) (set : ℕ → Bool) : Type 0 where
  pub accepted : AllAccepted (run g (instead set s.register) s)
  pub just : (a : Acknowledged) → Is a (run g (instead set s.register) s).last.register → is_sent a ≡ set a.recorded.sequence
