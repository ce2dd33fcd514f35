-- Calls of a host in C: what it sees of each entry that it calls, and that this is what the entry's contract promises.
use Rattle.std.specs.Prelude.{◌≡◌, List, [], ◌∷◌, map}
use Rattle.session.specs.Call.{Geometry, Buffers, Call, Answer}
use Rattle.session.specs.Step.{step}
use Rattle.register.specs.Run.{State, Moment}

-- one call of an entry: its arguments, its answer with its own buffer as it is left, and the three buffers as it leaves them
pub record Seen : Type 0 where
  pub call : Call
  pub answer : Answer
  pub after : Buffers

-- "Each gets the buffers as the last one left them": the contract of each entry, an equation with `step`, on the buffers that it got
abbrev pub Promised : Geometry → Buffers → List Seen → Type 0
Promised g s [] = Unit {0}
Promised g s (x ∷ xs) = (record { gives = x.answer; leaves = x.after } ≡ step g x.call s) × Promised g x.after xs

-- the calls of a host, in order
abbrev pub calls_of : List Seen → List Call
calls_of xs = map (λ (x : Seen). x.call) xs

-- a run has the calls, the buffers and the answers that a host saw, one by one, and ends with the same buffers
abbrev pub Shows : List Moment → State → Buffers → List Seen → Type 0
Shows [] l s [] = l.buffers ≡ s
Shows [] l s (x ∷ xs) = ⊥
Shows (m ∷ ms) l s [] = ⊥
Shows (m ∷ ms) l s (x ∷ xs) = (m.call ≡ x.call) × (m.before.buffers ≡ s) × (m.answer ≡ x.answer) × Shows ms l x.after xs
