-- What a host in C sees of its calls, and that each is what the call's definition says.
use Rattle.std.specs.Prelude.{◌≡◌, List, [], ◌∷◌, ℕ, drop}
use Rattle.record.specs.Decode.{decode_record}
use Rattle.session.specs.Call.{Geometry, Buffers, Call, Answer}
use Rattle.session.specs.Step.{given, step, mount}
use Rattle.writebehind.specs.declared.loss.Loss.{Loss}
use Rattle.writebehind.specs.Loss.{loss_of}

-- one call: n, b and m, the three buffers and the call that its arguments are; its answer with its own buffer as it is left, and the three
-- buffers as it leaves them
pub record Observed : Type 0 where
  pub geometry : Geometry
  pub before : Buffers
  pub call : Call
  pub answer : Answer
  pub after : Buffers

-- what was seen is what the definition of the call gives
abbrev pub Right : Observed → Type 0
Right o = record { gives = o.answer; leaves = o.after } ≡ step o.geometry o.call o.before

abbrev pub AllRight : List Observed → Type 0
AllRight [] = Unit {0}
AllRight (o ∷ os) = Right o × AllRight os

-- the host's part: it gives each call the same n, b and m, and the buffers as the last one left them
abbrev pub HandedOn : Geometry → Buffers → List Observed → Type 0
HandedOn g s [] = Unit {0}
HandedOn g s (o ∷ os) = (o.geometry ≡ g) × (o.before ≡ s) × HandedOn g o.after os

-- a call of `wb_mount`, which is no call of a list
pub record Mounting : Type 0 where
  pub geometry : Geometry
  pub before : Buffers
  pub returned : ℕ
  pub after : Buffers

abbrev pub RightMount : Mounting → Type 0
RightMount m = given m.returned [] [] m.after ≡ mount m.geometry m.before

-- a call of `wb_record`
pub record Reading : Type 0 where
  pub place : ℕ
  pub bytes : List ℕ
  pub told : Loss

abbrev pub RightReading : Reading → Type 0
RightReading r = r.told ≡ loss_of r.place (decode_record (drop r.place r.bytes))
