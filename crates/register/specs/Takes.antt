-- What programs fetch of their losses over a list of calls, told from the calls' arguments and answers.
use Rattle.std.specs.Prelude.{ℕ, ◌+◌, ◌≡◌, Bool, ◌&&◌, cond, take, get_or, eqb}
use mathlib.Core.List.{List, [], ◌∷◌, ◌++◌, map, Memᴰ}
use Rattle.record.specs.Fields.{encode}
use Rattle.session.specs.Class
use Rattle.session.specs.Call.{Call, question, change, link, recovery, Answer}
use Rattle.register.specs.Register.{Register, Acknowledged, is_lost, chosen}
use Rattle.register.specs.Run.{Moment}

-- a lost operation of a program, and the records of all of them, in issue order
abbrev pub lost_by : ℕ → Acknowledged → Bool
lost_by p a = is_lost a && eqb a.recorded.program p

abbrev pub lost_records : ℕ → Register → List (List ℕ)
lost_records p r = map encode (chosen (lost_by p) r.operations)

-- what a call wrote of a program's losses, told from its arguments and its answer: the bytes that its take reports
abbrev pub wrote : ℕ → Call → Answer → List (List ℕ)
wrote p (question q s) a = []
wrote p (change q c) a = []
wrote p (link l) a = []
wrote p (recovery q (Class.take own)) a = cond (eqb a.returned 0 && eqb q p) (take (get_or a.results 0 0) a.buffer ∷ []) []
wrote p (recovery q Class.renew) a = []

-- what a program's accepted takes wrote over a list of calls, in order
unfoldable pub fetched_by : ℕ → List Moment → List (List ℕ)
fetched_by p [] = []
fetched_by p (m ∷ ms) = wrote p m.call m.answer ++ fetched_by p ms

-- how many takes of a program were accepted over a list of calls
abbrev pub took_one : ℕ → Call → Answer → ℕ
took_one p (question q s) a = 0
took_one p (change q c) a = 0
took_one p (link l) a = 0
took_one p (recovery q (Class.take own)) a = cond (eqb a.returned 0 && eqb q p) 1 0
took_one p (recovery q Class.renew) a = 0

unfoldable pub accepted_takes : ℕ → List Moment → ℕ
accepted_takes p [] = 0
accepted_takes p (m ∷ ms) = took_one p m.call m.answer + accepted_takes p ms

-- each differs from all behind it
abbrev pub Distinct : List (List ℕ) → Type 0
Distinct [] = Unit {0}
Distinct (b ∷ l) = ((c : List ℕ) → Memᴰ c l → b ≡ c → ⊥) × Distinct l
