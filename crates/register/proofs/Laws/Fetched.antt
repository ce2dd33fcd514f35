-- What stands between the register, the log and the losses that programs have taken so far.
use Rattle.std.specs.Prelude.{ℕ, ◌≡◌, List, [], ◌∷◌, ◌++◌, true, false, cond, eqb}
use Rattle.std.specs.Prelude.{Option, None, Some}
use Rattle.record.specs.Operation.{Record}
use Rattle.log_rules.specs.Change.{losses_of, earliest, is_loss_of}
use Rattle.log_rules.specs.Slot.{Slot}
use Rattle.session.specs.Model.{Model}
use Rattle.session.specs.Effect.{Effect, note, issue, send, discard, take, renew, perform}
use Rattle.register.specs.Register.{Acknowledged, is_waiting, is_lost, chosen}
use Rattle.register.specs.Takes.{lost_by}
use Rattle.register.proofs.Laws.Fate.{Among}

-- in issue order, none is lost behind one that waits
abbrev pub LostFirst : List Acknowledged → Type 0
LostFirst [] = Unit {0}
LostFirst (a ∷ l) = (is_waiting a ≡ true → (b : Acknowledged) → Among b l → is_lost b ≡ false) × LostFirst l

-- each program's lost operations in issue order are those that its takes have given, and then its losses in the log
pub record Fetched (ops : List Acknowledged) (slots : List Slot) (done : ℕ → List Record) : Type 0 where
  pub order : LostFirst ops
  pub losses : (p : ℕ) → chosen (lost_by p) ops ≡ done p ++ losses_of p slots

abbrev pub one_or_none : Option Record → List Record
one_or_none None = []
one_or_none (Some r) = r ∷ []

-- what an effect fetches of a program's losses: the earliest, where it is a take of that program
abbrev pub fetches : ℕ → Model → Effect → List Record
fetches p x (note q ops) = []
fetches p x (issue q o) = []
fetches p x (send n) = []
fetches p x discard = []
fetches p x (take q) = cond (eqb q p) (one_or_none (earliest (is_loss_of q) x.log.slots)) []
fetches p x (renew q) = []

-- and what effects fetch one after the other
unfoldable pub fetched_in : ℕ → Model → List Effect → List Record
fetched_in p x [] = []
fetched_in p x (e ∷ es) = fetches p x e ++ fetched_in p (perform e x) es
