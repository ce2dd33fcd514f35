-- Operations that one call issues, a list of any length: where there is room for all, each may be issued in its turn.
use Rattle.std.specs.Prelude.{ℕ, suc, ◌+◌, ◌≤◌, ◌<◌, ◌≡◌, refl, List, [], ◌∷◌, true, length}
use Rattle.std.proofs.Common.{arith, sym, subst, length-append}
use Rattle.record.specs.Operation.{Operation, operands}
use Rattle.volume_tree.specs.Volume.{Volume}
use Rattle.volume_apply.specs.Apply.{applies, apply}
use Rattle.log_rules.specs.Change
use Rattle.log_rules.proofs.Laws.Change.{noted-length}
use Rattle.session.specs.Call.{Geometry}
use Rattle.session.specs.Model.{Model}
use Rattle.session.specs.Effect.{note, issue, perform, issuing}
use Rattle.session.proofs.Laws.Issue.{Recordable}
use Rattle.session.proofs.Laws.Possible.{Sound, Issuable, AllPossible}
use Rattle.session.proofs.Laws.Effect.{perform-sound}

-- each applies to the view as those before it leave it, and can be recorded
abbrev pub FitInTurn : ℕ → ℕ → Volume → List Operation → Type 0
FitInTurn n b v [] = Unit {0}
FitInTurn n b v (o ∷ os) = (applies v o ≡ true) × Recordable n b o × FitInTurn n b (apply v o) os

-- what an accepted change has: a program, operations that fit, and a slot and a number for each
pub record Issuing (g : Geometry) (x : Model) (p : ℕ) (os : List Operation) : Type 0 where
  pub program : p < 32
  pub fit : FitInTurn g.objects g.blocks x.view os
  pub room : length x.log.slots + length os ≤ g.capacity
  pub number : x.log.head.next + length os ≤ 4294967295

-- what a note and an issue leave of the view, the number of slots and the next number
note-issue : (p : ℕ) (o : Operation) (x : Model)
    → ((perform (issue p o) (perform (note p (operands o)) x)).view ≡ apply x.view o)
    × (length (perform (issue p o) (perform (note p (operands o)) x)).log.slots ≡ suc (length x.log.slots))
    × ((perform (issue p o) (perform (note p (operands o)) x)).log.head.next ≡ suc x.log.head.next)
unfolding perform Change.issue
note-issue p o x =
    let a = length-append (Change.note p (operands o) x.log).slots (Change.waiting_slot (record { sequence = x.log.head.next; program = p; operation = o }) ∷ []) in
    let b = noted-length p (operands o) x.log.slots in
    (refl, omega arith, omega arith)

-- a note changes none of what an issue asks
note-issuable : (g : Geometry) (p : ℕ) (o : Operation) (os : List Operation) (x : Model) → Issuing g x p (o ∷ os) → Issuable g (perform (note p (operands o)) x) p o
unfolding perform
note-issuable g p o os x i =
    let b = noted-length p (operands o) x.log.slots in
    let room = i.room in
    let number = i.number in
    record { program = i.program; fit = i.fit.0; recordable = i.fit.1; room = omega arith; number = omega arith }

-- after the first, what is left of them has what it needs
pub issuing-rest : (g : Geometry) (p : ℕ) (o : Operation) (os : List Operation) (x : Model) → Issuing g x p (o ∷ os) → Issuing g (perform (issue p o) (perform (note p (operands o)) x)) p os
issuing-rest g p o os x i =
    let n = note-issue p o x in
    let l = n.1 in
    let k = n.2 in
    let room = i.room in
    let number = i.number in
    record { program = i.program; fit = subst (λ (v : Volume). FitInTurn g.objects g.blocks v os) (sym n.0) i.fit.2; room = omega arith; number = omega arith }

-- what the first leaves is sound
pub issued-sound : (g : Geometry) (p : ℕ) (o : Operation) (os : List Operation) (x : Model) → Sound g x → Issuing g x p (o ∷ os)
    → Sound g (perform (issue p o) (perform (note p (operands o)) x))
issued-sound g p o os x s i =
    perform-sound g (perform (note p (operands o)) x) (issue p o) (perform-sound g x (note p (operands o)) s i.program) (note-issuable g p o os x i)

pub issuing-possible : (g : Geometry) (p : ℕ) (os : List Operation) (x : Model) → Issuing g x p os → AllPossible g x (issuing p os)
unfolding issuing
issuing-possible g p [] x i = tt
issuing-possible g p (o ∷ os) x i =
    (i.program, (note-issuable g p o os x i, issuing-possible g p os (perform (issue p o) (perform (note p (operands o)) x)) (issuing-rest g p o os x i)))
