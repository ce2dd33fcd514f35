-- A refusal's number is never 0, so that the number of a result tells whether it is one.
use Rattle.std.specs.Prelude.{ℕ, ◌≡◌, Result, Ok, Err}
use Rattle.std.proofs.Common.{arith, refl, ap, sym, ◌∙◌}
use Rattle.returned.specs.declared.Refusal.{Refusal}
use Rattle.returned.specs.declared.Refusal.TheVariants.{WrongBuffer, Damaged, BadProgram, Marked, BadName, LongName, BadNumber, NoObject, WrongKind, Taken, NotEmpty, BadRange, LogFull, Spent, NotFirst, NotFound, LinkLost, LossesLeft, ShortBuffer, BadRecord}
use Rattle.returned.specs.Refusal.{refusal_number, number_of}

pub refusal-some : (f : Refusal) → refusal_number f ≡ 0 → ⊥
refusal-some WrongBuffer e = omega arith
refusal-some Damaged e = omega arith
refusal-some BadProgram e = omega arith
refusal-some Marked e = omega arith
refusal-some BadName e = omega arith
refusal-some LongName e = omega arith
refusal-some BadNumber e = omega arith
refusal-some NoObject e = omega arith
refusal-some WrongKind e = omega arith
refusal-some Taken e = omega arith
refusal-some NotEmpty e = omega arith
refusal-some BadRange e = omega arith
refusal-some LogFull e = omega arith
refusal-some Spent e = omega arith
refusal-some NotFirst e = omega arith
refusal-some NotFound e = omega arith
refusal-some LinkLost e = omega arith
refusal-some LossesLeft e = omega arith
refusal-some ShortBuffer e = omega arith
refusal-some BadRecord e = omega arith

module _ {A : Type 0} where
  -- A refused result has the refusal's number, which is not 0.
  pub refused-number : {q : Result A Refusal} {f : Refusal} → q ≡ Err f → number_of q ≡ refusal_number f
  refused-number e = ap number_of e

  pub refused-some : {q : Result A Refusal} {f : Refusal} → q ≡ Err f → number_of q ≡ 0 → ⊥
  refused-some {q} {f} e z = refusal-some f (sym (ap {B = ℕ} number_of e) ∙ z)

  -- A result that is no refusal has the number 0.
  pub accepted-number : {q : Result A Refusal} {x : A} → q ≡ Ok x → number_of q ≡ 0
  accepted-number e = ap number_of e

  pub not-refused : (q : Result A Refusal) → ((f : Refusal) → q ≡ Err f → ⊥) → number_of q ≡ 0
  not-refused (Ok x) n = refl
  not-refused (Err f) n = absurd (n f refl)

  -- A refusal is no value, and a result with the number 0 has one.
  pub refused-none : {C : Type 0} (f : Refusal) (x : A) → ◌≡◌ {A = Result A Refusal} (Err f) (Ok x) → C
  refused-none f x e = absurd (refusal-some f (ap {B = ℕ} number_of e))

  pub value-there : (q : Result A Refusal) → number_of q ≡ 0 → (x : A) × (q ≡ Ok x)
  value-there (Ok x) z = (x, refl)
  value-there (Err f) z = absurd (refusal-some f z)
