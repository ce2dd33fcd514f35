-- The table of a call that asks for its program's number first and never for its mark: "Take and renew skip 4". Assumes nothing.
use Rattle.std.specs.Prelude.{ℕ, ◌<◌, ◌≡◌, refl, List, [], ◌∷◌}
use Rattle.std.proofs.Common.{sym, ◌∙◌, ltb-true}
use Rattle.std.proofs.lemmas.Bool.{not-false}
use Rattle.session.specs.Refusal.{Row}
use Rattle.session.specs.Model.{bad_program}
use Rattle.session.specs.Code.Table.{first_number}
use Rattle.session.proofs.Laws.Table.{first-lowest, first-left, first-right}
use Rattle.session.proofs.Laws.Refusal.{passed}

-- A program that passed is one of the 32.
pub number_small : (p : ℕ) → 0 ≡ first_number (bad_program p ∷ []) → p < 32
number_small p e = ltb-true p 32 (not-false _ (passed (bad_program p ∷ []) refl (first-lowest 0 (bad_program p ∷ []) refl ∙ sym e)).0)

module _ (p : ℕ) (rows : List Row) where
  -- "3 Bad program" comes before the other rows.
  pub number-first : (k : ℕ) → k ≡ first_number (bad_program p ∷ []) → (k ≡ 0 → ⊥) → k ≡ first_number (bad_program p ∷ rows)
  number-first k e z = sym (first-left k (bad_program p ∷ []) rows (sym e) z)

  -- Behind a program that passed they decide.
  pub number_behind : 0 ≡ first_number (bad_program p ∷ []) → (k : ℕ) → k ≡ first_number rows → k ≡ first_number (bad_program p ∷ rows)
  number_behind e k f = f ∙ sym (first-right 0 (bad_program p ∷ []) rows refl (sym e))
