-- What renew answers and leaves, from what was found. Assumes nothing.
use Rattle.std.specs.Prelude.{ℕ, ◌≡◌, true, false, not}
use Rattle.std.proofs.Common.{arith, ◌∙◌}
use Rattle.std.proofs.Math.Path.{refl, sym, ap}
use mathlib.Core.List.{List, [], ◌∷◌}
use Rattle.std.specs.Prelude.{Option, None, Some}
use Rattle.returned.specs.Returned
use Rattle.record.specs.Operation.{Record}
use Rattle.log_rules.specs.Stored.{encode_log, read_log}
use Rattle.log_rules.specs.Change.{is_loss_of, earliest, renewed}
use Rattle.log_rules.specs.Code.Slots.{slot_at}
use Rattle.log_find.specs.Code.Found.{FoundBy}
use Rattle.log_find.specs.Laws.Found.{found-earliest, found_nothing}
use Rattle.session.specs.Call.{geometry, buffers, renew, answer}
use Rattle.session.specs.Refusal.{Row, row}
use Rattle.session.specs.Model.{unless, bad_program}
use Rattle.session.specs.Send.{of_record, renew_of}
use Rattle.session.specs.Effect.{perform, perform_all}
use Rattle.session.specs.Step.{answer_of, given, turned_down, step}
use Rattle.session.specs.Code.Table.{first_number}
use Rattle.session_admission.specs.Code.Admitted.{model_in, Admitted}
use Rattle.session_admission.specs.Laws.Turn.{refused, accepted}
use Rattle.session_losses.specs.Laws.Number.{number-first, number_behind}

-- "renew before the program took all losses of its own operations"
abbrev renew_rows : Option Record → List Row
renew_rows f = row Returned.losses_left (not (of_record true f (λ r. false))) ∷ []

module _ (n b m p : ℕ) (s v l : List ℕ) (h : Admitted n b m s v l) where
  answers : (f : Option Record) → earliest (is_loss_of p) (read_log m l).slots ≡ f
      → answer_of (geometry n b m) (renew p) (model_in n b m s v l) ≡ unless (renew p) (bad_program p ∷ renew_rows f) (answer 0 [] [])
  unfolding answer_of renew_of
  answers f e = ap (λ (y : Option Record). unless (renew p) (bad_program p ∷ renew_rows y) (answer 0 [] [])) e

  pub renew-bad : (k : ℕ) → k ≡ first_number (bad_program p ∷ []) → (k ≡ 0 → ⊥) → step (geometry n b m) (renew p) (buffers s v l) ≡ turned_down k (renew p) (buffers s v l)
  renew-bad k e z =
      let rows = renew_rows (earliest (is_loss_of p) (read_log m l).slots) in
      refused n b m s v l h (renew p) (bad_program p ∷ rows) (answer 0 [] []) (answers _ refl) refl k (number-first p rows k e z) z refl

  module _ (e : 0 ≡ first_number (bad_program p ∷ [])) where
    -- "18 Losses left".
    pub renew-left : (i : ℕ) → FoundBy (is_loss_of p) (read_log m l).slots (Some i) → given 18 [] [] (buffers s v l) ≡ step (geometry n b m) (renew p) (buffers s v l)
    unfolding first_number
    renew-left i f =
        let r = (slot_at (read_log m l).slots i).recorded in
        sym (refused n b m s v l h (renew p) (bad_program p ∷ renew_rows (Some r)) (answer 0 [] []) (answers (Some r) (found-earliest (is_loss_of p) (read_log m l).slots i f)) refl 18
        (number_behind p (renew_rows (Some r)) e 18 refl) (λ z. omega arith) refl)

    -- "Renew clears its mark."
    pub renew-clears : FoundBy (is_loss_of p) (read_log m l).slots None → (after : List ℕ) → after ≡ encode_log m (renewed p (read_log m l))
        → given 0 [] [] (buffers s v after) ≡ step (geometry n b m) (renew p) (buffers s v l)
    unfolding first_number perform_all perform
    renew-clears f after g =
        sym (accepted n b m s v l h (renew p) (bad_program p ∷ renew_rows None) (answer 0 [] []) (answers None (found_nothing (is_loss_of p) (read_log m l).slots f)) refl
        (number_behind p (renew_rows None) e 0 refl) refl
        ∙ (λ i. record { gives = answer 0 [] []; leaves = buffers (h.server.stored i) (h.view.stored i) (sym g i) }))
