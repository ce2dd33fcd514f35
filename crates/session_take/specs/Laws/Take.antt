-- What take answers and leaves, from what was found and written. Assumes nothing.
use Rattle.std.specs.Prelude.{ℕ, ◌<◌, ◌≤◌, ◌≡◌, List, [], ◌∷◌, true, false, length, ltb}
use Rattle.std.proofs.Common.{arith, ◌∙◌, lt-ltb, le-ltb}
use Rattle.std.proofs.Math.Path.{refl, sym, ap}
use Rattle.std.specs.Prelude.{Option, None, Some}
use Rattle.returned.specs.Returned
use Rattle.buffer.specs.Patch.{patch}
use Rattle.record.specs.Operation.{Record}
use Rattle.log_rules.specs.Stored.{encode_log, read_log}
use Rattle.log_rules.specs.Change.{is_loss_of, earliest}
use Rattle.log_rules.specs.Code.Slots.{slot_at}
use Rattle.log_find.specs.Code.Found.{FoundBy}
use Rattle.log_find.specs.Laws.Found.{found_nothing}
use Rattle.log_take.specs.Code.Taken.{Written, freed_at}
use Rattle.log_take.specs.Laws.Take.{found-taken}
use Rattle.session.specs.Call.{geometry, buffers, take, Answer, answer}
use Rattle.session.specs.Refusal.{Row, row}
use Rattle.session.specs.Model.{unless, bad_program}
use Rattle.session.specs.Send.{of_record, loss_bytes, take_of}
use Rattle.session.specs.Effect.{perform, perform_all}
use Rattle.session.specs.Step.{answer_of, given, turned_down, step}
use Rattle.session.specs.Code.Table.{first_number}
use Rattle.session_admission.specs.Code.Admitted.{model_in, Admitted}
use Rattle.session_admission.specs.Laws.Turn.{refused, accepted}
use Rattle.session_losses.specs.Laws.Number.{number-first, number_behind}

-- "no loss to take"; "take below 1,040 bytes"
abbrev take_rows : List ℕ → Option Record → List Row
take_rows own f = row Returned.none (of_record true f (λ r. false)) ∷ row Returned.short_buffer (ltb (length own) 1040) ∷ []

-- "List and take also fill their buffer from the start and leave the rest"
abbrev take_answer : List ℕ → Option Record → Answer
take_answer own f = answer Returned.accepted (length (loss_bytes f) ∷ []) (patch own 0 (loss_bytes f))

module _ (n b m p : ℕ) (s v l own : List ℕ) (h : Admitted n b m s v l) where
  answers : (f : Option Record) → earliest (is_loss_of p) (read_log m l).slots ≡ f
      → answer_of (geometry n b m) (take p own) (model_in n b m s v l) ≡ unless (take p own) (bad_program p ∷ take_rows own f) (take_answer own f)
  unfolding answer_of take_of
  answers f e = ap (λ (y : Option Record). unless (take p own) (bad_program p ∷ take_rows own y) (take_answer own y)) e

  pub take-bad : (k : ℕ) → k ≡ first_number (bad_program p ∷ []) → (k ≡ 0 → ⊥)
      → step (geometry n b m) (take p own) (buffers s v l) ≡ turned_down k (take p own) (buffers s v l)
  take-bad k e z =
      let f = earliest (is_loss_of p) (read_log m l).slots in
      refused n b m s v l h (take p own) (bad_program p ∷ take_rows own f) (take_answer own f) (answers f refl) refl k (number-first p (take_rows own f) k e z) z refl

  module _ (e : 0 ≡ first_number (bad_program p ∷ [])) where
    -- "16 None: .. no loss to take".
    pub take_none : FoundBy (is_loss_of p) (read_log m l).slots None → given 16 (0 ∷ []) own (buffers s v l) ≡ step (geometry n b m) (take p own) (buffers s v l)
    unfolding first_number
    take_none f =
        sym (refused n b m s v l h (take p own) (bad_program p ∷ take_rows own None) (take_answer own None) (answers None (found_nothing (is_loss_of p) (read_log m l).slots f)) refl 16
        (number_behind p (take_rows own None) e 16 refl) (λ z. omega arith) refl)

    module _ (i : ℕ) (f : FoundBy (is_loss_of p) (read_log m l).slots (Some i)) where
      abbrev loss : Record
      loss = (slot_at (read_log m l).slots i).recorded

      -- "19 Short buffer: .. take below 1,040 bytes".
      pub take_short : length own < 1040 → given 19 (0 ∷ []) own (buffers s v l) ≡ step (geometry n b m) (take p own) (buffers s v l)
      unfolding first_number
      take_short lt =
          sym (refused n b m s v l h (take p own) (bad_program p ∷ take_rows own (Some loss)) (take_answer own (Some loss)) (answers (Some loss) (found-taken p i (read_log m l) f).1) refl 19
          (number_behind p (take_rows own (Some loss)) e 19 (rw (lt-ltb (length own) 1040 lt))) (λ z. omega arith) refl)

      -- "Take writes the earliest loss of a program and frees its slot."
      pub take-writes : 1040 ≤ length own → (own' after : List ℕ) (len : ℕ) → Written (slot_at (read_log m l).slots i).recorded own own' len
          → after ≡ encode_log m (freed_at i (read_log m l)) → given 0 (len ∷ []) own' (buffers s v after) ≡ step (geometry n b m) (take p own) (buffers s v l)
      unfolding first_number perform_all perform
      take-writes le own' after len w g =
          let freed = g ∙ ap (encode_log m) (found-taken p i (read_log m l) f).0 in
          sym (accepted n b m s v l h (take p own) (bad_program p ∷ take_rows own (Some loss)) (take_answer own (Some loss)) (answers (Some loss) (found-taken p i (read_log m l) f).1) refl
          (number_behind p (take_rows own (Some loss)) e 0 (rw (le-ltb (length own) 1040 le))) refl
          ∙ (λ j. record { gives = answer 0 (sym w.long j ∷ []) (sym w.placed j); leaves = buffers (h.server.stored j) (h.view.stored j) (sym freed j) }))
