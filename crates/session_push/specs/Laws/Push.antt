-- What push answers and leaves, from what was found and sent. Assumes nothing.
use Rattle.std.specs.Prelude.{ℕ, ◌≡◌, Bool, false, cond}
use Rattle.std.proofs.Common.{arith, ◌∙◌}
use Rattle.std.proofs.Math.Path.{refl, sym, ap}
use mathlib.Core.List.{List, []}
use Rattle.std.proofs.Math.Bool.{true}
use Rattle.std.specs.Prelude.{Option, None, Some}
use Rattle.returned.specs.Returned
use Rattle.record.specs.Operation.{Record}
use Rattle.volume_tree.specs.Stored.{encode_volume, read_volume}
use Rattle.volume_apply.specs.Apply.{applies, apply}
use Rattle.log_rules.specs.Slot.{Slot}
use Rattle.log_rules.specs.Stored.{encode_log, read_log}
use Rattle.log_rules.specs.Order.{preceded}
use Rattle.log_rules.specs.Change.{sent, is_sequence, waiting_of, waiting_at}
use Rattle.log_rules.specs.Code.Slots.{slot_at}
use Rattle.log_find.specs.Code.Found.{FoundBy}
use Rattle.log_find.specs.Laws.Found.{found-earliest, found_nothing}
use Rattle.log_push.specs.Code.Pushed.{Pushed}
use Rattle.session.specs.Call.{geometry, buffers, push, answer}
use Rattle.session.specs.Model.{Model, unless}
use Rattle.session.specs.Send.{push_of}
use Rattle.session.specs.Effect.{perform_all}
use Rattle.session.proofs.Laws.Effect.{send-is}
use Rattle.session.specs.Step.{answer_of, given, encode_model, step}
use Rattle.session.specs.Code.Table.{first_number}
use Rattle.session.proofs.Laws.Answer.{push_rows, push_answer}
use Rattle.session.proofs.Laws.Outcome.{accepted-outcome, refused-outcome}
use Rattle.session_admission.specs.Code.Admitted.{model_in, Admitted}
use Rattle.session_admission.specs.Laws.Turn.{refused, answered}

module _ (n b m q : ℕ) (s v l : List ℕ) (h : Admitted n b m s v l) where
  abbrev slots : List Slot
  slots = (read_log m l).slots

  -- The table and the answer, for what was found in the slots.
  answers : (f : Option Record) → waiting_at q (read_log m l) ≡ f
      → answer_of (geometry n b m) (push q) (model_in n b m s v l) ≡ unless (push q) (push_rows (waiting_of slots) f) (push_answer (read_volume n b s) f)
  unfolding answer_of push_of
  answers f e = ap (λ (y : Option Record). unless (push q) (push_rows (waiting_of slots) y) (push_answer (read_volume n b s) y)) e

  -- "16 None: sequence not waiting".
  pub push-none : FoundBy (is_sequence q) (read_log m l).slots None → given 16 [] [] (buffers s v l) ≡ step (geometry n b m) (push q) (buffers s v l)
  unfolding first_number waiting_at
  push-none f =
      sym (refused n b m s v l h (push q) (push_rows (waiting_of slots) None) (push_answer (read_volume n b s) None)
      (answers None (found_nothing (is_sequence q) slots f)) refl 16 refl (λ z. omega arith) refl)

  module _ (i : ℕ) (f : FoundBy (is_sequence q) (read_log m l).slots (Some i)) where
    abbrev record-at : Record
    record-at = (slot_at slots i).recorded

    found : waiting_at q (read_log m l) ≡ Some record-at
    unfolding waiting_at
    found = found-earliest (is_sequence q) slots i f

    -- "15 Not first: a predecessor waits".
    pub push-behind : preceded (waiting_of (read_log m l).slots) (slot_at (read_log m l).slots i).recorded ≡ true
        → given 15 [] [] (buffers s v l) ≡ step (geometry n b m) (push q) (buffers s v l)
    unfolding first_number
    push-behind e =
        sym (refused n b m s v l h (push q) (push_rows (waiting_of slots) (Some record-at)) (push_answer (read_volume n b s) (Some record-at))
        (answers (Some record-at) found) refl 15 (rw e) (λ z. omega arith) refl)

    module _ (first : preceded (waiting_of (read_log m l).slots) (slot_at (read_log m l).slots i).recorded ≡ false) where
      goes_on : answer_of (geometry n b m) (push q) (model_in n b m s v l) ≡ push_answer (read_volume n b s) (Some record-at)
      unfolding first_number
      goes_on =
          answered n b m s v l h (push q) (push_rows (waiting_of slots) (Some record-at)) (push_answer (read_volume n b s) (Some record-at))
          (answers (Some record-at) found) refl (rw first)

      -- "Push sends the waiting operation of a given sequence number and frees its slot."
      pub push-sends : (s' l' : List ℕ) → Pushed b m (read_volume n b s) (read_log m l) i l l' s' true
          → given 0 [] [] (buffers s' v l') ≡ step (geometry n b m) (push q) (buffers s v l)
      unfolding perform_all
      push-sends s' l' p =
          let t : applies (read_volume n b s) record-at.operation ≡ true = sym p.server.answer in
          let e : s' ≡ encode_volume b (apply (read_volume n b s) record-at.operation) = rw t at p.server.server in
          let g : l' ≡ encode_log m (sent record-at.sequence (read_log m l)) = rw t at p.log in
          sym (accepted-outcome (geometry n b m) (push q) (buffers s v l) (model_in n b m s v l) (answer 0 [] []) h.holds
          (goes_on ∙ ap (λ (y : Bool). answer (cond y Returned.accepted Returned.damaged) [] []) t) refl
          ∙ ap (λ (y : Model). record { gives = answer 0 [] []; leaves = encode_model (geometry n b m) y }) (send-is q (model_in n b m s v l) record-at found)
          ∙ (λ j. record { gives = answer 0 [] []; leaves = buffers (sym e j) (h.view.stored j) (sym g j) }))

      -- "the second sense of 2 comes last", and changes nothing.
      pub push-fails : (s' l' : List ℕ) → Pushed b m (read_volume n b s) (read_log m l) i l l' s' false
          → given 2 [] [] (buffers s' v l') ≡ step (geometry n b m) (push q) (buffers s v l)
      push-fails s' l' p =
          let t : applies (read_volume n b s) record-at.operation ≡ false = sym p.server.answer in
          let e : s' ≡ s = (rw t at p.server.server) ∙ h.server.stored in
          let g : l' ≡ l = rw t at p.log in
          (λ j. given 2 [] [] (buffers (e j) v (g j)))
          ∙ sym (refused-outcome (geometry n b m) (push q) (buffers s v l) (model_in n b m s v l) 2 h.holds
          (goes_on ∙ ap (λ (y : Bool). answer (cond y Returned.accepted Returned.damaged) [] []) t) (λ z. omega arith) refl)
