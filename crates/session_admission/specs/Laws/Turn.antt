-- What a call on buffers that passed comes to, from its table of refusals. Assumes nothing.
use Rattle.std.specs.Prelude.{ℕ, ◌≡◌, List, [], true}
use Rattle.std.proofs.Common.{sym, ◌∙◌}
use Rattle.session.specs.Call.{Call, Answer, geometry, buffers, refusal}
use Rattle.session.specs.Refusal.{Row}
use Rattle.session.specs.Model.{unless, told_of}
use Rattle.session.specs.Effect.{perform_all, accepted_effects, refused_effects}
use Rattle.session.specs.Step.{answer_of, encode_model, turned_down, step}
use Rattle.session.specs.Code.Table.{first_number, rising}
use Rattle.session.proofs.Laws.Table.{first-lowest, unless-refuses, unless-passes}
use Rattle.session.proofs.Laws.Outcome.{accepted-outcome, refused-outcome}
use Rattle.session_admission.specs.Code.Admitted.{model_in, Admitted}

module _ (n b m : ℕ) (s v l : List ℕ) (h : Admitted n b m s v l) (c : Call) (rows : List Row) (a : Answer)
    (is : answer_of (geometry n b m) c (model_in n b m s v l) ≡ unless c rows a) (rise : rising 0 rows ≡ true) where
  -- The first row that holds refuses the call, and nothing changes.
  pub refused : (k : ℕ) → k ≡ first_number rows → (k ≡ 0 → ⊥) → refused_effects c (refusal k c) (told_of (model_in n b m s v l)) ≡ []
      → step (geometry n b m) c (buffers s v l) ≡ turned_down k c (buffers s v l)
  refused k e z f =
      refused-outcome (geometry n b m) c (buffers s v l) (model_in n b m s v l) k h.holds
      (is ∙ unless-refuses c rows a k (first-lowest 0 rows rise ∙ sym e) z) z f

  -- Where none holds the call is answered.
  pub answered : 0 ≡ first_number rows → answer_of (geometry n b m) c (model_in n b m s v l) ≡ a
  answered e = is ∙ unless-passes c rows a (first-lowest 0 rows rise ∙ sym e)

  -- Answered with 0 it leaves what its effects leave.
  pub accepted : 0 ≡ first_number rows → a.returned ≡ 0
      → step (geometry n b m) c (buffers s v l)
      ≡ record { gives = a; leaves = encode_model (geometry n b m) (perform_all (accepted_effects c (told_of (model_in n b m s v l))) (model_in n b m s v l)) }
  accepted e z = accepted-outcome (geometry n b m) c (buffers s v l) (model_in n b m s v l) a h.holds (answered e) z
