-- What cut leaves in the buffers. Assumes nothing.
use Rattle.std.specs.Prelude.{ℕ, ◌≡◌, refl, List, []}
use Rattle.std.proofs.Common.{sym, ◌∙◌}
use Rattle.log_rules.specs.Stored.{encode_log, read_log}
use Rattle.log_rules.specs.Change
use Rattle.session.specs.Call.{geometry, buffers, answer, cut}
use Rattle.session.specs.Effect.{perform, perform_all}
use Rattle.session.specs.Step.{answer_of, given, step}
use Rattle.session.proofs.Laws.Outcome.{accepted-outcome}
use Rattle.session_admission.specs.Code.Admitted.{model_in, Admitted}

-- "Cut turns all waiting ones into lost ones, marks the dependents, and copies the server to the view."
pub cut_left : (n b m : ℕ) (s v l v' l' : List ℕ) → Admitted n b m s v l → v' ≡ s → l' ≡ encode_log m (Change.discard (read_log m l))
    → given 0 [] [] (buffers s v' l') ≡ step (geometry n b m) cut (buffers s v l)
unfolding perform_all perform answer_of
cut_left n b m s v l v' l' h f e =
    sym (accepted-outcome (geometry n b m) cut (buffers s v l) (model_in n b m s v l) (answer 0 [] []) h.holds refl refl
    ∙ (λ i. record { gives = answer 0 [] []; leaves = buffers (h.server.stored i) ((h.server.stored ∙ sym f) i) (sym e i) }))
