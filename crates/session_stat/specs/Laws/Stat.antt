-- Stat asks of the view, and the object of an accepted one is below 256. Assumes nothing.
use Rattle.std.specs.Prelude.{ℕ, ◌<◌, ◌≡◌, refl, List, [], ◌∷◌, Result, Err}
use Rattle.std.proofs.Common.{arith, sym, ap, ◌∙◌}
use Rattle.volume_tree.specs.Volume.{Volume, entry_at}
use Rattle.volume_tree.specs.Stored.{read_volume}
use Rattle.volume_questions.specs.declared.object.ObjectKind.{ObjectKind}
use Rattle.volume_questions.specs.declared.object.ObjectError.{ObjectError}
use Rattle.volume_questions.specs.declared.object.ObjectError.TheVariants.{BadNumber, NoObject}
use Rattle.volume_questions.specs.Answer.{object_number, stat_of, stat_answer, stat_number, stat_results}
use Rattle.session.specs.Call.{Answer, answer}
use Rattle.session.specs.Call
use Rattle.session.specs.Step.{answer_of}
use Rattle.session_questions.specs.Code.Asked.{MayAsk}
use Rattle.session_questions.specs.Laws.Noted.{Asks}
use Rattle.session_questions.specs.Laws.Named.{named-few}

-- what stat answers
abbrev pub stat_gives : Volume → ℕ → Answer
stat_gives v o = answer (stat_number (stat_answer v o)) (stat_results (stat_answer v o)) []

-- It is refused for its program, or answers of the view.
pub stat-asks : {n b m p : ℕ} {s v l : List ℕ} {o : ℕ} → Asks n b m p s v l (Call.stat p o) (stat_gives (read_volume n b v) o)
unfolding answer_of
stat-asks = record { is = refl; quiet = λ x. refl }

-- A refused stat has the number of its object's refusal: "The other results of a refusal are 0."
pub stat-refused : (e : ObjectError) → (stat_number (Err e) ≡ object_number (Err e)) × (stat_results (Err e) ≡ 0 ∷ 0 ∷ 0 ∷ [])
stat-refused BadNumber = (refl, refl)
stat-refused NoObject = (refl, refl)

-- The object of an accepted stat is below 256.
pub stat-few : {n b m p : ℕ} {s v l : List ℕ} → MayAsk n b m p s v l → (o : ℕ) → stat_number (stat_answer (read_volume n b v) o) ≡ 0 → o < 256
unfolding stat_answer
stat-few {n} {b} {v = v} h o e =
    let w = read_volume n b v in
    named-few h o (λ f. let z : ◌≡◌ {A = ℕ} 7 0 = sym (ap (λ (x : Result ObjectKind ObjectError). stat_number (stat_of x (entry_at w o))) f) ∙ e in omega arith)
