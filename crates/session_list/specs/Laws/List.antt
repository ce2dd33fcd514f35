-- List asks of the view, and the object of an accepted one is below 256. Assumes nothing.
use Rattle.std.specs.Prelude.{ℕ, ◌<◌, ◌≡◌, refl, List, [], ◌∷◌, length, Result, Err}
use Rattle.std.proofs.Common.{arith, sym, ap, ◌∙◌}
use Rattle.volume_tree.specs.Volume.{Volume}
use Rattle.volume_tree.specs.Stored.{read_volume}
use Rattle.volume_questions.specs.declared.object.ObjectKind.{ObjectKind}
use Rattle.volume_questions.specs.declared.object.ObjectError.{ObjectError}
use Rattle.volume_questions.specs.declared.listing.ListError.{ListError}
use Rattle.volume_questions.specs.declared.listing.ListError.TheVariants.{BadNumber, NoObject, WrongKind, Short}
use Rattle.volume_questions.specs.Answer.{list_of, list_answer, list_leaves, list_number, list_results}
use Rattle.volume_questions.specs.Listing.{listing}
use Rattle.session.specs.Call.{Answer, answer}
use Rattle.session.specs.Call
use Rattle.session.specs.Step.{answer_of}
use Rattle.session_questions.specs.Code.Asked.{MayAsk}
use Rattle.session_questions.specs.Laws.Noted.{Asks}
use Rattle.session_questions.specs.Laws.Named.{named-few}

-- what list answers
abbrev pub list_gives : Volume → ℕ → List ℕ → Answer
list_gives v o own = answer (list_number (list_answer v o own)) (list_results (list_answer v o own)) (list_leaves v o own)

-- It is refused for its program, or answers of the view.
pub list-asks : {n b m p : ℕ} {s v l : List ℕ} {o : ℕ} {own : List ℕ} → Asks n b m p s v l (Call.list p o own) (list_gives (read_volume n b v) o own)
unfolding answer_of
list-asks = record { is = refl; quiet = λ x. refl }

-- "The other results of a refusal are 0."
pub list-refused : (e : ListError) → list_results (Err e) ≡ 0 ∷ []
list-refused BadNumber = refl
list-refused NoObject = refl
list-refused WrongKind = refl
list-refused Short = refl

-- The object of an accepted list is below 256.
pub list-few : {n b m p : ℕ} {s v l : List ℕ} → MayAsk n b m p s v l → (o : ℕ) (own : List ℕ) → list_number (list_answer (read_volume n b v) o own) ≡ 0 → o < 256
unfolding list_answer
list-few {n} {b} {v = v} h o own e =
    let w = read_volume n b v in
    named-few h o (λ f. let z : ◌≡◌ {A = ℕ} 7 0 = sym (ap (λ (x : Result ObjectKind ObjectError). list_number (list_of x (listing w o (length w)) own)) f) ∙ e in omega arith)
