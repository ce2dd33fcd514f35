-- Read asks of the view, and the object of an accepted one is below 256. Assumes nothing.
use Rattle.std.specs.Prelude.{ℕ, ◌<◌, ◌≡◌, refl, List, [], ◌∷◌, Result, Err}
use Rattle.std.proofs.Common.{arith, sym, ap, ◌∙◌}
use Rattle.volume_entry.specs.Entry.{contents_of}
use Rattle.volume_tree.specs.Volume.{Volume, entry_at}
use Rattle.volume_tree.specs.Stored.{read_volume}
use Rattle.volume_questions.specs.declared.object.ObjectKind.{ObjectKind}
use Rattle.volume_questions.specs.declared.object.ObjectError.{ObjectError}
use Rattle.volume_questions.specs.declared.reading.ReadError.{ReadError}
use Rattle.volume_questions.specs.declared.reading.ReadError.TheVariants.{BadNumber, NoObject, WrongKind, BadRange}
use Rattle.volume_questions.specs.Answer.{read_of, read_answer, read_leaves, read_number, read_results}
use Rattle.session.specs.Call.{Answer, answer}
use Rattle.session.specs.Call
use Rattle.session.specs.Step.{answer_of}
use Rattle.session_questions.specs.Code.Asked.{MayAsk}
use Rattle.session_questions.specs.Laws.Noted.{Asks}
use Rattle.session_questions.specs.Laws.Named.{named-few}

-- what read answers
abbrev pub read_gives : Volume → ℕ → ℕ → List ℕ → Answer
read_gives v o f own = answer (read_number (read_answer v o f own)) (read_results (read_answer v o f own)) (read_leaves v o f own)

-- It is refused for its program, or answers of the view.
pub read-asks : {n b m p : ℕ} {s v l : List ℕ} {o f : ℕ} {own : List ℕ} → Asks n b m p s v l (Call.read p o f own) (read_gives (read_volume n b v) o f own)
unfolding answer_of
read-asks = record { is = refl; quiet = λ x. refl }

-- "The other results of a refusal are 0."
pub read-refused : (e : ReadError) → read_results (Err e) ≡ 0 ∷ []
read-refused BadNumber = refl
read-refused NoObject = refl
read-refused WrongKind = refl
read-refused BadRange = refl

-- The object of an accepted read is below 256.
pub read-few : {n b m p : ℕ} {s v l : List ℕ} → MayAsk n b m p s v l → (o f : ℕ) (own : List ℕ) → read_number (read_answer (read_volume n b v) o f own) ≡ 0 → o < 256
unfolding read_answer
read-few {n} {b} {v = v} h o f own e =
    let w = read_volume n b v in
    named-few h o (λ g. let z : ◌≡◌ {A = ℕ} 7 0 = sym (ap (λ (x : Result ObjectKind ObjectError). read_number (read_of x (contents_of (entry_at w o)) f own)) g) ∙ e in omega arith)
