-- What a question comes to: refused before it is asked, refused by its own answer, or answered, and then its dependence is noted.
-- Assumes nothing.
use Rattle.std.specs.Prelude.{ℕ, ◌<◌, Bool, not}
use Rattle.std.proofs.Common.{arith, ◌∙◌}
use Rattle.std.proofs.Math.Path.{◌≡◌, refl, sym, ap}
use mathlib.Core.List.{List, [], ◌∷◌}
use Rattle.std.proofs.Math.Bool.{true, false, cond}
use Rattle.std.proofs.Math.Dec.{eqb, ltb}
use borrow.Author.Tests.{eqb-true, eqb-false, ne_eqb, ltb-true}
use Rattle.returned.specs.Returned
use Rattle.log_rules.specs.Programs.{holds}
use Rattle.log_rules.specs.Stored.{encode_log, read_log}
use Rattle.log_rules.proofs.Laws.Geometry.{logged-most}
use Rattle.log_rules.specs.Change
use Rattle.session.specs.Call.{Call, Answer, geometry, buffers, refusal, answer}
use Rattle.session.specs.Model.{unless, program_rows, told_of}
use Rattle.session.specs.Effect.{Effect, note, perform, perform_all, accepted_effects, refused_effects, effects_of}
use Rattle.session.specs.Step.{answer_of, encode_model, turned_down, given, step}
use Rattle.session.specs.Code.Table.{first_number}
use Rattle.session.proofs.Laws.Outcome.{outcome}
use Rattle.session_admission.specs.Code.Admitted.{admission, model_in}
use Rattle.session_admission.specs.Laws.Admitted.{admitted, not-admitted}
use Rattle.session_admission.specs.Laws.Turn.{refused, answered, accepted}
use Rattle.session_questions.specs.Code.Asked.{first_refusal, MayAsk}

module _ (n b m p : ℕ) (s v l : List ℕ) where
  -- What is lent is refused before the program.
  pub first-lent : (k : ℕ) → k ≡ admission (geometry n b m) (buffers s v l) → (k ≡ 0 → ⊥) → k ≡ first_refusal n b m p s v l
  unfolding first_refusal
  first-lent k e z = rw (← e, ne_eqb k 0 z)

  pub first-program : admission (geometry n b m) (buffers s v l) ≡ 0 → (k : ℕ) → k ≡ first_number (program_rows (read_log m l) p) → k ≡ first_refusal n b m p s v l
  unfolding first_refusal
  first-program e k f = rw e f

  fine-program : 0 ≡ first_number (program_rows (read_log m l) p) → p < 32
  unfolding first_number
  fine-program e = go (ltb p 32) refl (holds (read_log m l).head.marks p) e
    where
      go : (t : Bool) → ltb p 32 ≡ t → (h : Bool) → ◌≡◌ {A = ℕ} 0 (cond (not t) Returned.bad_program (cond h Returned.marked 0)) → p < 32
      go true f h z = ltb-true p 32 f
      go false f h z = absurd (omega arith)

-- Where nothing refuses it first, a question may be asked.
module _ {n b m p : ℕ} {s v l : List ℕ} where
  pub may-ask : 0 ≡ first_refusal n b m p s v l → MayAsk n b m p s v l
  unfolding first_refusal
  may-ask e = go (admission (geometry n b m) (buffers s v l)) refl e
    where
      go : (k : ℕ) → admission (geometry n b m) (buffers s v l) ≡ k → 0 ≡ cond (eqb k 0) (first_number (program_rows (read_log m l) p)) k → MayAsk n b m p s v l
      go k e z = at (eqb k 0) refl z
        where
          at : (t : Bool) → eqb k 0 ≡ t → 0 ≡ cond t (first_number (program_rows (read_log m l) p)) k → MayAsk n b m p s v l
          at true f z =
              let h = admitted n b m s v l (e ∙ eqb-true k 0 f) in
              record { admitted = h; log = logged-most n b m l h.log; program = fine-program n b m p s v l z; none = z }
          at false f z = absurd (eqb-false k 0 f (sym z))

-- a call that asks: the program's rows refuse it, or its answer stands; a refused one has no effect
pub record Asks (n b m p : ℕ) (s v l : List ℕ) (c : Call) (a : Answer) : Type 0 where
  pub is : answer_of (geometry n b m) c (model_in n b m s v l) ≡ unless c (program_rows (read_log m l) p) a
  pub quiet : (x : Answer) → refused_effects c x (told_of (model_in n b m s v l)) ≡ []

module _ {n b m p : ℕ} {s v l : List ℕ} {c : Call} {a : Answer} (q : Asks n b m p s v l c a) where
  -- Refused before it is asked.
  pub first-refuses : {k : ℕ} → k ≡ first_refusal n b m p s v l → (k ≡ 0 → ⊥) → turned_down k c (buffers s v l) ≡ step (geometry n b m) c (buffers s v l)
  unfolding first_refusal
  first-refuses {k} e z = go (eqb (admission (geometry n b m) (buffers s v l)) 0) refl e
    where
      go : (t : Bool) → eqb (admission (geometry n b m) (buffers s v l)) 0 ≡ t
          → k ≡ cond t (first_number (program_rows (read_log m l) p)) (admission (geometry n b m) (buffers s v l))
          → turned_down k c (buffers s v l) ≡ step (geometry n b m) c (buffers s v l)
      go true f g =
          sym (refused n b m s v l (admitted n b m s v l (eqb-true (admission (geometry n b m) (buffers s v l)) 0 f)) c (program_rows (read_log m l) p) a q.is refl k g z (q.quiet (refusal k c)))
      go false f g = sym (not-admitted (geometry n b m) c (buffers s v l) k (sym g) z)

  module _ (h : MayAsk n b m p s v l) where
    none_done : (a.returned ≡ 0 → ⊥) → effects_of c a (told_of (model_in n b m s v l)) ≡ []
    unfolding effects_of
    none_done z = rw (ne_eqb a.returned 0 z) (q.quiet a)

    -- Refused by its own answer: nothing changes.
    pub question-refuses : {k : ℕ} {r own : List ℕ} → a ≡ answer k r own → (k ≡ 0 → ⊥) → given k r own (buffers s v l) ≡ step (geometry n b m) c (buffers s v l)
    unfolding perform_all
    question-refuses e z =
        sym
        (outcome (geometry n b m) c (buffers s v l) (model_in n b m s v l) a [] h.admitted.holds
        (answered n b m s v l h.admitted c (program_rows (read_log m l) p) a q.is refl h.none)
        (none_done (λ y. z (sym (ap (λ (x : Answer). x.returned) e) ∙ y)))
        ∙ (λ i. record { gives = e i; leaves = h.admitted.holds.stored i }))

    -- Answered: the dependence is noted in the log, and nothing else changes.
    pub question-noted : {k : ℕ} {r own : List ℕ} → a ≡ answer k r own → k ≡ 0 → (ops : List ℕ)
        → accepted_effects c (told_of (model_in n b m s v l)) ≡ note p ops ∷ []
        → (after : List ℕ) → after ≡ encode_log m (Change.note p ops (read_log m l))
        → given k r own (buffers s v after) ≡ step (geometry n b m) c (buffers s v l)
    unfolding perform_all perform
    question-noted e z ops f after g =
        sym
        (accepted n b m s v l h.admitted c (program_rows (read_log m l) p) a q.is refl h.none (ap (λ (x : Answer). x.returned) e ∙ z)
        ∙ ap (λ (es : List Effect). record { gives = a; leaves = encode_model (geometry n b m) (perform_all es (model_in n b m s v l)) }) f
        ∙ (λ i. record { gives = e i; leaves = buffers (h.admitted.server.stored i) (h.admitted.view.stored i) (sym g i) }))

-- What a call tells of a question's answer, and what is left in its own buffer, is what the question gives.
pub told-as : {X : Type 0} (number : X → ℕ) (results : X → List ℕ) {x y : X} {k : ℕ} {r own left : List ℕ} → y ≡ x → (k ≡ number y) × (r ≡ results y) → left ≡ own
    → answer (number x) (results x) own ≡ answer k r left
told-as number results e t f = λ i. answer (sym (t.0 ∙ ap number e) i) (sym (t.1 ∙ ap results e) i) (sym f i)
