-- An accepted change: its operations may be issued one after the other, and what issuing them leaves is what the call leaves. Assumes
-- nothing.
use Rattle.std.specs.Prelude.{ℕ, ◌≡◌, List, [], ◌∷◌, ◌++◌, true}
use Rattle.std.proofs.Common.{arith, ap, ◌∙◌, subst}
use Rattle.std.proofs.Math.Path.{refl, sym}
use Rattle.record.specs.Operation.{Operation, Record, record_of, operands}
use Rattle.volume_tree.specs.Stored.{read_volume}
use Rattle.log_rules.specs.Stored.{read_log}
use Rattle.log_rules.proofs.Laws.Slot.{formed-inv}
use Rattle.session.specs.Class.{Change}
use Rattle.session.specs.Call.{Issuer, change, geometry, buffers, answer}
use Rattle.session.specs.Issue.{operations_of}
use Rattle.session.specs.Edit.{room_rows, change_rows}
use Rattle.session.specs.Model.{Model, agreeing, with_view, with_log, program_rows, told_of}
use Rattle.session.specs.Effect.{Effect, note, issue, perform, perform_all, issuing}
use Rattle.session.specs.Step.{given, encode_model, step, answer_of}
use Rattle.session.proofs.Laws.Issue.{record-good}
use Rattle.session.proofs.Laws.Issuing.{Issuing, issuing-rest, issued-sound}
use Rattle.log_draft.specs.Code.Issued.{Issuable, Issued, Room, issued_all, applied_all, AllIssued}
use Rattle.log_draft.specs.Laws.Issued.{issued-logged, issued-read, issued-formed, issued-view, one-issued, more-issued}
use Rattle.session_admission.specs.Code.Admitted.{model_in, Admitted}
use Rattle.session_admission.specs.Laws.Admitted.{formed-admitted}
use Rattle.session_admission.specs.Laws.Turn.{accepted}
use Rattle.session_change.specs.Code.Change.{change_number, ChangeBy}
use Rattle.session_change.specs.Laws.Change.{change-passes}

module _ {n b m p : ℕ} {s v l : List ℕ} (h : Admitted n b m s v l) {o : Operation} {os : List Operation}
    (i : Issuing (geometry n b m) (model_in n b m s v l) p (o ∷ os)) where
  -- The log has room for the first.
  pub issuing-room : Room m l
  issuing-room = let r = i.room in let k = i.number in (omega arith, omega arith)

  -- Its record is valid, fits, and applies to the view.
  pub issuing-able : (r : Record) → r ≡ record_of (read_log m l).head.next p o → Issuable n b (read_volume n b v) r
  issuing-able r e =
      let one = (formed-inv n b m (read_log m l) h.log.form).head.from_one in
      let f = i.fit in
      subst (Issuable n b (read_volume n b v)) (sym e)
      (record {
        sound = record-good (read_log m l).head.next p o one issuing-room.1 i.program f.1.good;
        fit = f.1.within (read_log m l).head.next p;
        ready = f.0;
      })

  -- What is left where it is issued: three buffers that pass, on which the others may be issued.
  module _ (x : ℕ) (log view : List ℕ) (u : Issued n b m x log view (read_volume n b v) (read_log m l) (record_of (read_log m l).head.next p o)) where
    abbrev first : Record
    first = record_of (read_log m l).head.next p o

    able : Issuable n b (read_volume n b v) first
    able = issuing-able first refl

    issued-model : perform (issue p o) (perform (note p (operands o)) (model_in n b m s v l)) ≡ model_in n b m s view log
    unfolding perform
    issued-model = λ j.
        record {
          server = read_volume n b s;
          view = sym (issued-view n b m l v h.log h.view first able issuing-room refl x log view u) j;
          log = sym (issued-read n b m l v h.log h.view first able issuing-room refl x log view u) j;
        }

    pub issued-admitted : Admitted n b m s view log
    issued-admitted =
        formed-admitted n b m s view log h.holds.sound.range h.server
        (issued-formed n b m l v h.log h.view first able issuing-room refl x log view u)
        (issued-logged n b m l v h.log h.view first able issuing-room refl x log view u)
        (subst (λ (y : Model). agreeing y ≡ true) issued-model (issued-sound (geometry n b m) p o os (model_in n b m s v l) h.holds.sound i).agree)

    pub issued-rest : Issuing (geometry n b m) (model_in n b m s view log) p os
    issued-rest = subst (λ (y : Model). Issuing (geometry n b m) y p os) issued-model (issuing-rest (geometry n b m) p o os (model_in n b m s v l) i)

    pub issued-then : (y : ℕ) (log₂ view₂ : List ℕ) → AllIssued b m y log₂ view₂ (read_volume n b view) (read_log m log) p os
        → AllIssued b m x log₂ view₂ (read_volume n b v) (read_log m l) p (o ∷ os)
    issued-then y log₂ view₂ k = more-issued n b m l v h.log h.view first able issuing-room refl x log view u os y log₂ view₂ k

-- What the effects of issuing leave of a model, in the terms of the log's code.
performed : (p : ℕ) (os : List Operation) (x : Model) → perform_all (issuing p os) x ≡ with_view (applied_all os x.view) (with_log (issued_all p os x.log) x)
unfolding perform_all perform issuing issued_all applied_all
performed p [] x = refl
performed p (o ∷ os) x = performed p os (perform (issue p o) (perform (note p (operands o)) x))

-- The accepted case of every change: the buffers store what issuing its operations leaves.
pub changed-outcome : {n b m : ℕ} {i : Issuer} {s v l : List ℕ} {c : Change} {own count : ℕ} (ch : ChangeBy n b m i s v l c own count) (k : ℕ)
    → k ≡ change_number (geometry n b m) (read_log m l) i.program own count → k ≡ 0 → (os : List Operation) → operations_of (told_of (model_in n b m s v l)) c ≡ os
    → (x : ℕ) (log view : List ℕ) → AllIssued b m x log view (read_volume n b v) (read_log m l) i.program os
    → given 0 (x ∷ []) [] (buffers s view log) ≡ step (geometry n b m) (change i c) (buffers s v l)
unfolding answer_of
changed-outcome {n} {b} {m} {i} {s} {v} {l} {c} ch k e z os all x log view u =
    let g = geometry n b m in
    let y = model_in n b m s v l in
    let a = answer 0 ((read_log m l).head.next ∷ []) [] in
    let left : encode_model g (perform_all (issuing i.program os) y) ≡ buffers s view log =
    ap (encode_model g) (performed i.program os y) ∙ (λ j. record { server = ch.held.server.stored j; view = sym u.view j; log = sym u.log j }) in
    (λ j. record { gives = answer 0 (u.gives j ∷ []) []; leaves = sym left j })
    ∙ sym
    (accepted n b m s v l ch.held (change i c) (program_rows (read_log m l) i.program ++ (change_rows g (read_volume n b v) c ++ room_rows g (change i c) y)) a refl ch.rise (change-passes ch k e z) refl
    ∙ ap (λ (f : List Effect). record { gives = a; leaves = encode_model g (perform_all f y) }) (ap (issuing i.program) all))

-- Where it issues one operation, what issuing that one leaves.
pub issued-outcome : {n b m : ℕ} {i : Issuer} {s v l : List ℕ} {c : Change} {own count : ℕ} (ch : ChangeBy n b m i s v l c own count) (k : ℕ)
    → k ≡ change_number (geometry n b m) (read_log m l) i.program own count → k ≡ 0
    → (o : Operation) → operations_of (told_of (model_in n b m s v l)) c ≡ o ∷ [] → (d : Record) → d ≡ record_of (read_log m l).head.next i.program o
    → (x : ℕ) (log view : List ℕ) → Issued n b m x log view (read_volume n b v) (read_log m l) d
    → given 0 (x ∷ []) [] (buffers s view log) ≡ step (geometry n b m) (change i c) (buffers s v l)
issued-outcome {n} {b} {m} {i} {s} {v} {l} ch k e z o one d q x log view u =
    changed-outcome ch k e z (o ∷ []) one x log view (one-issued (subst (Issued n b m x log view (read_volume n b v) (read_log m l)) q u))
