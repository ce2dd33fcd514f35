-- `session_read::read` meets its contract: refused first, refused by its answer, or answered and noted. Assumes nothing.
use mathlib.Core.Path.{◌≡◌, refl, sym, ap, ◌∙◌}
use mathlib.Core.List.{[], ◌∷◌}
use Rattle.returned.specs.Refusal.{refusal_number}
use Rattle.returned.specs.Laws.Refusal.{refusal-some, refused-number, not-refused}
use Rattle.volume_tree.specs.Stored.{read_volume}
use Rattle.volume_questions.specs.Answer.{read_number, read_results}
use Rattle.session.specs.Call.{answer}
use Rattle.session_questions.specs.Laws.Noted.{may-ask, first-refuses, question-refuses, question-noted, told-as}
use Rattle.session_read.specs.Laws.Read.{read_gives, read-asks, read-refused, read-few}
use Rattle.session_read.proofs.read.Goals as goal

pub returns-in-Err : goal.returns-in-Err
returns-in-Err c =
    first-refuses read-asks (sym (refused-number c.in-Err.is) ∙ c.first_refusal.ensures) (refusal-some c.in-Err.refusal)

pub read-requires : goal.read-requires
read-requires c =
    let h = may-ask (sym (not-refused _ c.in_default.not-Err) ∙ c.first_refusal.ensures) in
    h.admitted.view.lent

pub returns-in-Err-read : goal.returns-in-Err-read
returns-in-Err-read c =
    let h = may-ask (sym (not-refused _ c.in_default.not-Err) ∙ c.first_refusal.ensures) in
    let a = c.args in
    let told : read_gives (read_volume a.n a.b a.view.now) a.object a.offset a.buffer.now ≡ answer (refusal_number c.from.result) (0 ∷ []) c.read.new.buf =
    told-as read_number read_results (sym c.in-Err-read.is ∙ c.read.ensures.answer) (c.from.ensures, sym (read-refused c.in-Err-read.error)) c.read.ensures.buffer in
    question-refuses read-asks h told (refusal-some c.from.result)

pub note_object-requires : goal.note_object-requires
note_object-requires c =
    let h = may-ask (sym (not-refused _ c.in_default.not-Err) ∙ c.first_refusal.ensures) in
    let a = c.args in
    record {
      logged = h.log;
      program_bound = h.program;
      object_bound = read-few h a.object a.offset a.buffer.now (ap read_number (sym c.read.ensures.answer ∙ c.in-Ok.is));
    }

pub returns-in-Ok : goal.returns-in-Ok
returns-in-Ok c =
    let h = may-ask (sym (not-refused _ c.in_default.not-Err) ∙ c.first_refusal.ensures) in
    let a = c.args in
    let told : read_gives (read_volume a.n a.b a.view.now) a.object a.offset a.buffer.now ≡ answer 0 (c.in-Ok.count ∷ []) c.read.new.buf =
    told-as read_number read_results (sym c.in-Ok.is ∙ c.read.ensures.answer) (refl, refl) c.read.ensures.buffer in
    question-noted read-asks h told refl (a.object ∷ []) refl c.note_object.new.log c.note_object.ensures
