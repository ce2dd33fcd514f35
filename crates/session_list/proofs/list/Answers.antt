-- `session_list::list` meets its contract: refused first, refused by its answer, or answered and noted. Assumes nothing.
use mathlib.Core.Path.{◌≡◌, refl, sym, ap, ◌∙◌}
use mathlib.Core.List.{[], ◌∷◌}
use Rattle.returned.specs.Refusal.{refusal_number}
use Rattle.returned.specs.Laws.Refusal.{refusal-some, refused-number, not-refused}
use Rattle.volume_tree.specs.Stored.{read_volume}
use Rattle.volume_questions.specs.Answer.{list_number, list_results}
use Rattle.session.specs.Call.{answer}
use Rattle.session_questions.specs.Laws.Noted.{may-ask, first-refuses, question-refuses, question-noted, told-as}
use Rattle.session_list.specs.Laws.List.{list_gives, list-asks, list-refused, list-few}
use Rattle.session_list.proofs.list.Goals as goal

pub returns-in-Err : goal.returns-in-Err
returns-in-Err c =
    first-refuses list-asks (sym (refused-number c.in-Err.is) ∙ c.first_refusal.ensures) (refusal-some c.in-Err.refusal)

pub list-requires : goal.list-requires
list-requires c =
    let h = may-ask (sym (not-refused _ c.in_default.not-Err) ∙ c.first_refusal.ensures) in
    h.admitted.view.lent

pub returns-in-Err-list : goal.returns-in-Err-list
returns-in-Err-list c =
    let h = may-ask (sym (not-refused _ c.in_default.not-Err) ∙ c.first_refusal.ensures) in
    let a = c.args in
    let told : list_gives (read_volume a.n a.b a.view.now) a.object a.buffer.now ≡ answer (refusal_number c.from.result) (0 ∷ []) c.list.new.buf =
    told-as list_number list_results (sym c.in-Err-list.is ∙ c.list.ensures.answer) (c.from.ensures, sym (list-refused c.in-Err-list.error)) c.list.ensures.buffer in
    question-refuses list-asks h told (refusal-some c.from.result)

pub note_object-requires : goal.note_object-requires
note_object-requires c =
    let h = may-ask (sym (not-refused _ c.in_default.not-Err) ∙ c.first_refusal.ensures) in
    let a = c.args in
    record {
      logged = h.log;
      program_bound = h.program;
      object_bound = list-few h a.object a.buffer.now (ap list_number (sym c.list.ensures.answer ∙ c.in-Ok.is));
    }

pub returns-in-Ok : goal.returns-in-Ok
returns-in-Ok c =
    let h = may-ask (sym (not-refused _ c.in_default.not-Err) ∙ c.first_refusal.ensures) in
    let a = c.args in
    let told : list_gives (read_volume a.n a.b a.view.now) a.object a.buffer.now ≡ answer 0 (c.in-Ok.count ∷ []) c.list.new.buf =
    told-as list_number list_results (sym c.in-Ok.is ∙ c.list.ensures.answer) (refl, refl) c.list.ensures.buffer in
    question-noted list-asks h told refl (a.object ∷ []) refl c.note_object.new.log c.note_object.ensures
