-- `session_stat::stat` meets its contract: refused first, refused by its answer, or answered and noted. Assumes nothing.
use mathlib.Core.Path.{◌≡◌, refl, sym, ap, ◌∙◌}
use mathlib.Core.List.{[], ◌∷◌}
use Rattle.returned.specs.Refusal.{refusal_number}
use Rattle.returned.specs.Laws.Refusal.{refusal-some, refused-number, not-refused}
use Rattle.volume_tree.specs.Stored.{read_volume}
use Rattle.volume_questions.specs.Answer.{stat_number, stat_results}
use Rattle.session.specs.Call.{answer}
use Rattle.session_questions.specs.Laws.Noted.{may-ask, first-refuses, question-refuses, question-noted, told-as}
use Rattle.session_stat.specs.Laws.Stat.{stat_gives, stat-asks, stat-refused, stat-few}
use Rattle.session_stat.proofs.stat.Goals as goal

pub returns-in-Err : goal.returns-in-Err
returns-in-Err c =
    first-refuses stat-asks (sym (refused-number c.in-Err.is) ∙ c.first_refusal.ensures) (refusal-some c.in-Err.refusal)

pub stat_of-requires : goal.stat_of-requires
stat_of-requires c =
    let h = may-ask (sym (not-refused _ c.in_default.not-Err) ∙ c.first_refusal.ensures) in
    h.admitted.view.lent

pub returns-in-Err-stat_of : goal.returns-in-Err-stat_of
returns-in-Err-stat_of c =
    let h = may-ask (sym (not-refused _ c.in_default.not-Err) ∙ c.first_refusal.ensures) in
    let r = stat-refused c.in-Err-stat_of.error in
    let told : stat_gives (read_volume c.args.n c.args.b c.args.view.now) c.args.object ≡ answer (refusal_number c.from.result) (0 ∷ 0 ∷ 0 ∷ []) [] =
    told-as stat_number stat_results (sym c.in-Err-stat_of.is ∙ c.stat_of.ensures) (c.from.ensures ∙ sym r.0, sym r.1) refl in
    question-refuses stat-asks h told (refusal-some c.from.result)

pub note_object-requires : goal.note_object-requires
note_object-requires c =
    let h = may-ask (sym (not-refused _ c.in_default.not-Err) ∙ c.first_refusal.ensures) in
    record {
      logged = h.log;
      program_bound = h.program;
      object_bound = stat-few h c.args.object (ap stat_number (sym c.stat_of.ensures ∙ c.in-Ok.is));
    }

pub returns-in-Ok : goal.returns-in-Ok
returns-in-Ok c =
    let h = may-ask (sym (not-refused _ c.in_default.not-Err) ∙ c.first_refusal.ensures) in
    let t = c.in-Ok.told in
    let told : stat_gives (read_volume c.args.n c.args.b c.args.view.now) c.args.object ≡ answer 0 (t.kind ∷ t.len ∷ t.usage ∷ []) [] =
    told-as stat_number stat_results (sym c.in-Ok.is ∙ c.stat_of.ensures) (refl, refl) refl in
    question-noted stat-asks h told refl (c.args.object ∷ []) refl c.note_object.new.log c.note_object.ensures
