-- `session_lookup::lookup` meets its contract: refused first, refused by its answer, or answered and noted. Assumes nothing.
use mathlib.Core.Path.{◌≡◌, refl, sym, ◌∙◌}
use mathlib.Core.List.{[], ◌∷◌}
use Rattle.returned.specs.Refusal.{refusal_number}
use Rattle.returned.specs.Laws.Refusal.{refusal-some, refused-number, not-refused}
use Rattle.volume_tree.specs.Stored.{read_volume}
use Rattle.log_rules.specs.Code.Flags.{Holds}
use Rattle.volume_lookup.specs.Lookup.{lookup_operands, reached_number, reached_results}
use Rattle.session.specs.Call.{answer}
use Rattle.session_questions.specs.Laws.Noted.{may-ask, first-refuses, question-refuses, question-noted, told-as}
use Rattle.session_lookup.specs.Laws.Lookup.{lookup_gives, lookup-asks, lookup-refused, marks-held}
use Rattle.session_lookup.proofs.lookup.Goals as goal

pub returns-in-Err : goal.returns-in-Err
returns-in-Err c =
    first-refuses lookup-asks (sym (refused-number c.in-Err.is) ∙ c.first_refusal.ensures) (refusal-some c.in-Err.refusal)

pub lookup-requires : goal.lookup-requires
lookup-requires c =
    let h = may-ask (sym (not-refused _ c.in_default.not-Err) ∙ c.first_refusal.ensures) in
    h.admitted.view.lent

pub returns-in-Err-lookup : goal.returns-in-Err-lookup
returns-in-Err-lookup c =
    let h = may-ask (sym (not-refused _ c.in_default.not-Err) ∙ c.first_refusal.ensures) in
    let told : lookup_gives (read_volume c.args.n c.args.b c.args.view.now) c.args.path.now ≡ answer (refusal_number c.from.result) (0 ∷ []) [] =
    told-as reached_number reached_results (sym c.in-Err-lookup.is ∙ c.lookup.ensures.answer) (c.from.ensures, sym (lookup-refused c.in-Err-lookup.error)) refl in
    question-refuses lookup-asks h told (refusal-some c.from.result)

-- Lookup's operands, and that the marks after it are their set.
pub note-requires : goal.note-requires
note-requires c =
    let h = may-ask (sym (not-refused _ c.in_default.not-Err) ∙ c.first_refusal.ensures) in
    let met = lookup_operands (read_volume c.args.n c.args.b c.args.view.now) c.args.path.now in
    let held : Holds c.lookup.new.marks met = marks-held h c.args.path.now c.lookup.ensures.operands in
    record { logged = h.log; program_bound = h.program; by_index = (met, held) }

pub returns-in-Ok : goal.returns-in-Ok
returns-in-Ok c =
    let h = may-ask (sym (not-refused _ c.in_default.not-Err) ∙ c.first_refusal.ensures) in
    let told : lookup_gives (read_volume c.args.n c.args.b c.args.view.now) c.args.path.now ≡ answer 0 (c.in-Ok.object ∷ []) [] =
    told-as reached_number reached_results (sym c.in-Ok.is ∙ c.lookup.ensures.answer) (refl, refl) refl in
    let met = lookup_operands (read_volume c.args.n c.args.b c.args.view.now) c.args.path.now in
    let held : Holds c.lookup.new.marks met = marks-held h c.args.path.now c.lookup.ensures.operands in
    question-noted lookup-asks h told refl met refl c.note.new.log (c.note.ensures.by_index_2 met held)
