-- `session_names::text::text_refusal` meets its contract. Assumes nothing.
use mathlib.Core.Path.{sym, ap, ◌∙◌}
use Rattle.names.specs.Name.{name_number}
use Rattle.session_names.specs.Laws.Row.{text-number}
use Rattle.session_names.proofs.text.text_refusal.Goals as goal

pub returns-in-Ok : goal.returns-in-Ok
returns-in-Ok c = ap name_number (sym c.in-Ok.is ∙ c.name_text.ensures) ∙ text-number c.args.name.now

pub returns-in-Err : goal.returns-in-Err
returns-in-Err c = c.from.ensures ∙ ap name_number (sym c.in-Err.is ∙ c.name_text.ensures) ∙ text-number c.args.name.now
