-- `session_questions::note_object` meets its contract: the set of the one object is what is noted. Assumes nothing.
use mathlib.Core.List.{[], ◌∷◌}
use Rattle.session_questions.proofs.note_object.Goals as goal

pub returns : goal.returns
returns c =
    c.note.ensures.by_index_2 (c.args.object ∷ []) c.one-reached.ensures
