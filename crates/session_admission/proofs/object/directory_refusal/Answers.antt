-- `session_admission::object::directory_refusal` meets its contract. Assumes nothing.
use mathlib.Core.Path.{◌∙◌}
use Rattle.volume_tree.specs.Stored.{read_volume}
use Rattle.session_admission.specs.Laws.Object.{named-directory}
use Rattle.session_admission.proofs.object.directory_refusal.Goals as goal

pub returns : goal.returns
returns c =
    let a = c.args in
    c.named_refusal.ensures ∙ named-directory (read_volume a.n a.b a.view.now) a.object
