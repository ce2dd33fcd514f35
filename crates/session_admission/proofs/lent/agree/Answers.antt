-- `session_admission::lent::agree` meets its contract. Assumes nothing.
use mathlib.Core.Path.{refl}
use Rattle.session.specs.Model.{agreeing}
use Rattle.session_admission.proofs.lent.agree.Goals as goal

pub returns : goal.returns
unfolding agreeing
returns c = refl
