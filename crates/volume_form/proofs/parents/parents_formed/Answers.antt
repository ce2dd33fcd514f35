-- `volume_form::parents::parents_formed` meets its contract: the numbers below n are those of the entries.
-- Assumes nothing.
use Rattle.volume_tree.specs.Stored.{read_volume}
use Rattle.volume_tree.specs.Laws.Lent.{length-read}
use Rattle.volume_form.specs.Code.Checks.{parented, parents_formed}
use Rattle.volume_form.proofs.parents.parents_formed.Goals as goal

pub returns : goal.returns
unfolding parents_formed
returns c =
    let a = c.args in
    rw length-read (c.every.ensures (parented (read_volume a.n a.b a.s.now)) (λ i r h e. cc))
