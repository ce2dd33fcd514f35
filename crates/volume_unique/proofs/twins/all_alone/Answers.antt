-- `volume_unique::twins::all_alone` meets its contract: the numbers below n are those of the entries.
-- Assumes nothing.
use Rattle.volume_tree.specs.Stored.{read_volume}
use Rattle.volume_tree.specs.Laws.Lent.{length-read}
use Rattle.volume_unique.specs.Code.Checks.{alone_from, all_alone}
use Rattle.volume_unique.proofs.twins.all_alone.Goals as goal

pub returns : goal.returns
unfolding all_alone
returns c =
    let a = c.args in
    rw length-read (c.every.ensures (alone_from (read_volume a.n a.b a.s.now)) (λ i r h e. cc))
