-- `volume_tree::search::has_children` meets its contract: the numbers below n are those of the entries.
-- Assumes nothing.
use Rattle.std.proofs.Common.{not, ap}
use Rattle.volume_tree.specs.Volume.{is_child, has_children}
use Rattle.volume_tree.specs.Stored.{read_volume}
use Rattle.volume_tree.specs.Laws.Lent.{length-read}
use Rattle.volume_tree.proofs.search.has_children.Goals as goal

pub returns : goal.returns
unfolding has_children
returns c =
    let a = c.args in
    rw length-read (ap not (c.every.ensures (λ i. not (is_child (read_volume a.n a.b a.s.now) a.d i)) (λ i r h e. cc)))
