-- `volume_tree::search::search` meets its contract: the numbers below n are those of the entries.
-- Assumes nothing.
use mathlib.Core.Path.{sym, ◌∙◌}
use Rattle.volume_tree.specs.Volume.{is_named, search}
use Rattle.volume_tree.specs.Stored.{read_volume}
use Rattle.volume_tree.specs.Laws.Lent.{length-read}
use Rattle.volume_tree.proofs.search.search.Goals as goal

pub returns : goal.returns
unfolding search
returns c =
    let a = c.args in
    rw length-read (sym c.in-Some.is ∙ c.lowest.ensures (is_named (read_volume a.n a.b a.s.now) a.d a.wanted.now) (λ i r h e. cc))

pub returns-in_default : goal.returns-in_default
unfolding search
returns-in_default c =
    let a = c.args in
    rw length-read (sym c.in_default.is ∙ c.lowest.ensures (is_named (read_volume a.n a.b a.s.now) a.d a.wanted.now) (λ i r h e. cc))
