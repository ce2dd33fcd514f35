-- `volume_write::write::make_entry` meets its contract: a head in a free entry makes a file or a directory.
-- Assumes nothing.
use mathlib.Core.Path.{◌∙◌}
use Rattle.volume_write.specs.Laws.Write.{made}
use Rattle.volume_write.proofs.write.make_entry.Goals as goal

pub returns : goal.returns
returns c =
    let a = c.args in
    c.write_head.ensures
    ∙ made a.n a.b a.s.now c.requires.formed a.i c.requires.i_lt_n.0 a.kind a.parent a.name.now c.requires.i_lt_n.1
    c.requires.le_kind.0 c.requires.le_kind.1 c.requires.le_kind.2
