-- `volume_write::format::copy_volume` meets its contract: as many bytes are put as there are.
-- Assumes nothing.
use mathlib.Core.Path.{◌∙◌}
use Rattle.volume_write.specs.Laws.Write.{patch-all}
use Rattle.volume_write.proofs.format.copy_volume.Goals as goal

pub returns : goal.returns
returns c =
    c.put_bytes.ensures.placed ∙ patch-all c.args.to.now c.args.from.now c.requires
