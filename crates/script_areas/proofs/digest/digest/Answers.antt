-- `script_areas::digest::digest` meets its contract.
-- Assumes nothing.
use Rattle.std.proofs.Common.{◌∙◌, arith}
use Rattle.script_areas.specs.Laws.Digest.{digest-more, digest-whole}
use Rattle.script_areas.proofs.digest.digest.Goals as goal

pub loop-b-preserved : goal.loop-b-preserved
loop-b-preserved c =
    let l = c.loop-b in
    rw c.from.ensures (digest-more l.h c.args.s.now l.b-index (omega arith) ∙ l.invariant)

pub returns : goal.returns
returns c =
    let l = c.loop-b in
    digest-whole l.h c.args.s.now l.b-index (omega arith) ∙ l.invariant
