-- `volume_unique::twins::are_twins` meets its contract: the tests before each return settle those of `twins`.
-- Assumes nothing.
use mathlib.Core.Path.{sym, ◌∙◌}
use Rattle.volume_tree.specs.Stored.{read_volume}
use Rattle.volume_unique.specs.Laws.Loop.{other_name, other-parent}
use Rattle.volume_unique.proofs.twins.are_twins.Goals as goal

pub returns-then-digests-j : goal.returns-then-digests-j
returns-then-digests-j c =
    let a = c.args in
    let m = c.requires.digested in
    other_name (read_volume a.n a.b a.s.now) a.i a.j
    (λ z. c.if-digests-j.true (m a.j ∙ sym z ∙ sym (m a.i)))

pub returns-then-parents-j : goal.returns-then-parents-j
returns-then-parents-j c =
    let a = c.args in
    let p = c.requires.gathered in
    other-parent (read_volume a.n a.b a.s.now) a.i _ (p a.i) a.j (λ z. c.if-parents-j.true (p a.j ∙ z))
