-- `session_mount::volume_fits` meets its contract. Assumes nothing.
use native.Mathlib.Omega.{arith}
use mathlib.Core.Path.{sym, ◌∙◌}
use Rattle.session_mount.specs.Laws.Mount.{fits-range, fits-no-slot, fits-not-lent}
use Rattle.session_mount.proofs.volume_fits.Goals as goal

pub returns-then-m-ge1 : goal.returns-then-m-ge1
returns-then-m-ge1 c =
    let a = c.args in
    fits-range a.n a.b a.m a.server.now (sym c.is_lent.ensures ∙ c.if-is_lent.true) (omega arith)

pub returns-else-m-ge1 : goal.returns-else-m-ge1
returns-else-m-ge1 c =
    let a = c.args in
    fits-no-slot a.n a.b a.m a.server.now (omega arith)

pub returns-else-is_lent : goal.returns-else-is_lent
returns-else-is_lent c =
    let a = c.args in
    fits-not-lent a.n a.b a.m a.server.now (sym c.is_lent.ensures ∙ c.if-is_lent.false)
