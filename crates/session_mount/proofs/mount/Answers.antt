-- `session_mount::mount` meets its contract. Assumes nothing.
use mathlib.Core.Path.{sym, ◌∙◌}
use Rattle.session_mount.specs.Laws.Mount.{lengths-same, log-whole, mount-made, mount-damaged, mount-wrong}
use Rattle.session_mount.proofs.mount.Goals as goal

pub copy_volume-requires : goal.copy_volume-requires
copy_volume-requires c =
    let a = c.args in
    lengths-same a.n a.b a.m a.server.now a.view.now a.log.now (sym c.lengths_fit.ensures ∙ c.if-lengths_fit.true)

pub begin_log-requires : goal.begin_log-requires
begin_log-requires c =
    let a = c.args in
    log-whole a.n a.b a.m a.server.now a.view.now a.log.now (sym c.lengths_fit.ensures ∙ c.if-lengths_fit.true)

pub returns-then-well_formed : goal.returns-then-well_formed
returns-then-well_formed c =
    let a = c.args in
    mount-made a.n a.b a.m a.server.now a.view.now a.log.now (sym c.lengths_fit.ensures ∙ c.if-lengths_fit.true)
    (sym c.if-well_formed.ensures) c.copy_volume.new.to c.begin_log.new.log c.copy_volume.ensures c.begin_log.ensures

pub returns-then-lengths_fit : goal.returns-then-lengths_fit
returns-then-lengths_fit c =
    let a = c.args in
    mount-damaged a.n a.b a.m a.server.now a.view.now a.log.now (sym c.lengths_fit.ensures ∙ c.if-lengths_fit.true)
    (sym c.if-well_formed.ensures)

pub returns : goal.returns
returns c =
    let a = c.args in
    mount-wrong _ _ (sym c.lengths_fit.ensures ∙ c.if-lengths_fit.false)
