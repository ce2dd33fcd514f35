-- `session_mount::format` meets its contract. Assumes nothing.
use mathlib.Core.Path.{sym, ◌∙◌}
use Rattle.session_mount.specs.Laws.Mount.{fits-lent, format-fits, format-wrong, format-made, format-left}
use Rattle.session_mount.proofs.format.Goals as goal

pub format_volume-requires : goal.format_volume-requires
format_volume-requires c =
    let a = c.args in
    fits-lent a.n a.b a.m a.server.now (sym c.volume_fits.ensures ∙ c.if-volume_fits.true)

pub returns-then-volume_fits : goal.returns-then-volume_fits
returns-then-volume_fits c =
    let e = sym c.volume_fits.ensures ∙ c.if-volume_fits.true in
    record {
      returned = format-fits _ _ e;
      volume = c.format_volume.ensures ∙ format-made _ _ e;
    }

pub returns : goal.returns
returns c =
    let e = sym c.volume_fits.ensures ∙ c.if-volume_fits.false in
    record {
      returned = format-wrong _ _ e;
      volume = format-left _ _ e;
    }
