-- `record_reader::fit::fits` meets its contract: the three tests are those of `fits_whole`.
-- Assumes nothing.
use mathlib.Core.Path.{sym, ◌∙◌}
use Rattle.record_reader.specs.Code.Fit.{fits_whole}
use Rattle.record_reader.proofs.fit.fits.Goals as goal

pub returns-then-list_below : goal.returns-then-list_below
unfolding fits_whole
returns-then-list_below c =
    let l = rw c.stretch_of.ensures at c.list_below.ensures in
    rw (← c.objects_below.ensures, c.if-objects_below.true, sym l ∙ c.if-list_below.true) c.within_blocks.ensures

pub returns-else-list_below : goal.returns-else-list_below
unfolding fits_whole
returns-else-list_below c =
    let l = rw c.stretch_of.ensures at c.list_below.ensures in
    rw (← c.objects_below.ensures, c.if-objects_below.true, sym l ∙ c.if-list_below.false)

pub returns-else-objects_below : goal.returns-else-objects_below
unfolding fits_whole
returns-else-objects_below c = rw (← c.objects_below.ensures, c.if-objects_below.false)
