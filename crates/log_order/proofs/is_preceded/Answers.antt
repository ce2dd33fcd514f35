-- `log_order::is_preceded` meets its contract: the direct test of the earlier slots decides.
-- Assumes nothing.
use native.Mathlib.Omega.{arith}
use mathlib.Core.Path.{sym, ◌∙◌}
use mathlib.Core.List.{[], append-nil}
use Rattle.log_rules.specs.Code.Slots.{slots_in}
use Rattle.log_dependence.specs.Laws.Reached.{slot-told}
use Rattle.log_order.specs.Laws.Precede.{earlier-decide}
use Rattle.log_order.proofs.is_preceded.Goals as goal

pub some_precedes-requires : goal.some_precedes-requires
some_precedes-requires c =
    record { slotted = c.requires.slotted; i_in_bounds = (omega arith, c.order_of-o.ensures.sized.near) }

pub returns : goal.returns
returns c =
    let a = c.args in
    let ord = slot-told a.s.now c.requires.slotted a.i c.requires.i_in_bounds _ c.recorded-rec.ensures.0 c.order_of-o.result c.order_of-o.ensures.told in
    c.some_precedes.ensures _ (record { objects = rw append-nil at (c.add.ensures _ [] ord c.none-set.ensures); stretch = ord.stretch })
    ∙ sym (earlier-decide (slots_in a.s.now) c.requires.rising a.i c.requires.i_in_bounds)
