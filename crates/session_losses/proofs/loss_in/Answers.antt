-- `session_losses::loss_in` meets its contract: the used slots are searched. Assumes nothing.
use mathlib.Core.Path.{subst}
use mathlib.Core.List.{List}
use Rattle.log_rules.specs.Slot.{Slot}
use Rattle.log_rules.specs.Change.{is_loss_of}
use Rattle.log_slots.specs.Laws.Head.{lent-slotted, lent-slots}
use Rattle.log_find.specs.Code.Found.{FoundBy}
use Rattle.session_losses.proofs.loss_in.Goals as goal

pub loss_of-requires : goal.loss_of-requires
loss_of-requires c =
    lent-slotted 256 64 c.args.m c.args.log.now c.requires c.used.result (c.used.ensures.1 256 64 c.requires)

pub returns : goal.returns
returns c =
    let e = lent-slots 256 64 c.args.m c.args.log.now c.requires c.used.result (c.used.ensures.1 256 64 c.requires) in
    subst (λ (y : List Slot). FoundBy (is_loss_of c.args.program) y c.loss_of.result) e c.loss_of.ensures
