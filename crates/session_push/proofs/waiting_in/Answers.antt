-- `session_push::waiting_in` meets its contract: the used slots are searched. Assumes nothing.
use mathlib.Core.Path.{subst}
use mathlib.Core.List.{List}
use Rattle.log_rules.specs.Slot.{Slot}
use Rattle.log_rules.specs.Change.{is_sequence}
use Rattle.log_slots.specs.Laws.Head.{lent-slotted, lent-slots}
use Rattle.log_find.specs.Code.Found.{FoundBy}
use Rattle.session_push.proofs.waiting_in.Goals as goal

pub waiting_at-requires : goal.waiting_at-requires
waiting_at-requires c =
    lent-slotted 256 64 c.args.m c.args.log.now c.requires c.used.result (c.used.ensures.1 256 64 c.requires)

pub returns : goal.returns
returns c =
    let e = lent-slots 256 64 c.args.m c.args.log.now c.requires c.used.result (c.used.ensures.1 256 64 c.requires) in
    subst (λ (y : List Slot). FoundBy (is_sequence c.args.sequence) y c.waiting_at.result) e c.waiting_at.ensures
