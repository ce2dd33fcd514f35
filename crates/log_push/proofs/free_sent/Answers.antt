-- `log_push::free_sent` meets its contract: the used slots are lent on as a part. Assumes nothing.
use native.Mathlib.Omega.{arith}
use mathlib.Core.Path.{ap}
use mathlib.Core.List.{List}
use lib.ListN.{length}
use Rattle.log_rules.specs.Slot.{Slot}
use Rattle.log_slots.specs.Laws.Head.{lent-slotted, lent-slots}
use Rattle.log_push.specs.Laws.Push.{slots-sent}
use Rattle.log_push.proofs.free_sent.Goals as goal

pub free_slots-requires : goal.free_slots-requires
free_slots-requires c =
    let a = c.args in
    let k = c.used.ensures.1 256 64 c.requires.logged in record {
      slotted = lent-slotted 256 64 a.m a.log.now c.requires.logged c.used.result k;
      s_in_bounds = omega (arith, ap (λ (l : List Slot). length l) (lent-slots 256 64 a.m a.log.now c.requires.logged c.used.result k), c.requires.log_in_bounds.0);
    }

pub returns : goal.returns
returns c =
    let a = c.args in
    let k = c.used.ensures.1 256 64 c.requires.logged in
    slots-sent 256 64 a.m a.log.now c.requires.logged c.used.result k a.sent.now c.requires.log_in_bounds.1 c.free_slots.new.s c.free_slots.ensures.s_after
