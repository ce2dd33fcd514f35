-- `log_push::push` meets its contract: the used slots are lent on as a part, to be read and then to be closed up. Assumes nothing.
use native.Mathlib.Omega.{arith}
use mathlib.Core.Path.{ap, ◌∙◌}
use mathlib.Core.List.{List}
use lib.ListN.{length}
use Rattle.log_rules.specs.Slot.{Slot, good_slots}
use Rattle.log_rules.specs.Stored.{read_log}
use Rattle.log_rules.proofs.Laws.Geometry.{used-good}
use Rattle.volume_tree.specs.Stored.{read_volume}
use Rattle.log_slots.specs.Laws.Head.{lent-slotted, lent-slots}
use Rattle.log_push.specs.Laws.Push.{slot-sent, did-push, did-not-push}
use Rattle.log_push.proofs.push.Goals as goal

pub send_slot-requires : goal.send_slot-requires
send_slot-requires c =
    let a = c.args in
    let k = c.used.ensures.1 a.n a.b c.requires.logged in
    let e = lent-slots a.n a.b a.m a.log.now c.requires.logged c.used.result k in record {
      formed = c.requires.formed;
      slotted = lent-slotted a.n a.b a.m a.log.now c.requires.logged c.used.result k;
      s_value = (ap (good_slots a.n a.b) e ∙ used-good a.n a.b a.m a.log.now c.requires.logged, omega (arith, ap (λ (l : List Slot). length l) e, c.requires.i_bound.0));
    }

pub free_slot-requires : goal.free_slot-requires
free_slot-requires c =
    let a = c.args in
    let k = c.used.ensures.1 a.n a.b c.requires.logged in
    let e = lent-slots a.n a.b a.m a.log.now c.requires.logged c.used.result k in
    record {
      slotted = lent-slotted a.n a.b a.m a.log.now c.requires.logged c.used.result k;
      i_in_bounds = omega (arith, ap (λ (l : List Slot). length l) e, c.requires.i_bound.0);
    }

pub returns-then-send_slot : goal.returns-then-send_slot
returns-then-send_slot c =
    let a = c.args in
    let k = c.used.ensures.1 a.n a.b c.requires.logged in
    let e = lent-slots a.n a.b a.m a.log.now c.requires.logged c.used.result k in
    did-push a.b a.m (read_volume a.n a.b a.server.now) (read_log a.m a.log.now) a.i a.log.now c.send_slot.new.server _ e c.send_slot.result c.send_slot.ensures c.if-send_slot.true _
    (slot-sent a.n a.b a.m a.log.now c.requires.logged c.used.result k a.i c.requires.i_bound.0 c.requires.i_bound.1 c.free_slot.new.s c.free_slot.ensures)

pub returns : goal.returns
returns c =
    let a = c.args in
    let k = c.used.ensures.1 a.n a.b c.requires.logged in
    let e = lent-slots a.n a.b a.m a.log.now c.requires.logged c.used.result k in
    did-not-push a.b a.m (read_volume a.n a.b a.server.now) (read_log a.m a.log.now) a.i a.log.now c.send_slot.new.server _ e c.send_slot.result c.send_slot.ensures c.if-send_slot.false
