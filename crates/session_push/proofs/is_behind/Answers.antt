-- `session_push::is_behind` meets its contract: the used slots are searched. Assumes nothing.
use Prim.Native.Nat.{◌<◌}
use mathlib.Core.Path.{sym, ap, ◌∙◌, subst}
use mathlib.Core.List.{List}
use lib.ListN.{length}
use Rattle.log_rules.specs.Slot.{Slot, sequence_of}
use Rattle.log_rules.specs.Stored.{read_log}
use Rattle.log_rules.specs.Order.{preceded}
use Rattle.log_rules.specs.Change.{waiting_of}
use Rattle.log_rules.proofs.Laws.Order.{Rising}
use Rattle.log_rules.proofs.Laws.Freed.{formed-rising}
use Rattle.log_rules.specs.Code.Slots.{slot_at}
use Rattle.log_slots.specs.Laws.Head.{lent-slotted, lent-slots}
use Rattle.session_push.proofs.is_behind.Goals as goal

pub is_preceded-requires : goal.is_preceded-requires
is_preceded-requires c =
    let a = c.args in
    let u = c.requires.logged in
    let q = c.used.ensures.1 256 64 u in
    let e = lent-slots 256 64 a.m a.log.now u c.used.result q in record {
      slotted = lent-slotted 256 64 a.m a.log.now u c.used.result q;
      i_in_bounds = subst (λ (y : List Slot). a.i < length y) (sym e) c.requires.i_bound;
      rising = subst (Rising sequence_of) (sym e) (formed-rising 256 64 a.m (read_log a.m a.log.now) u.form);
    }

pub returns : goal.returns
returns c =
    let a = c.args in
    let e = lent-slots 256 64 a.m a.log.now c.requires.logged c.used.result (c.used.ensures.1 256 64 c.requires.logged) in
    c.is_preceded.ensures ∙ ap (λ (y : List Slot). preceded (waiting_of y) (slot_at y a.i).recorded) e
