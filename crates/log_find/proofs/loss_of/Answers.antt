-- `log_find::loss_of` meets its contract: the first slot that holds a loss of the program is sought. Assumes nothing.
use Prim.Native.Nat.{◌<◌}
use native.Mathlib.Omega.{arith}
use borrow.Author.Rules.{rules}
use mathlib.Core.Path.{sym}
use lib.ListN.{length}
use Rattle.log_rules.specs.Change.{is_loss_of}
use Rattle.log_rules.specs.Code.Slots.{slots_in}
use Rattle.log_slots.specs.Laws.Slot.{slots-count}
use Rattle.log_find.proofs.loss_of.Goals as goal

pub first_slot-requires : goal.first_slot-requires
first_slot-requires c =
    λ i h.
    let k : i < length (slots_in c.args.s.now) = omega (arith, slots-count c.args.s.now c.requires) in
    search rules

pub returns : goal.returns
returns c =
    let a = c.args in
    c.first_slot.ensures (is_loss_of a.p) (slots_in a.s.now) (sym (slots-count a.s.now c.requires)) (λ i r h k. search rules)
