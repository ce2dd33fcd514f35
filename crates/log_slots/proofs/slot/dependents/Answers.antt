-- `log_slots::slot::dependents` meets its contract. Assumes nothing.
use Prim.Native.Nat.{ℕ}
use mathlib.Core.Path.{ap, ◌∙◌}
use mathlib.Core.List.{List}
use lib.ListN.{take, drop}
use Rattle.buffer.specs.Numeral.{numeral}
use Rattle.log_rules.specs.Stored.{dependents_at}
use Rattle.log_rules.proofs.Laws.Stored.{slot-dependents}
use Rattle.log_rules.specs.Code.Slots.{slots_in, slot_at}
use Rattle.log_rules.proofs.Laws.Geometry.{good-at}
use Rattle.log_slots.proofs.slot.dependents.Goals as goal

pub returns : goal.returns
returns c =
    let a = c.args in (
      c.four_at.ensures.0 ∙ ap (λ (s : List ℕ). numeral (take 4 (drop dependents_at s))) c.slot.ensures.0
          ∙ slot-dependents (slot_at (slots_in a.s.now) a.i) (good-at 256 64 (slots_in a.s.now) a.i c.requires.slotted.good c.requires.i_in_bounds).small,
      c.four_at.ensures.1,
    )
