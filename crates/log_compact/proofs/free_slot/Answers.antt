-- `log_compact::free_slot` meets its contract: the gap that is closed is the slot's part.
-- Assumes nothing.
use mathlib.Core.Path.{◌∙◌}
use native.Mathlib.Omega.{arith}
use Rattle.log_rules.proofs.Laws.Geometry.{slotted-length}
use Rattle.log_compact.specs.Laws.Free.{slot-closed}
use Rattle.log_compact.proofs.free_slot.Goals as goal

pub move_down-requires : goal.move_down-requires
move_down-requires c = omega (arith, slotted-length c.args.s.now c.requires.slotted)

pub returns : goal.returns
returns c = c.move_down.ensures ∙ slot-closed c.args.s.now c.args.i c.requires.slotted
