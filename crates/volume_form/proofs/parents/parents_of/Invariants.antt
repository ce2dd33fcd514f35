-- `volume_form::parents::parents_of` meets its contract. The loop's invariant: the parents of the entries passed are gathered, and 0 stands
-- behind them. Assumes nothing.
use mathlib.Core.Path.{◌≡◌}
use lib.ListN.{length}
use Rattle.volume_entry.specs.Entry.{parent_of}
use Rattle.volume_tree.specs.Stored.{read_volume}
use Rattle.volume_unique.specs.Laws.Loop.{Passed}
use Rattle.volume_form.proofs.parents.parents_of.Given as goal

abbrev pub invariant-loop-i : goal.invariant-loop-i
invariant-loop-i l = (length l.parents ≡ 256) × Passed parent_of (read_volume l.n l.b l.s) l.i l.parents
