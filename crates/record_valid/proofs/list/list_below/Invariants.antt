-- `record_valid::list::list_below` meets its contract. The invariant: the objects from i on decide the answer. Assumes nothing.
use mathlib.Core.Path.{◌≡◌}
use lib.ListN.{drop}
use Rattle.record.specs.Fields.{all_below, objects_of}
use Rattle.record_valid.proofs.list.list_below.Given as goal

abbrev pub invariant-loop-i : goal.invariant-loop-i
invariant-loop-i l = all_below l.n (objects_of l.list) ≡ all_below l.n (drop l.i (objects_of l.list))
