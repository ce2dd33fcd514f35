-- `record_valid::list::good_list` meets its contract. The invariant: the objects from i on decide the answer. Assumes nothing.
use mathlib.Core.Path.{◌≡◌}
use lib.ListN.{drop}
use Rattle.record.specs.Fields.{valid_list, objects_of}
use Rattle.record.proofs.Laws.List.{good_from}
use Rattle.record_valid.proofs.list.good_list.Given as goal

abbrev pub invariant-loop-i : goal.invariant-loop-i
invariant-loop-i l = valid_list (objects_of l.list) ≡ good_from (drop l.i (objects_of l.list))
