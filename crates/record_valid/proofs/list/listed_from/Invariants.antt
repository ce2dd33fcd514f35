-- `record_valid::list::listed_from` meets its contract. The invariant: what is left to search decides the answer. Assumes nothing.
use mathlib.Core.Path.{◌≡◌}
use lib.ListN.{drop}
use Rattle.record.specs.Fields.{member, objects_of}
use Rattle.record_valid.proofs.list.listed_from.Given as goal

abbrev pub invariant-loop-i : goal.invariant-loop-i
invariant-loop-i l = member l.object (drop l.from (objects_of l.list)) ≡ member l.object (drop l.i (objects_of l.list))
