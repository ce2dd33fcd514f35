-- `names::all_permitted` meets its contract. The loop's invariant: the whole text is permitted exactly where what is left of it is.
-- Assumes nothing.
use mathlib.Core.Path.{◌≡◌}
use lib.ListN.{drop}
use Rattle.names.specs.Name.{all_permitted}
use Rattle.names.proofs.all_permitted.Given as goal

abbrev pub invariant-loop-b : goal.invariant-loop-b
invariant-loop-b l = all_permitted l.s ≡ all_permitted (drop l.b-index l.s)
