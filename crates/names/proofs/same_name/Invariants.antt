-- `names::same_name` meets its contract. The loop's invariant: the two texts are the same name exactly where what is left of them is.
-- Assumes nothing.
use mathlib.Core.Path.{◌≡◌}
use lib.ListN.{drop}
use Rattle.names.specs.Name.{same_name}
use Rattle.names.proofs.same_name.Given as goal

abbrev pub invariant-loop-i : goal.invariant-loop-i
invariant-loop-i l = same_name l.a l.b ≡ same_name (drop l.i l.a) (drop l.i l.b)
