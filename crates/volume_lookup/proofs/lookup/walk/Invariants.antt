-- `volume_lookup::lookup::walk` meets its contract. The loop's invariant: what is still to come of the path, from the object reached and with
-- the marks so far, gives the answer and the marks of the whole. The measure is what is left of the path. Assumes nothing.
use Prim.Native.Nat.{◌+◌, ◌<◌, ◌-◌}
use lib.ListN.{length}
use Rattle.paths.specs.Path.{components}
use Rattle.volume_tree.specs.Stored.{read_volume}
use Rattle.volume_lookup.specs.Laws.Lookup.{Stands, rest_at}
use Rattle.volume_lookup.proofs.lookup.walk.Given as goal

abbrev pub invariant-loop-at : goal.invariant-loop-at
invariant-loop-at l =
    (l.o < l.n) × Stands (read_volume l.n l.b l.s) 0 (components l.path) l.initial.marks l.o (rest_at l.path l.at) l.marks

abbrev pub decreases-loop-at : goal.decreases-loop-at
decreases-loop-at l = length l.path + 1 - l.at
