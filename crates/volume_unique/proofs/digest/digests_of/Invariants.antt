-- `volume_unique::digest::digests_of` meets its contract. The loop's invariant: the digests of the entries passed are gathered, and 0 stands
-- behind them. Assumes nothing.
use mathlib.Core.Path.{◌≡◌}
use lib.ListN.{length}
use Rattle.volume_entry.specs.Entry.{name_of}
use Rattle.volume_tree.specs.Stored.{read_volume}
use Rattle.volume_unique.specs.Code.Checks.{digest}
use Rattle.volume_unique.specs.Laws.Loop.{Passed}
use Rattle.volume_unique.proofs.digest.digests_of.Given as goal

abbrev pub invariant-loop-i : goal.invariant-loop-i
invariant-loop-i l =
    (length l.digests ≡ 256) × Passed (λ e. digest (name_of e)) (read_volume l.n l.b l.s) l.i l.digests
