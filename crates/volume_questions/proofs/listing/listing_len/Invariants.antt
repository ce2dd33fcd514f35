-- `volume_questions::listing::listing_len` meets its contract. The loop's invariant: the length is that of the listing of the entries
-- passed, below 1,024 for each. Assumes nothing.
use Prim.Native.Nat.{◌*◌, ◌≤◌}
use mathlib.Core.Path.{◌≡◌}
use lib.ListN.{length}
use Rattle.volume_tree.specs.Stored.{read_volume}
use Rattle.volume_questions.specs.Listing.{listing}
use Rattle.volume_questions.proofs.listing.listing_len.Given as goal

abbrev pub invariant-loop-i : goal.invariant-loop-i
invariant-loop-i l = (l.len ≡ length (listing (read_volume l.n l.b l.s) l.d l.i)) × (l.len ≤ 1024 * l.i)
