-- `volume_questions::listing::put_listing` meets its contract. The loop's invariant: the listing of the entries passed is put at the start.
-- Assumes nothing.
use mathlib.Core.Path.{◌≡◌}
use lib.ListN.{length}
use Rattle.buffer.specs.Patch.{Put}
use Rattle.volume_tree.specs.Stored.{read_volume}
use Rattle.volume_questions.specs.Listing.{listing}
use Rattle.volume_questions.proofs.listing.put_listing.Given as goal

abbrev pub invariant-loop-i : goal.invariant-loop-i
invariant-loop-i l =
    Put (listing (read_volume l.n l.b l.s) l.d l.i) 0 l.initial.buf l.buf l.at × (length l.buf ≡ length l.initial.buf)
