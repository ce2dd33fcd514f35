-- `volume_questions::listing::listing_len` meets its contract. The loop's invariant: the length is that of the listing of the entries
-- passed, below 1,024 for each. Assumes nothing.
use Prim.Native.Nat.{ℕ, ◌+◌}
use mathlib.Core.Path.{◌≡◌, refl, ap, ◌∙◌}
use native.Mathlib.Omega.{arith}
use lib.ListN.{length, length-append}
use Rattle.volume_tree.specs.Volume.{Volume}
use Rattle.volume_tree.specs.Stored.{read_volume}
use Rattle.volume_questions.specs.Listing.{listing, listed_at}
use Rattle.volume_questions.specs.Laws.Listing.{listing-next}
use Rattle.volume_questions.proofs.listing.listing_len.Goals as goal

none : (v : Volume) (d : ℕ) → 0 ≡ length (listing v d 0)
unfolding listing
none v d = refl

next : (v : Volume) (d i : ℕ) (l k : ℕ) → l ≡ length (listing v d i) → k ≡ length (listed_at v d i) → l + k ≡ length (listing v d (i + 1))
next v d i l k e q = rw (listing-next, length-append, e, q)

pub loop-i-init : goal.loop-i-init
loop-i-init c = let a = c.args in (none (read_volume a.n a.b a.s.now) a.d, omega arith)

pub listed_len-len-requires : goal.listed_len-len-requires
listed_len-len-requires c = record { lent = c.requires; i_lt_n = omega arith }

pub loop-i-preserved : goal.loop-i-preserved
loop-i-preserved c =
    let a = c.args in (
      next (read_volume a.n a.b a.s.now) a.d c.loop-i.i c.loop-i.len c.listed_len-len.result c.loop-i.invariant.0 c.listed_len-len.ensures.0,
      omega arith,
    )

pub returns : goal.returns
returns c =
    let a = c.args in
    let e : c.loop-i.i ≡ a.n = omega arith in
    c.loop-i.invariant.0 ∙ ap (λ (k : ℕ). length (listing (read_volume a.n a.b a.s.now) a.d k)) e
