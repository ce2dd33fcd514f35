-- `volume_questions::listing::put_listing` meets its contract. The loop's invariant: the listing of the entries passed is put at the start.
-- Assumes nothing.
use Prim.Native.Nat.{ℕ, ◌+◌}
use mathlib.Core.List.{List}
use mathlib.Core.Path.{◌≡◌, refl, subst}
use native.Mathlib.Omega.{arith}
use Rattle.buffer.specs.Patch.{Put}
use Rattle.buffer.specs.Laws.Patch.{put_then, put-none}
use Rattle.volume_tree.specs.Volume.{Volume}
use Rattle.volume_tree.specs.Stored.{read_volume}
use Rattle.volume_questions.specs.Listing.{listing, listed_at}
use Rattle.volume_questions.specs.Laws.Listing.{listing-next, listing-within}
use Rattle.volume_questions.proofs.listing.put_listing.Goals as goal

none : (v : Volume) (d : ℕ) (l : List ℕ) → Put (listing v d 0) 0 l l 0
unfolding listing
none v d l = put-none l 0

next : (v : Volume) (d i : ℕ) {l m k : List ℕ} {p q : ℕ} → Put (listing v d i) 0 l m p → Put (listed_at v d i) p m k q → Put (listing v d (i + 1)) 0 l k q
next v d i e h = rw listing-next (put_then e h)

pub loop-i-init : goal.loop-i-init
loop-i-init c =
    let a = c.args in
    (none (read_volume a.n a.b a.s.now) a.d a.buf.now, refl)

pub put_listed-at-requires : goal.put_listed-at-requires
put_listed-at-requires c =
    let a = c.args in
    record {
      lent = c.requires.lent;
      i_lt_n = omega arith;
      i_in_bounds = omega (arith, c.requires.n_in_bounds, c.loop-i.invariant.0.ends, listing-within (read_volume a.n a.b a.s.now) a.d c.loop-i.i a.n (omega arith));
    }

pub loop-i-preserved : goal.loop-i-preserved
loop-i-preserved c =
    let a = c.args in
    (next (read_volume a.n a.b a.s.now) a.d c.loop-i.i c.loop-i.invariant.0 c.put_listed-at.ensures, omega arith)

pub shape_of-buf : goal.shape_of-buf
shape_of-buf c = c.loop-i.invariant.1

pub returns : goal.returns
returns c =
    let a = c.args in
    let e : c.loop-i.i ≡ a.n = omega arith in
    subst (λ (k : ℕ). Put (listing (read_volume a.n a.b a.s.now) a.d k) 0 a.buf.now c.loop-i.buf c.loop-i.at) e c.loop-i.invariant.0
