-- `volume_unique::digest::digest_of` meets its contract. The loop's invariant: the digest goes on from what is seen over what is left of the name.
-- Assumes nothing.
use Prim.Native.Nat.{ℕ, ◌+◌, ◌*◌, ◌%◌, ◌≤◌, ◌<◌}
use mathlib.Core.List.{List, map}
use mathlib.Core.Path.{◌≡◌, refl}
use native.Mathlib.Numerals.{add-one}
use native.Mathlib.Omega.{arith}
use lib.ListN.{length, get_or, drop, drop_of_length-le}
use lib.Seq.{drop-cons}
use Rattle.volume_unique.specs.Code.Checks.{digest_from, digest}
use Rattle.volume_unique.proofs.digest.digest_of.Goals as goal

-- a turn, and the loop's end, at the place i
module _ (s : List ℕ) (i m : ℕ) (inv : digest_from m (map (λ v. v % 32) (drop i s)) ≡ digest s) where
  step : i < length s → (x : ℕ) → x ≡ get_or s i 0 → digest_from (m % 4294967296 * 31 + x % 32) (map (λ v. v % 32) (drop (i + 1) s)) ≡ digest s
  unfolding digest_from
  step h x e = rw (e, add-one) (rw (drop-cons s i 0 h) at inv)

  ended : length s ≤ i → m ≡ digest s
  unfolding digest_from
  ended h = rw (drop_of_length-le s h) at inv

pub loop-i-init : goal.loop-i-init
loop-i-init c = refl

pub loop-i-preserved : goal.loop-i-preserved
loop-i-preserved c =
    let s = c.args.name.now in
    step s c.loop-i.i c.loop-i.seen c.loop-i.invariant (omega arith) c.byte_at.result c.byte_at.ensures.0

pub returns : goal.returns
returns c =
    ended c.args.name.now c.loop-i.i c.loop-i.seen c.loop-i.invariant (omega arith)
