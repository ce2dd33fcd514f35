-- `volume_unique::digest::digest_of` meets its contract. The loop's invariant: the digest goes on from what is seen over what is left of the name.
-- Assumes nothing.
use Prim.Native.Nat.{◌%◌}
use mathlib.Core.List.{map}
use mathlib.Core.Path.{◌≡◌}
use lib.ListN.{drop}
use Rattle.volume_unique.specs.Code.Checks.{digest_from, digest}
use Rattle.volume_unique.proofs.digest.digest_of.Given as goal

abbrev pub invariant-loop-i : goal.invariant-loop-i
invariant-loop-i l = digest_from l.seen (map (λ v. v % 32) (drop l.i l.name)) ≡ digest l.name
