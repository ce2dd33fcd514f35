-- The digest of the bytes left, behind the number so far, is that of all.
use Rattle.std.proofs.Common.{◌≡◌, drop}
use Rattle.script_areas.specs.Digest.{offset, digest_from}
use Rattle.script_areas.proofs.digest.digest.Given as goal

abbrev pub invariant-loop-b : goal.invariant-loop-b
invariant-loop-b l = digest_from l.h (drop l.b-index l.s) ≡ digest_from offset l.s
