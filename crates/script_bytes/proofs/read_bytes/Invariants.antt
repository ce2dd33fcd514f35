-- The bytes written are those of the digits passed.
use Rattle.std.proofs.Common.{◌≡◌, length}
use Rattle.script_bytes.specs.Laws.Digits.{Begun}
use Rattle.script_bytes.proofs.read_bytes.Given as goal

abbrev pub invariant-loop-i : goal.invariant-loop-i
invariant-loop-i l = (length l.out ≡ length l.initial.out) × Begun l.digits l.i l.out
