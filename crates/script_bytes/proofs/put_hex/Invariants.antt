-- The digits of the bytes passed stand behind the `=`.
use Rattle.std.proofs.Common.{◌≡◌, ◌+◌, ◌*◌, length, take}
use Rattle.buffer.specs.Patch.{Put}
use Rattle.script_bytes.specs.Bytes.{hex}
use Rattle.script_bytes.proofs.put_hex.Given as goal

abbrev pub invariant-loop-b : goal.invariant-loop-b
invariant-loop-b l =
    (l.to ≡ l.at + 2 * l.b-index + 1) × (length l.out ≡ length l.initial.out) × Put (hex (take l.b-index l.s)) (l.at + 1) l.initial.out l.out l.to
