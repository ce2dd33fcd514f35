-- The place is within the bytes held, and every array has its length.
use Rattle.std.proofs.Common.{◌≡◌, ◌≤◌, length}
use Rattle.script_commands.specs.Room.{Areas, Room}
use Rattle.script.proofs.main.Given as goal

abbrev pub invariant-loop-lines : goal.invariant-loop-lines
invariant-loop-lines l = (l.at ≤ l.held) × (l.held ≤ length l.buf) × (length l.buf ≡ 65536) × Areas l.s l.v l.l × Room l.first l.second
