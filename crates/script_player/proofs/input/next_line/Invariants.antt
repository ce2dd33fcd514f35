-- The invariant: the place is within the bytes held, they within the buffer, and none that was read is lost.
-- The measure is what more than the line so far the buffer has room for.
use Rattle.std.proofs.Common.{◌≡◌, ◌-◌, ◌≤◌, length}
use Rattle.std.specs.Io.KnownBytes.{Keeps}
use Rattle.script_player.specs.Line.{coming}
use Rattle.script_player.proofs.Lines.{here, Since}
use Rattle.script_player.proofs.input.next_line.Given as goal

abbrev pub invariant-loop-held : goal.invariant-loop-held
invariant-loop-held g l = let gives = g.R.Read.remaining in record {
  place : l.at ≤ l.held;
  room : l.held ≤ length l.buf;
  long : length l.buf ≡ length l.initial.buf;
  known : Keeps (coming l.initial.buf l.from l.to (gives l.initial.input)) (coming l.buf l.at l.held (gives l.input));
  since : Since (here l.initial.buf l.from l.to) (gives l.initial.input) (gives l.input) (here l.buf l.at l.held);
}

abbrev pub decreases-loop-held : goal.decreases-loop-held
decreases-loop-held g l = length l.initial.buf - (l.held - l.at)
