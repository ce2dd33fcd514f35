-- The digits passed are none, or those of the number.
use Rattle.std.proofs.Common.{◌<◌, ◌^◌}
use Rattle.script_words.specs.Laws.Number.{Begun}
use Rattle.script_words.proofs.number.read_number.Given as goal

abbrev pub invariant-loop-c : goal.invariant-loop-c
invariant-loop-c l = (l.v < 2 ^ 64) × Begun l.w l.c-index l.v
