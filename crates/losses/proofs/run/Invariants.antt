-- Less than the longest record is held, so there is room to read. Measure: the bytes that an offset can still count.
use Rattle.std.proofs.Common.{◌≡◌, ◌+◌, ◌-◌, ◌^◌, ◌<◌, length, take}
use Rattle.losses_report.specs.Pass.{longest}
use Rattle.losses.proofs.SoFar.{SoFar}
use Rattle.losses.proofs.run.Given as goal

abbrev pub invariant-loop-got : goal.invariant-loop-got
invariant-loop-got g l = let gives = g.R.Read.remaining in let holds = g.W.Write.contents in record {
  buf_long : length l.buf ≡ length l.initial.buf;
  out_long : length l.out ≡ length l.initial.out;
  short : l.held < longest;
  counted : l.base + l.held < 2 ^ 64;
  so_far : SoFar (gives l.initial.input) (gives l.input) (holds l.initial.output) (holds l.output) (take l.held l.buf) l.base;
}

abbrev pub decreases-loop-got : goal.decreases-loop-got
decreases-loop-got g l = 2 ^ 64 - (l.base + l.held)
