-- `log_compact::move_down` meets its contract. The loop's invariant: the bytes behind the gap are moved down, up to the place that is
-- written next, and the others are as they were. Assumes nothing.
use Prim.Native.Nat.{◌+◌, ◌-◌}
use mathlib.Core.Path.{◌≡◌}
use lib.ListN.{length, drop}
use lib.Seq.{paste}
use Rattle.log_compact.proofs.move_down.Given as goal

abbrev pub invariant-loop-i : goal.invariant-loop-i
invariant-loop-i l =
    (l.s ≡ paste l.initial.s l.at (drop (l.at + l.len) l.initial.s) (l.i - l.at)) × (length l.s ≡ length l.initial.s)
