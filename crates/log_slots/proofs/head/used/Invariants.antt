-- Assumes nothing.
-- `log_slots::head::used` meets its contract. The loop's invariant: the slots passed are used.
use Prim.Native.Nat.{ℕ, ◌≤◌}
use Rattle.log_rules.specs.Code.Slots.{Logged, used_in}
use Rattle.log_slots.proofs.head.used.Given as goal

abbrev pub invariant-loop-i : goal.invariant-loop-i
invariant-loop-i l = (n b : ℕ) → Logged n b l.m l.s → l.i ≤ used_in l.m l.s
