-- `log_form::used::slots_formed` meets its contract. The loop's invariant: the test of all slots is that of the slots left, behind the last one.
-- Assumes nothing.
use Prim.Native.Nat.{ℕ, ◌*◌, ◌-◌}
use mathlib.Core.Bool.{Bool, false}
use mathlib.Core.List.{List}
use lib.ListN.{drop}
use Rattle.log_rules.specs.Stored.{slot_bytes}
use mathlib.Core.Path.{◌≡◌}
use Rattle.log_form.specs.Code.Checks.{slots_formed}
use Rattle.log_form.proofs.used.slots_formed.Given as goal

-- the test of the slots from a position on
abbrev pub left : List ℕ → ℕ → ℕ → ℕ → ℕ → ℕ → Bool → ℕ → Bool
left s n b m next last waits i = slots_formed n b next (m - i) last waits (drop (i * slot_bytes) s)

abbrev pub invariant-loop-i : goal.invariant-loop-i
invariant-loop-i l = left l.s l.n l.b l.m l.next l.last l.waits l.i ≡ slots_formed l.n l.b l.next l.m 0 false l.s
