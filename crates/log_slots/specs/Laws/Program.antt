-- The bit of a program is within 4 bytes. Assumes nothing.
use Rattle.std.specs.Prelude.{ℕ, zero, suc, ◌+◌, ◌-◌, ◌^◌, ◌≤◌, ◌<◌, ◌≡◌, true, false}
use Rattle.std.proofs.Common.{pow-suc, arith}
use Rattle.std.proofs.Math.Nat.{pow-zero}
use Rattle.log_rules.specs.Programs.{holds, with, without}
use Rattle.log_rules.proofs.Laws.Program.{holds-none, with-below}

-- A bit is at least 1.
bit-least : (p : ℕ) → 1 ≤ 2 ^ p
bit-least zero = rw pow-zero (omega arith)
bit-least (suc p) = rw pow-suc (omega (arith, bit-least p))

-- A program is added by adding its bit where it is not in the set, and taken out by taking its bit away where it is.
pub with_in : (set p : ℕ) → holds set p ≡ true → set ≡ with set p
unfolding with
with_in set p h = rw h

pub with_out : (set p : ℕ) → holds set p ≡ false → set + 2 ^ p ≡ with set p
unfolding with
with_out set p h = rw h

pub without_in : (set p : ℕ) → holds set p ≡ true → set - 2 ^ p ≡ without set p
unfolding without
without_in set p h = rw h

pub without-out : (set p : ℕ) → holds set p ≡ false → set ≡ without set p
unfolding without
without-out set p h = rw h

-- The bit of one of 32 programs.
pub bit-limits : (p : ℕ) → p < 32 → (1 ≤ 2 ^ p) × (2 ^ p < 4294967296)
bit-limits p h = (bit-least p, omega (arith, with_out 0 p (holds-none p), with-below 0 p (omega arith) h))
