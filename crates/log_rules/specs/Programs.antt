-- Document 01: sets of programs, "bit p for program p", in 4 bytes.
use Rattle.std.specs.Prelude.{ℕ, zero, suc, ◌+◌, ◌*◌, ◌-◌, ◌/◌, ◌%◌, ◌^◌, max, Bool, cond, eqb}

-- whether a program is in a set
abbrev pub holds : ℕ → ℕ → Bool
holds set p = eqb (set / 2 ^ p % 2) 1

-- a set with a program, and without it
unfoldable pub with : ℕ → ℕ → ℕ
with set p = cond (holds set p) set (set + 2 ^ p)

unfoldable pub without : ℕ → ℕ → ℕ
without set p = cond (holds set p) (set - 2 ^ p) set

-- the programs of two sets, of so many programs
unfoldable pub union_of : ℕ → ℕ → ℕ → ℕ
union_of zero a b = 0
union_of (suc k) a b = max (a % 2) (b % 2) + 2 * union_of k (a / 2) (b / 2)

-- the 32 programs of two sets
abbrev pub union : ℕ → ℕ → ℕ
union a b = union_of 32 a b
