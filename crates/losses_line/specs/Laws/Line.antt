-- The lengths of the lines and of their parts.
use Rattle.std.specs.Prelude.{ℕ, ◌+◌, ◌≤◌, ◌<◌, ◌^◌, ◌≡◌, [], ◌∷◌, length}
use Rattle.std.proofs.Common.{arith, length-append}
use Rattle.text.specs.Decimal.{decimal}
use Rattle.text.specs.Laws.Decimal.{length-below}
use Rattle.losses_line.specs.Line.{with_end, line, bad_line}

pub length-with_end : (v end : ℕ) → length (with_end v end) ≡ length (decimal v) + 1
unfolding with_end
length-with_end v end = length-append (decimal v) (end ∷ [])

pub length-line : (sequence program code : ℕ) →
    length (line sequence program code) ≡ length (with_end sequence 32) + length (with_end program 32) + length (with_end code 10)
unfolding line
length-line sequence program code = simp length-append (omega arith)

pub length-bad : (offset : ℕ) → length (bad_line offset) ≡ 4 + length (with_end offset 10)
unfolding bad_line
length-bad offset = omega arith

-- a record's line has at most 16 bytes
pub line-short : (sequence program code : ℕ) → sequence < 2 ^ 32 → program < 32 → code < 10 → length (line sequence program code) ≤ 16
line-short sequence program code s p k =
    omega (
      arith,
      length-line sequence program code,
      length-with_end sequence 32,
      length-with_end program 32,
      length-with_end code 10,
      length-below 9 sequence (omega arith),
      length-below 1 program (omega arith),
      length-below 0 code (omega arith),
    )

-- a bad record's line has at most 25
pub bad-short : (offset : ℕ) → offset < 2 ^ 64 → length (bad_line offset) ≤ 25
bad-short offset h = omega (arith, length-bad offset, length-with_end offset 10, length-below 19 offset (omega arith))
