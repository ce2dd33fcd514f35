-- The union of two sets of programs is what the code computes by `|`.
use Rattle.std.specs.Prelude.{ℕ, zero, suc, ◌+◌, ◌*◌, ◌/◌, ◌%◌, ◌^◌, max, ◌<◌, ◌≡◌}
use Rattle.std.proofs.Common.{pow-suc, arith, sym, ap, ap₂, ◌∙◌}
use Rattle.std.proofs.Math.Nat.{pow-zero}
use Rattle.std.specs.Int.Bits.{bit_or, or_step}
use Rattle.log_rules.specs.Programs.{union_of, union}

halved : (k a : ℕ) → a < 2 ^ suc k → a / 2 < 2 ^ k
halved k a h = let g : a < 2 ^ k * 2 = rw (pow-suc 2 k) at h in omega arith

none_below : (a : ℕ) → a < 2 ^ 0 → a ≡ 0
none_below a h = let g : a < 1 = rw (pow-zero 2) at h in omega arith

union_of-or : (k a b : ℕ) → a < 2 ^ k → b < 2 ^ k → union_of k a b ≡ bit_or a b
unfolding union_of
union_of-or zero a b g h = sym (ap₂ bit_or (none_below a g) (none_below b h))
union_of-or (suc k) a b g h =
    let m = max (a % 2) (b % 2) in
    ap (λ (x : ℕ). m + 2 * x) (union_of-or k (a / 2) (b / 2) (halved k a g) (halved k b h)) ∙ turned m (bit_or (a / 2) (b / 2)) ∙ sym (or_step a b)
  where
    turned : (x y : ℕ) → x + 2 * y ≡ y * 2 + x
    turned x y = omega arith

-- the union of two sets of 32 programs has the bits of both
pub union-or : (a b : ℕ) → a < 2 ^ 32 → b < 2 ^ 32 → union a b ≡ bit_or a b
union-or a b g h = union_of-or 32 a b g h
