-- The script format: "decimal digits, 0 to 18,446,744,073,709,551,615, no sign, no needless leading zero".
use Rattle.std.specs.Prelude.{ℕ, ◌<◌, ◌^◌, ◌≡◌, List, Option, None, Some}
use Rattle.text.specs.Decimal.{digit, decimal}

-- a byte is a digit's, or that of none
abbrev pub DigitOf : ℕ → Option ℕ → Type 0
DigitOf c (Some d) = (d < 10) × (c ≡ digit d)
DigitOf c None = (d : ℕ) → d < 10 → c ≡ digit d → ⊥

-- a word is the number whose decimal digits it has; where it is refused it has those of none
abbrev pub NumberOf : List ℕ → Option ℕ → Type 0
NumberOf w (Some v) = (w ≡ decimal v) × (v < 2 ^ 64)
NumberOf w None = (v : ℕ) → v < 2 ^ 64 → w ≡ decimal v → ⊥
