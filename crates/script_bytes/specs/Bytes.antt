-- The script format: "`=` followed by an even number of lower-case hexadecimal digits, two a byte", "no bytes argument is longer than 2,048 bytes".
use Rattle.std.specs.Prelude.{ℕ, ◌+◌, ◌*◌, ◌/◌, ◌%◌, ◌≤◌, ◌<◌, ◌≡◌, List, [], ◌∷◌, length, take, Option, None, Some}
use Rattle.buffer.specs.Numeral.{Bytes as AllBytes}

-- the byte of a digit: "0" is 48, and "a", which is 10, is 97
abbrev pub hex_digit : ℕ → ℕ
hex_digit d = 48 + d + 39 * (d / 10)

-- bytes in digits, two each
unfoldable pub hex : List ℕ → List ℕ
hex [] = []
hex (b ∷ s) = hex_digit (b / 16) ∷ hex_digit (b % 16) ∷ hex s

-- a byte is a digit's, or that of none
abbrev pub HexDigitOf : ℕ → Option ℕ → Type 0
HexDigitOf c (Some d) = (d < 16) × (c ≡ hex_digit d)
HexDigitOf c None = (d : ℕ) → d < 16 → c ≡ hex_digit d → ⊥

-- a word is `=` (61) and the digits of the bytes that the buffer begins with; where it is refused it has those of no 2,048 bytes or fewer
abbrev pub BytesOf : List ℕ → List ℕ → Option ℕ → Type 0
BytesOf w out (Some n) = (n ≤ 2048) × (n ≤ length out) × (w ≡ 61 ∷ hex (take n out))
BytesOf w out None = (s : List ℕ) → AllBytes s → length s ≤ 2048 → w ≡ 61 ∷ hex s → ⊥
