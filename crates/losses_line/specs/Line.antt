-- Document 01: "prints sequence, program and kind, separated by spaces, a line each; at a bad record, "bad", a space and
-- its byte offset".
use Rattle.std.specs.Prelude.{ℕ, List, [], ◌∷◌, ◌++◌}
use Rattle.text.specs.Decimal.{decimal}

-- a number and the byte that ends it: 32 is a space, 10 a line's end
unfoldable pub with_end : ℕ → ℕ → List ℕ
with_end v end = decimal v ++ (end ∷ [])

-- "sequence, program and kind, separated by spaces"
unfoldable pub line : ℕ → ℕ → ℕ → List ℕ
line sequence program code = with_end sequence 32 ++ (with_end program 32 ++ with_end code 10)

-- the word bad, "a space and its byte offset"
unfoldable pub bad_line : ℕ → List ℕ
bad_line offset = 98 ∷ 97 ∷ 100 ∷ 32 ∷ with_end offset 10
