-- A number and its bytes determine each other: one law over the width.
use Rattle.std.specs.Prelude.{ℕ, zero, suc, ◌+◌, ◌*◌, ◌/◌, ◌%◌, ◌^◌, ◌≤◌, ◌<◌, ◌≡◌, refl, List, [], ◌∷◌, length, get_or, take, drop}
use Rattle.std.proofs.Common.{pow-suc, add-one, arith, sym, ap, ◌∙◌, length-take, length-drop, drop-cons, get_or-take, get_or-drop, length-take-le}
use Rattle.std.proofs.Math.Nat.{pow-zero}
use Rattle.std.proofs.Math.Decide.{dec_lt}
use Rattle.std.proofs.Math.ListN.{get_or-eq_default}
use Rattle.buffer.specs.Numeral.{bytes, numeral, Bytes}

pub length-bytes : (w v : ℕ) → length (bytes w v) ≡ w
unfolding bytes
length-bytes zero v = refl
length-bytes (suc w) v = ap suc (length-bytes w (v / 256))

-- a number that fits is read back from its bytes
pub numeral-bytes : (w v : ℕ) → v < 256 ^ w → numeral (bytes w v) ≡ v
unfolding bytes numeral
numeral-bytes zero v h = let h₁ : v < 1 = rw (pow-zero) at h in omega arith
numeral-bytes (suc w) v h =
    let h₁ : v < 256 ^ w * 256 = rw (pow-suc) at h in
    let ih : numeral (bytes w (v / 256)) ≡ v / 256 = numeral-bytes w (v / 256) (omega arith) in
    omega arith

bytes-tail : (b : ℕ) (s : List ℕ) → Bytes (b ∷ s) → Bytes s
bytes-tail b s h i = h (suc i)

-- bytes are read back from the number that they store
pub bytes-numeral : (s : List ℕ) → Bytes s → bytes (length s) (numeral s) ≡ s
unfolding bytes numeral
bytes-numeral [] h = refl
bytes-numeral (b ∷ s) h =
    let b₁ : b < 256 = h 0 in
    let low : (b + 256 * numeral s) % 256 ≡ b = omega arith in
    let high : (b + 256 * numeral s) / 256 ≡ numeral s = omega arith in
    rw (low, high) (ap (λ (t : List ℕ). b ∷ t) (bytes-numeral s (bytes-tail b s h)))

-- what some bytes store fits so many bytes
pub numeral-below : (s : List ℕ) → Bytes s → numeral s < 256 ^ length s
unfolding numeral
numeral-below [] h = rw (pow-zero) (omega arith)
numeral-below (b ∷ s) h =
    let b₁ : b < 256 = h 0 in
    let ih : numeral s < 256 ^ length s = numeral-below s (bytes-tail b s h) in
    rw (pow-suc) (omega arith)

-- the number at a place is its first byte and the number at the next place
pub numeral-step : (s : List ℕ) (w at : ℕ) → at < length s → numeral (take (suc w) (drop at s)) ≡ get_or s at 0 + 256 * numeral (take w (drop (at + 1) s))
unfolding numeral
numeral-step s w at h = rw (drop-cons s at 0 h, add-one) refl

-- the numbers of 1, 2 and 4 bytes at a place, by their bytes and halves
pub numeral-one : (s : List ℕ) (at : ℕ) → at < length s → numeral (take 1 (drop at s)) ≡ get_or s at 0
unfolding numeral
numeral-one s at h = numeral-step s 0 at h ∙ omega arith

pub numeral-two : (s : List ℕ) (at : ℕ) → at + 2 ≤ length s → numeral (take 2 (drop at s)) ≡ get_or s at 0 + 256 * get_or s (at + 1) 0
numeral-two s at h =
    let e₁ = numeral-one s (at + 1) (omega arith) in
    numeral-step s 1 at (omega arith) ∙ omega (arith, e₁)

pub numeral-four : (s : List ℕ) (at : ℕ) → at + 4 ≤ length s → numeral (take 4 (drop at s)) ≡ numeral (take 2 (drop at s)) + 65536 * numeral (take 2 (drop (at + 2) s))
numeral-four s at h =
    let a₂ : at + 1 + 1 ≡ at + 2 = omega arith in
    let e₀ = numeral-two s at (omega arith) in
    let e₁ = rw a₂ at (numeral-step s 2 (at + 1) (omega arith)) in
    numeral-step s 3 at (omega arith) ∙ omega (arith, e₀, e₁)

pub two_bytes : (a b : ℕ) → a < 256 → b < 256 → bytes 2 (a + 256 * b) ≡ a ∷ b ∷ []
unfolding bytes
two_bytes a b h k =
    let e₁ : (a + 256 * b) % 256 ≡ a = omega arith in
    let e₂ : (a + 256 * b) / 256 ≡ b = omega arith in
    let e₃ : b % 256 ≡ b = omega arith in
    rw (e₁, e₂, e₃)

-- a part of a list of bytes is one
pub bytes-part : (s : List ℕ) (n at : ℕ) → Bytes s → Bytes (take n (drop at s))
bytes-part s n at h i = go (dec_lt i n)
  where
    go : Dec (i < n) → get_or (take n (drop at s)) i 0 < 256
    go (yes k) = rw (get_or-take n (drop at s) i 0 k, get_or-drop at s i 0) (h (at + i))
    go (no k) = rw (get_or-eq_default (take n (drop at s)) 0 {n = i} (rw (length-take n (drop at s)) (omega arith))) (omega arith)

-- The bytes at a place are those of the number that they store.
pub number-back : (w at : ℕ) (s : List ℕ) → at + w ≤ length s → Bytes s → bytes w (numeral (take w (drop at s))) ≡ take w (drop at s)
number-back w at s h byte =
    let r = take w (drop at s) in
    let l : length r ≡ w = length-take-le w (drop at s) (rw (length-drop at s) (omega arith)) in
    ap (λ (n : ℕ). bytes n (numeral r)) (sym l) ∙ bytes-numeral r (bytes-part s w at byte)

-- what a number at a place is, for the functions that read one
pub ruleset numerals = (numeral-two, numeral-four)
