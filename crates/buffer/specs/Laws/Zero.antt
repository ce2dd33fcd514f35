-- Laws of bytes that are all zero (document 01, "Bytes not in use are zero"): byte by byte, and as a list of zeros.
-- Assumes nothing.
use Rattle.std.specs.Prelude.{ℕ, zero, suc, ◌+◌, ◌<◌, Bool, true, ◌&&◌, List, [], ◌∷◌, ◌≡◌, refl, eqb, length, get_or, drop, replicate}
use Rattle.std.proofs.Math.Bool.{and-eq-true_iff, and_assoc}
use Rattle.std.proofs.Common.{sym, ap, ap₂, ◌∙◌, add-one, arith, drop-cons, eqb-true, ne_eqb}
use Rattle.std.specs.Int.Bits.{bit_or, or_add_and}
use Rattle.std.proofs.lemmas.Nat.{and_le_r}
use Rattle.buffer.specs.Code.Zero.{zeros}

-- Bytes are zero from a place on where the byte there is, and they are from the next place on.
pub zeros-step : (s : List ℕ) (i : ℕ) → i < length s → zeros (drop i s) ≡ eqb (get_or s i 0) 0 && zeros (drop (i + 1) s)
unfolding zeros
zeros-step s i h = rw (add-one, drop-cons s i 0)

-- Bytes that are all zero are so many zeros.
pub zeros-replicate : (s : List ℕ) → zeros s ≡ true → s ≡ replicate (length s) 0
unfolding zeros
zeros-replicate [] e = refl
zeros-replicate (a ∷ s) e =
    let h = (and-eq-true_iff (eqb a 0) (zeros s)).0 e in
    ap₂ (λ (v : ℕ) (r : List ℕ). v ∷ r) (eqb-true a 0 h.0) (zeros-replicate s h.1)

-- So many zeros are all zero.
pub replicate-zeros : (k : ℕ) → zeros (replicate k 0) ≡ true
unfolding zeros
replicate-zeros zero = refl
replicate-zeros (suc k) = replicate-zeros k

-- So many zeros have 0 in every place.
pub zeros-at : (k j : ℕ) → get_or {A = ℕ} (replicate k 0) j 0 ≡ 0
zeros-at zero j = refl
zeros-at (suc k) zero = refl
zeros-at (suc k) (suc j) = zeros-at k j

-- Two numbers have no bit set between them exactly where both are zero.
pub or-zero : (a b : ℕ) → eqb (bit_or a b) 0 ≡ eqb a 0 && eqb b 0
or-zero zero b = refl
or-zero (suc a) b =
    ne_eqb (bit_or (suc a) b) 0 (λ e. omega (arith, or_add_and (suc a) b, and_le_r (suc a) b))
    ∙ ap (λ (t : Bool). t && eqb b 0) (sym (ne_eqb (suc a) 0 (λ e. omega arith)))

-- Where a byte is added to the bits seen, none is seen and the rest is zero exactly where this was so before it.
pub zeros-seen : (s : List ℕ) (i seen : ℕ) → i < length s
    → eqb (bit_or seen (get_or s i 0)) 0 && zeros (drop (i + 1) s) ≡ eqb seen 0 && zeros (drop i s)
zeros-seen s i seen h =
    ap (λ (t : Bool). t && zeros (drop (i + 1) s)) (or-zero seen (get_or s i 0))
    ∙ and_assoc (eqb seen 0) (eqb (get_or s i 0) 0) (zeros (drop (i + 1) s))
    ∙ ap (λ (t : Bool). eqb seen 0 && t) (sym (zeros-step s i h))

-- for the function that tests bytes
pub ruleset seen = zeros-seen
