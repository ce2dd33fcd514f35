-- Bytes read from digits, two a byte, and why some digits are refused.
use Rattle.std.specs.Prelude.{ℕ, suc, ◌+◌, ◌*◌, ◌/◌, ◌%◌, ◌≤◌, ◌<◌, ◌≡◌, refl, List, [], ◌∷◌, ◌++◌, length, get_or, take, set}
use Rattle.std.proofs.Common.{add-one, arith, sym, ap, ◌∙◌, append_assoc, take-suc, take-suc-set, take_all}
use Rattle.buffer.specs.Numeral.{Bytes as AllBytes}
use Rattle.script_bytes.specs.Bytes.{hex_digit, hex}
use Rattle.script_bytes.specs.Laws.Bytes.{NoDigit, hex-length, hex-snoc, hex-digits}

-- the first bytes read of some digits
abbrev pub Begun : List ℕ → ℕ → List ℕ → Type 0
Begun d i out = take (2 * i) d ≡ hex (take i out)

pub begun-none : (d out : List ℕ) → Begun d 0 out
unfolding hex
begun-none d out = refl

pub begun_more : (d out : List ℕ) (i h l : ℕ) → Begun d i out → 2 * i + 1 < length d → i < length out → h < 16 → l < 16 →
    get_or d (2 * i) 0 ≡ hex_digit h → get_or d (2 * i + 1) 0 ≡ hex_digit l → Begun d (i + 1) (set out i (16 * h + l))
begun_more d out i h l b k o hs ls he le =
    let n : 2 * (i + 1) ≡ suc (suc (2 * i)) = omega arith in
    let e : suc (2 * i) ≡ 2 * i + 1 = omega arith in
    let first : take (suc (2 * i)) d ≡ hex (take i out) ++ (hex_digit h ∷ []) = take-suc d (2 * i) 0 (omega arith) ∙ cc (b, he) in
    let low : get_or d (suc (2 * i)) 0 ≡ hex_digit l = ap (λ (j : ℕ). get_or d j 0) e ∙ le in
    let both : take (suc (suc (2 * i))) d ≡ (hex (take i out) ++ (hex_digit h ∷ [])) ++ (hex_digit l ∷ []) = take-suc d (suc (2 * i)) 0 (omega arith) ∙ cc (first, low) in
    let q : (16 * h + l) / 16 ≡ h = omega arith in
    let r : (16 * h + l) % 16 ≡ l = omega arith in
    let s : hex (take (i + 1) (set out i (16 * h + l))) ≡ hex (take i out) ++ (hex_digit h ∷ hex_digit l ∷ []) =
    ap hex (rw add-one (take-suc-set out i (16 * h + l) o)) ∙ hex-snoc (take i out) (16 * h + l) ∙ rw (q, r) in
    ap (λ (j : ℕ). take j d) n ∙ both ∙ append_assoc (hex (take i out)) (hex_digit h ∷ []) (hex_digit l ∷ []) ∙ sym s

pub begun-whole : (d out : List ℕ) (i n : ℕ) → Begun d i out → n ≡ i → length d ≡ 2 * i → d ≡ hex (take n out)
begun-whole d out i n b k e = sym (take_all (2 * i) d (omega arith)) ∙ b ∙ ap (λ (j : ℕ). hex (take j out)) (sym k)

-- a word that has the digits of no bytes
pub refused-even : (d : List ℕ) → (length d % 2 ≡ 0 → ⊥) → (s : List ℕ) → d ≡ hex s → ⊥
refused-even d h s e = omega (arith, ap length e, hex-length s)

pub refused-long : (d : List ℕ) → 2048 < length d / 2 → (s : List ℕ) → length s ≤ 2048 → d ≡ hex s → ⊥
refused-long d h s l e = omega (arith, ap length e, hex-length s)

pub refused-digit : (d : List ℕ) (k : ℕ) → k < length d → NoDigit (get_or d k 0) → (s : List ℕ) → AllBytes s → d ≡ hex s → ⊥
refused-digit d k h n s a e = let l : k < length (hex s) = omega (arith, ap length e) in hex-digits s a k l (rw e at n)
