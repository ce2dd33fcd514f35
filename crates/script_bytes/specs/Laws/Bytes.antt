-- Bytes read two digits at a time, and why a word is refused.
use Rattle.std.specs.Prelude.{ℕ, zero, suc, ◌+◌, ◌*◌, ◌/◌, ◌%◌, ◌≤◌, ◌<◌, ◌≡◌, refl, List, [], ◌∷◌, ◌++◌, length, get_or, take, set}
use Rattle.std.proofs.Common.{add-one, arith, sym, ap, ◌∙◌, append_assoc, length-set, take-suc, take-suc-set, take_all}
use Rattle.buffer.specs.Numeral.{Bytes as AllBytes}
use Rattle.buffer.specs.Patch.{Put}
use Rattle.buffer.specs.Laws.Patch.{put-none, put-set, put_then}
use Rattle.script_bytes.specs.Bytes.{hex_digit, hex}

pub hex-length : (s : List ℕ) → length (hex s) ≡ 2 * length s
unfolding hex
hex-length [] = refl
hex-length (b ∷ s) = omega (arith, hex-length s)

pub hex-snoc : (s : List ℕ) (b : ℕ) → hex (s ++ (b ∷ [])) ≡ hex s ++ (hex_digit (b / 16) ∷ hex_digit (b % 16) ∷ [])
unfolding hex
hex-snoc [] b = refl
hex-snoc (x ∷ s) b = ap (λ (l : List ℕ). hex_digit (x / 16) ∷ hex_digit (x % 16) ∷ l) (hex-snoc s b)

-- a byte that is the digit of no number below 16
abbrev pub NoDigit : ℕ → Type 0
NoDigit c = (d : ℕ) → d < 16 → c ≡ hex_digit d → ⊥

pub hex-digits : (s : List ℕ) → AllBytes s → (k : ℕ) → k < length (hex s) → NoDigit (get_or (hex s) k 0) → ⊥
unfolding hex
hex-digits [] a k h n = omega arith
hex-digits (b ∷ s) a zero h n = n (b / 16) (omega (arith, a 0)) refl
hex-digits (b ∷ s) a (suc zero) h n = n (b % 16) (omega arith) refl
hex-digits (b ∷ s) a (suc (suc k)) h n = hex-digits s (λ i. a (suc i)) k (omega arith) n

-- the first bytes read, behind the `=`
abbrev pub Begun : List ℕ → ℕ → List ℕ → Type 0
Begun w i out = take (2 * i + 1) w ≡ 61 ∷ hex (take i out)

pub begun-none : (w out : List ℕ) → 0 < length w → get_or w 0 0 ≡ 61 → Begun w 0 out
unfolding hex
begun-none w out h e = take-suc w 0 0 h ∙ ap (λ (c : ℕ). c ∷ []) e

pub begun_more : (w out : List ℕ) (i h l : ℕ) → Begun w i out → 2 * i + 2 < length w → i < length out → h < 16 → l < 16 →
    get_or w (2 * i + 1) 0 ≡ hex_digit h → get_or w (2 * i + 2) 0 ≡ hex_digit l → Begun w (i + 1) (set out i (16 * h + l))
begun_more w out i h l b k o hs ls he le =
    let n : 2 * (i + 1) + 1 ≡ suc (suc (2 * i + 1)) = omega arith in
    let t₁ : take (suc (2 * i + 1)) w ≡ (61 ∷ hex (take i out)) ++ (hex_digit h ∷ []) =
    take-suc w (2 * i + 1) 0 (omega arith) ∙ ap (λ (x : List ℕ). x ++ (get_or w (2 * i + 1) 0 ∷ [])) b ∙ ap (λ (c : ℕ). (61 ∷ hex (take i out)) ++ (c ∷ [])) he in
    let m : suc (2 * i + 1) ≡ 2 * i + 2 = omega arith in
    let g : get_or w (suc (2 * i + 1)) 0 ≡ hex_digit l = ap (λ (j : ℕ). get_or w j 0) m ∙ le in
    let t₂ : take (suc (suc (2 * i + 1))) w ≡ ((61 ∷ hex (take i out)) ++ (hex_digit h ∷ [])) ++ (hex_digit l ∷ []) =
    take-suc w (suc (2 * i + 1)) 0 (omega arith) ∙ ap (λ (x : List ℕ). x ++ (get_or w (suc (2 * i + 1)) 0 ∷ [])) t₁ ∙ ap (λ (c : ℕ). ((61 ∷ hex (take i out)) ++ (hex_digit h ∷ [])) ++ (c ∷ [])) g in
    let q : (16 * h + l) / 16 ≡ h = omega arith in
    let r : (16 * h + l) % 16 ≡ l = omega arith in
    let s : hex (take (i + 1) (set out i (16 * h + l))) ≡ hex (take i out) ++ (hex_digit h ∷ hex_digit l ∷ []) =
    ap hex (rw add-one (take-suc-set out i (16 * h + l) o)) ∙ hex-snoc (take i out) (16 * h + l)
    ∙ ap (λ (x : ℕ). hex (take i out) ++ (hex_digit x ∷ hex_digit ((16 * h + l) % 16) ∷ [])) q
    ∙ ap (λ (x : ℕ). hex (take i out) ++ (hex_digit h ∷ hex_digit x ∷ [])) r in
    ap (λ (j : ℕ). take j w) n ∙ t₂ ∙ append_assoc (61 ∷ hex (take i out)) (hex_digit h ∷ []) (hex_digit l ∷ []) ∙ ap (λ (x : List ℕ). 61 ∷ x) (sym s)

pub begun-whole : (w out : List ℕ) (i n : ℕ) → Begun w i out → n ≡ i → length w ≡ 2 * i + 1 → w ≡ 61 ∷ hex (take n out)
begun-whole w out i n b k e = sym (take_all (2 * i + 1) w (omega arith)) ∙ b ∙ ap (λ (j : ℕ). 61 ∷ hex (take j out)) (sym k)

-- a word that has the digits of no bytes
word-length : (w s : List ℕ) → w ≡ 61 ∷ hex s → length w ≡ 2 * length s + 1
word-length w s e = omega (arith, ap length e, hex-length s)

pub refused-even : (w : List ℕ) → length w % 2 ≡ 0 → (s : List ℕ) → w ≡ 61 ∷ hex s → ⊥
refused-even w h s e = omega (arith, word-length w s e)

pub refused-long : (w : List ℕ) → 2048 < length w / 2 → (s : List ℕ) → length s ≤ 2048 → w ≡ 61 ∷ hex s → ⊥
refused-long w h s l e = omega (arith, word-length w s e)

pub refused-front : (w : List ℕ) → (get_or w 0 0 ≡ 61 → ⊥) → (s : List ℕ) → w ≡ 61 ∷ hex s → ⊥
refused-front w h s e = h (ap (λ (x : List ℕ). get_or x 0 0) e)

pub refused-digit : (w : List ℕ) (k j : ℕ) → j ≡ k + 1 → j < length w → NoDigit (get_or w j 0) → (s : List ℕ) → AllBytes s → w ≡ 61 ∷ hex s → ⊥
refused-digit w k j m h n s a e =
    let l : k < length (hex s) = omega (arith, ap length e) in
    let g : get_or w j 0 ≡ get_or (hex s) k 0 = ap (λ (x : List ℕ). get_or x j 0) e ∙ ap (λ (i : ℕ). get_or (61 ∷ hex s) i 0) (m ∙ add-one k) in
    hex-digits s a k l (rw g at n)

-- bytes put two digits at a time
pub digits-none : (xs s : List ℕ) (at : ℕ) → Put (hex (take 0 s)) at xs xs at
unfolding hex
digits-none xs s at = put-none xs at

pub digits_more : {xs ys : List ℕ} {at to : ℕ} (s : List ℕ) (i h l : ℕ) → Put (hex (take i s)) at xs ys to → i < length s → to + 1 < length ys →
    h ≡ hex_digit (get_or s i 0 / 16) → l ≡ hex_digit (get_or s i 0 % 16) → Put (hex (take (i + 1) s)) at xs (set (set ys to h) (to + 1) l) (to + 2)
digits_more {ys = ys} {to = to} s i h l p k room eh el =
    let t : hex (take (i + 1) s) ≡ hex (take i s) ++ (h ∷ l ∷ []) =
    ap hex (rw add-one (take-suc s i 0 k)) ∙ hex-snoc (take i s) (get_or s i 0) ∙ rw (eh, el) in
    let n : to + 1 + 1 ≡ to + 2 = omega arith in
    rw (t, ← n) (put_then p (put_then (put-set ys to h (omega arith)) (put-set (set ys to h) (to + 1) l (rw length-set room))))

pub digits-whole : {ys : List ℕ} {at to : ℕ} (xs s : List ℕ) (i : ℕ) → Put (hex (take i s)) (at + 1) (set xs at 61) ys to → i ≡ length s → at < length xs →
    Put (61 ∷ hex s) at xs ys to
digits-whole {at = at} xs s i p k h = put_then (put-set xs at 61 h) (rw (take_all i s (omega arith)) at p)
