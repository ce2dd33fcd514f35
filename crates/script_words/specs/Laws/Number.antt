-- A number read a digit at a time, and why a word is refused.
use Rattle.std.specs.Prelude.{ℕ, zero, suc, ◌+◌, ◌*◌, ◌-◌, ◌/◌, ◌%◌, ◌^◌, ◌≤◌, ◌<◌, ◌≡◌, refl, Bool, true, false, List, [], ◌∷◌, ◌++◌, ltb, length, get_or, take, drop}
use Rattle.std.proofs.Common.{add-one, arith, sym, ap, ◌∙◌, take-append-drop, take-suc, take_all, ltb-true, ltb-false}
use Rattle.std.proofs.Math.Decide.{dec_lt}
use Rattle.std.proofs.Math.ListN.{get_or-append}
use Rattle.std.proofs.Math.Seq.{get_or-append_seam}
use Rattle.text.specs.Decimal.{digit, decimal}
use Rattle.text.specs.Laws.Decimal.{decimal-small, decimal-large, length-small, length-large, value_from, decimal-value, decimal-front, some-digit}

-- a byte that is a digit
abbrev pub Digit : ℕ → Type 0
Digit c = (48 ≤ c) × (c ≤ 57)

-- every byte of a decimal numeral is a digit, and there is one
decimal-digits : (v i : ℕ) → i < length (decimal v) → Digit (get_or (decimal v) i 0)
decimal-digits v i h = go (suc v) v (omega arith) i h
  where
    go : (f v : ℕ) → v < f → (i : ℕ) → i < length (decimal v) → Digit (get_or (decimal v) i 0)
    go zero v b i h = absurd (omega arith)
    go (suc f) v b i h = by (ltb v 10) refl (λ (x : ℕ) (k : x < f). go f x k)
      where
        by : (t : Bool) → ltb v 10 ≡ t → ((x : ℕ) → x < f → (i : ℕ) → i < length (decimal x) → Digit (get_or (decimal x) i 0)) → Digit (get_or (decimal v) i 0)
        by true t ih =
            let small = ltb-true v 10 t in
            let z : i ≡ 0 = omega (arith, length-small v small) in
            rw (decimal-small v small, z) (omega arith, omega arith)
        by false t ih =
            let big = ltb-false v 10 t in
            at (dec_lt i (length (decimal (v / 10))))
          where
            at : Dec (i < length (decimal (v / 10))) → Digit (get_or (decimal v) i 0)
            at (yes k) =
                let big = ltb-false v 10 t in
                rw (decimal-large v big, get_or-append (decimal (v / 10)) (digit (v % 10) ∷ []) 0 i k) (ih (v / 10) (omega arith) i k)
            at (no k) =
                let big = ltb-false v 10 t in
                let z : i ≡ length (decimal (v / 10)) = omega (arith, length-large v big) in
                rw (decimal-large v big, z, get_or-append_seam (decimal (v / 10)) (digit (v % 10)) [] 0) (omega arith, omega arith)

-- one digit more
decimal-more : (v d : ℕ) → 0 < v → d < 10 → decimal (10 * v + d) ≡ decimal v ++ (digit d ∷ [])
decimal-more v d p h =
    let q : (10 * v + d) / 10 ≡ v = omega arith in
    let r : (10 * v + d) % 10 ≡ d = omega arith in
    decimal-large (10 * v + d) (omega arith) ∙ ap (λ (x : ℕ). decimal x ++ (digit ((10 * v + d) % 10) ∷ [])) q ∙ ap (λ (x : ℕ). decimal v ++ (digit x ∷ [])) r

-- a numeral that begins with another stands for no smaller number
value_grows : (v : ℕ) (l : List ℕ) → v ≤ value_from v l
unfolding value_from
value_grows v [] = omega arith
value_grows v (d ∷ l) = omega (arith, value_grows (10 * v + (d - digit 0)) l)

value-append : (v : ℕ) (a b : List ℕ) → value_from v (a ++ b) ≡ value_from (value_from v a) b
unfolding value_from
value-append v [] b = refl
value-append v (d ∷ a) b = value-append (10 * v + (d - digit 0)) a b

begins-below : (x y : ℕ) (l : List ℕ) → decimal x ≡ decimal y ++ l → y ≤ x
begins-below x y l e =
    let a : value_from 0 (decimal y ++ l) ≡ x = ap (value_from 0) (sym e) ∙ decimal-value x in
    let b : value_from 0 (decimal y ++ l) ≡ value_from y l = value-append 0 (decimal y) l ∙ ap (λ (v : ℕ). value_from v l) (decimal-value y) in
    omega (arith, value_grows y l)

-- the first digits of a word read: none, or those of a number that is not 0
pub record Begun (w : List ℕ) (i v : ℕ) : Type 0 where
  pub none : i ≡ 0 → v ≡ 0
  pub some : 0 < i → (0 < v) × (take i w ≡ decimal v)

pub begun-none : (w : List ℕ) → Begun w 0 0
begun-none w = record { none = λ e. refl; some = λ h. absurd (omega arith) }

pub begun_more : (w : List ℕ) (i v d : ℕ) → Begun w i v → i < length w → (get_or w 0 0 ≡ 48 → ⊥) → d < 10 → d + 48 ≡ get_or w i 0 → Begun w (i + 1) (10 * v + d)
begun_more w i v d b h f s e = record { none = λ z. absurd (omega arith); some = λ z. go (dec_lt 0 i) }
  where
    t : take (i + 1) w ≡ take i w ++ (get_or w i 0 ∷ [])
    t = rw add-one (take-suc w i 0 h)

    go : Dec (0 < i) → (0 < 10 * v + d) × (take (i + 1) w ≡ decimal (10 * v + d))
    go (yes p) =
        let q = b.some p in
        let k : get_or w i 0 ≡ digit d = omega arith in
        (omega (arith, q.0), t ∙ ap (λ (l : List ℕ). l ++ (get_or w i 0 ∷ [])) q.1 ∙ ap (λ (c : ℕ). decimal v ++ (c ∷ [])) k ∙ sym (decimal-more v d q.0 s))
    go (no p) =
        let z : i ≡ 0 = omega arith in
        let y = b.none z in
        let x : 10 * v + d ≡ d = omega arith in
        let k : get_or w i 0 ≡ digit d = omega arith in
        let g : 0 < d = nonzero d refl in
        let u : take i w ≡ [] = rw z in
        (omega arith, t ∙ ap (λ (l : List ℕ). l ++ (get_or w i 0 ∷ [])) u ∙ ap (λ (c : ℕ). c ∷ []) k ∙ sym (decimal-small d s) ∙ ap decimal (sym x))
      where
        nonzero : (n : ℕ) → n ≡ d → 0 < d
        nonzero zero r = let z : i ≡ 0 = omega arith in let m : get_or w 0 0 ≡ 48 = ap (λ (j : ℕ). get_or w j 0) (sym z) ∙ omega arith in absurd (f m)
        nonzero (suc n) r = omega arith

pub begun-whole : (w : List ℕ) (i v : ℕ) → Begun w i v → i ≡ length w → 0 < length w → w ≡ decimal v
begun-whole w i v b e h = sym (take_all i w (omega arith)) ∙ (b.some (omega arith)).1

pub whole-zero : (w : List ℕ) → get_or w 0 0 ≡ 48 → length w ≡ 1 → w ≡ decimal 0
whole-zero [] h l = absurd (omega arith)
whole-zero (c ∷ []) h l = ap (λ (x : ℕ). x ∷ []) h ∙ sym (decimal-small 0 (omega arith))
whole-zero (c ∷ d ∷ w) h l = absurd (omega arith)

-- a word that has the digits of no number
pub refused-empty : (w : List ℕ) → length w ≡ 0 → (x : ℕ) → w ≡ decimal x → ⊥
refused-empty w h x e = omega (arith, ap length e, some-digit x)

pub refused-zero : (w : List ℕ) → get_or w 0 0 ≡ 48 → (length w ≡ 1 → ⊥) → (x : ℕ) → w ≡ decimal x → ⊥
refused-zero [] h l x e = omega arith
refused-zero (c ∷ w) h l zero e = l (ap length e ∙ length-small 0 (omega arith))
refused-zero (c ∷ w) h l (suc x) e = decimal-front (suc x) (omega arith) w (sym e ∙ ap (λ (c : ℕ). c ∷ w) h)

pub refused-byte : (w : List ℕ) (i : ℕ) → i < length w → (Digit (get_or w i 0) → ⊥) → (x : ℕ) → w ≡ decimal x → ⊥
refused-byte w i h d x e =
    let k : i < length (decimal x) = omega (arith, ap length e) in
    d (rw e (decimal-digits x i k))

pub refused-large : (w : List ℕ) (i v : ℕ) → Begun w (i + 1) v → 2 ^ 64 ≤ v → (x : ℕ) → x < 2 ^ 64 → w ≡ decimal x → ⊥
refused-large w i v b h x s e =
    let p : decimal x ≡ decimal v ++ drop (i + 1) w = sym e ∙ sym (take-append-drop (i + 1) w) ∙ ap (λ (l : List ℕ). l ++ drop (i + 1) w) (b.some (omega arith)).1 in
    omega (arith, begins-below x v (drop (i + 1) w) p)
