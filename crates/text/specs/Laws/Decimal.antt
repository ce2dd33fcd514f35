-- The two equations of a decimal numeral, which hold whatever bound its digits are computed with, and its length.
use Rattle.std.specs.Prelude.{ℕ, zero, suc, ◌+◌, ◌*◌, ◌-◌, ◌/◌, ◌%◌, ◌^◌, ◌≤◌, ◌<◌, ◌≡◌, refl, List, [], ◌∷◌, ◌++◌, Bool, true, false, length, set, ltb}
use Rattle.std.proofs.Common.{ap, sym, ◌∙◌, arith, length-append, lt-ltb, le-ltb, ltb-true, ltb-false}
use Rattle.std.proofs.Math.Nat.{pow-succ'}
use Rattle.buffer.specs.Patch.{Put}
use Rattle.buffer.specs.Laws.Patch.{put-set, put_then}
use Rattle.text.specs.Decimal.{digit, digits, decimal}

-- any two bounds that are large enough give the same digits
enough : (f g : ℕ) (b : Bool) (v : ℕ) → ltb v 10 ≡ b → v < f → v < g → digits f b v ≡ digits g b v
unfolding digits
enough zero g b v t h k = absurd (omega arith)
enough (suc f) zero b v t h k = absurd (omega arith)
enough (suc f) (suc g) true v t h k = refl
enough (suc f) (suc g) false v t h k =
    let big : 10 ≤ v = ltb-false v 10 t in
    ap (λ (l : List ℕ). l ++ (digit (v % 10) ∷ [])) (enough f g (ltb (v / 10) 10) (v / 10) refl (omega arith) (omega arith))

pub decimal-small : (v : ℕ) → v < 10 → decimal v ≡ digit v ∷ []
unfolding decimal digits
decimal-small v h = rw (lt-ltb v 10 h)

pub decimal-large : (v : ℕ) → 10 ≤ v → decimal v ≡ decimal (v / 10) ++ (digit (v % 10) ∷ [])
unfolding decimal digits
decimal-large v h =
    ap (λ (b : Bool). digits (suc v) b v) (le-ltb v 10 h)
    ∙ ap (λ (l : List ℕ). l ++ (digit (v % 10) ∷ [])) (enough v (suc (v / 10)) (ltb (v / 10) 10) (v / 10) refl (omega arith) (omega arith))

pub length-small : (v : ℕ) → v < 10 → length (decimal v) ≡ 1
length-small v h = rw (decimal-small v h)

pub length-large : (v : ℕ) → 10 ≤ v → length (decimal v) ≡ length (decimal (v / 10)) + 1
length-large v h = rw (decimal-large v h) (length-append (decimal (v / 10)) (digit (v % 10) ∷ []))

-- a number has a digit
pub some-digit : (v : ℕ) → 0 < length (decimal v)
some-digit v = go (ltb v 10) refl
  where
    go : (b : Bool) → ltb v 10 ≡ b → 0 < length (decimal v)
    go true t = omega (arith, length-small v (ltb-true v 10 t))
    go false t = omega (arith, length-large v (ltb-false v 10 t))

-- a numeral of a number below 10 ^ k has at most k digits
pub length-below : (k v : ℕ) → v < 10 ^ suc k → length (decimal v) ≤ suc k
length-below zero v h = let s : length (decimal v) ≡ 1 = length-small v (omega arith) in omega arith
length-below (suc k) v h =
    let less : v / 10 < 10 ^ suc k = omega (arith, pow-succ' 10 (suc k)) in
    go (ltb v 10) refl (length-below k (v / 10) less)
  where
    go : (b : Bool) → ltb v 10 ≡ b → length (decimal (v / 10)) ≤ suc k → length (decimal v) ≤ suc (suc k)
    go true t ih = omega (arith, length-small v (ltb-true v 10 t))
    go false t ih = omega (arith, length-large v (ltb-false v 10 t))

-- a number below 10 put at a place
pub small_put : (xs : List ℕ) (at v : ℕ) → v < 10 → at < length xs → Put (decimal v) at xs (set xs at (digit v)) (at + 1)
small_put xs at v small h = rw (decimal-small v small) (put-set xs at (digit v) h)

-- a larger one: the last digit behind the others
pub large-put : {xs ys : List ℕ} {at next : ℕ} (v : ℕ) → 10 ≤ v → Put (decimal (v / 10)) at xs ys next → next < length ys →
    Put (decimal v) at xs (set ys next (digit (v % 10))) (next + 1)
large-put {ys = ys} {next = next} v big p h = rw (decimal-large v big) (put_then p (put-set ys next (digit (v % 10)) h))

-- the number that some digits stand for, behind those that stand for another
unfoldable pub value_from : ℕ → List ℕ → ℕ
value_from v [] = v
value_from v (d ∷ l) = value_from (10 * v + (d - digit 0)) l

value-snoc : (v : ℕ) (l : List ℕ) (d : ℕ) → value_from v (l ++ (digit d ∷ [])) ≡ 10 * value_from v l + d
unfolding value_from
value-snoc v [] d = omega arith
value-snoc v (x ∷ l) d = value-snoc (10 * v + (x - digit 0)) l d

-- a number's digits stand for it
pub decimal-value : (v : ℕ) → value_from 0 (decimal v) ≡ v
unfolding value_from
decimal-value v = go (suc v) v (omega arith)
  where
    go : (f v : ℕ) → v < f → value_from 0 (decimal v) ≡ v
    go zero v h = absurd (omega arith)
    go (suc f) v h = by (ltb v 10) refl (λ (x : ℕ) (k : x < f). go f x k)
      where
        by : (b : Bool) → ltb v 10 ≡ b → ((x : ℕ) → x < f → value_from 0 (decimal x) ≡ x) → value_from 0 (decimal v) ≡ v
        by true t ih = rw (decimal-small v (ltb-true v 10 t)) (omega arith)
        by false t ih =
            let big : 10 ≤ v = ltb-false v 10 t in
            let i : value_from 0 (decimal (v / 10)) ≡ v / 10 = ih (v / 10) (omega arith) in
            rw (decimal-large v big, value-snoc 0 (decimal (v / 10)) (v % 10)) (omega arith)

-- none has a zero in front but 0 itself
pub decimal-front : (v : ℕ) → 0 < v → (l : List ℕ) → decimal v ≡ digit 0 ∷ l → ⊥
decimal-front v pos l e = go (suc v) v (omega arith) pos l e
  where
    go : (f v : ℕ) → v < f → 0 < v → (l : List ℕ) → decimal v ≡ digit 0 ∷ l → ⊥
    go zero v h pos l e = omega arith
    go (suc f) v h pos l e = by (ltb v 10) refl (λ (x : ℕ) (k : x < f). go f x k)
      where
        by : (b : Bool) → ltb v 10 ≡ b → ((x : ℕ) → x < f → 0 < x → (l : List ℕ) → decimal x ≡ digit 0 ∷ l → ⊥) → ⊥
        by true t ih = let z : digit v ∷ [] ≡ digit 0 ∷ l = sym (decimal-small v (ltb-true v 10 t)) ∙ e in let y : digit v ≡ digit 0 = cc in omega arith
        by false t ih =
            let big : 10 ≤ v = ltb-false v 10 t in
            front (decimal (v / 10)) refl (sym (decimal-large v big) ∙ e)
          where
            front : (d : List ℕ) → decimal (v / 10) ≡ d → decimal (v / 10) ++ (digit (v % 10) ∷ []) ≡ digit 0 ∷ l → ⊥
            front [] u w = omega (arith, ap length u, some-digit (v / 10))
            front (x ∷ d) u w =
                let y : x ∷ (d ++ (digit (v % 10) ∷ [])) ≡ digit 0 ∷ l = rw u at w in
                let z : x ≡ digit 0 = cc in
                ih (v / 10) (omega (arith, ltb-false v 10 t)) (omega (arith, ltb-false v 10 t)) d (rw z at u)
