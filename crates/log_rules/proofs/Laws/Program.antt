-- What a set of programs holds with and without a program and united with another, and that it stays in its 4 bytes.
use Rattle.std.specs.Prelude.{ℕ, zero, suc, ◌+◌, ◌*◌, ◌-◌, ◌/◌, ◌%◌, ◌^◌, max, ◌≤◌, ◌<◌, ◌≡◌, refl, ◌⊎◌, Bool, true, false, not, ◌&&◌, ◌||◌, cond, eqb}
use Rattle.std.proofs.Common.{pow-suc, div-one, arith, sym, ap, ◌∙◌, inl, inr, eqb-true}
use Rattle.std.proofs.Math.Nat.{pow-zero, pow-succ', div-div-eq-div-mul}
use Rattle.std.proofs.Math.Dec.{eqb-zero-suc, eqb-suc-zero, eqb-suc-suc}
use Rattle.std.proofs.lemmas.Bool.{eqb-false}
use Rattle.log_rules.specs.Programs.{holds, with, without, union_of, union}

-- program 0 is in a set of odd number
pub holds-first : (a : ℕ) → holds a 0 ≡ eqb (a % 2) 1
holds-first a = rw (pow-zero 2, div-one a)

-- a later program is in a set if the one before it is in its half
pub holds-next : (a p : ℕ) → holds a (suc p) ≡ holds (a / 2) p
holds-next a p = let e : a / 2 ^ suc p ≡ a / 2 / 2 ^ p = ap (λ (k : ℕ). a / k) (pow-succ' 2 p) ∙ sym (div-div-eq-div-mul a 2 (2 ^ p)) in rw e

-- a set that holds a program is a number no less than the program's bit
pub holds-most : (a p : ℕ) → holds a p ≡ true → 2 ^ p ≤ a
holds-most a zero h =
    let e : a % 2 ≡ 1 = eqb-true (a % 2) 1 (sym (holds-first a) ∙ h) in
    rw (pow-zero) (omega arith)
holds-most a (suc p) h =
    let e : 2 ^ p ≤ a / 2 = holds-most (a / 2) p (sym (holds-next a p) ∙ h) in
    rw (pow-suc) (omega arith)

-- program 0 joins a set by its lowest bit
pub with_first : (a : ℕ) → (with a 0 / 2 ≡ a / 2) × (with a 0 % 2 ≡ 1)
unfolding with
with_first a = go (holds a 0) refl
  where
    go : (t : Bool) → holds a 0 ≡ t → (cond t a (a + 2 ^ 0) / 2 ≡ a / 2) × (cond t a (a + 2 ^ 0) % 2 ≡ 1)
    go true h = (refl, eqb-true (a % 2) 1 (sym (holds-first a) ∙ h))
    go false h = let e : ¬ (a % 2 ≡ 1) = eqb-false (a % 2) 1 (sym (holds-first a) ∙ h) in (omega arith, omega arith)

-- a later program joins a set as the one before it joins its half
pub with-next : (a p : ℕ) → with a (suc p) ≡ a % 2 + 2 * with (a / 2) p
unfolding with
with-next a p = rw (holds-next a p, pow-suc 2 p) (go (holds (a / 2) p))
  where
    go : (t : Bool) → cond t a (a + 2 ^ p * 2) ≡ a % 2 + 2 * cond t (a / 2) (a / 2 + 2 ^ p)
    go true = omega arith
    go false = omega arith

-- program 0 leaves a set by its lowest bit
pub without-first : (a : ℕ) → (without a 0 / 2 ≡ a / 2) × (without a 0 % 2 ≡ 0)
unfolding without
without-first a = go (holds a 0) refl
  where
    go : (t : Bool) → holds a 0 ≡ t → (cond t (a - 2 ^ 0) a / 2 ≡ a / 2) × (cond t (a - 2 ^ 0) a % 2 ≡ 0)
    go true h = let e : a % 2 ≡ 1 = eqb-true (a % 2) 1 (sym (holds-first a) ∙ h) in (omega arith, omega arith)
    go false h = let e : ¬ (a % 2 ≡ 1) = eqb-false (a % 2) 1 (sym (holds-first a) ∙ h) in (refl, omega arith)

-- a later program leaves a set as the one before it leaves its half
pub without-next : (a p : ℕ) → without a (suc p) ≡ a % 2 + 2 * without (a / 2) p
unfolding without
without-next a p = rw (holds-next a p, pow-suc 2 p) (go (holds (a / 2) p) refl)
  where
    go : (t : Bool) → holds (a / 2) p ≡ t → cond t (a - 2 ^ p * 2) a ≡ a % 2 + 2 * cond t (a / 2 - 2 ^ p) (a / 2)
    go true h = let k = holds-most (a / 2) p h in omega arith
    go false h = omega arith

low_bit : (a x : ℕ) → (a % 2 + 2 * x) % 2 ≡ a % 2
low_bit a x = omega arith

high_bits : (a x : ℕ) → (a % 2 + 2 * x) / 2 ≡ x
high_bits a x = omega arith

-- a set with a program holds that program and what it held
pub holds-with : (a p q : ℕ) → holds (with a p) q ≡ (eqb p q || holds a q)
holds-with a zero zero = holds-first (with a 0) ∙ rw (with_first a).1
holds-with a zero (suc q) = holds-next (with a 0) q ∙ rw ((with_first a).0, eqb-zero-suc q) (sym (holds-next a q))
holds-with a (suc p) zero = holds-first (with a (suc p)) ∙ rw (with-next a p, low_bit a (with (a / 2) p), eqb-suc-zero p) (sym (holds-first a))
holds-with a (suc p) (suc q) =
    holds-next (with a (suc p)) q ∙ rw (with-next a p, high_bits a (with (a / 2) p), eqb-suc-suc p q, holds-next a q) (holds-with (a / 2) p q)

-- a set without a program holds what it held but that program
pub holds-without : (a p q : ℕ) → holds (without a p) q ≡ (not (eqb p q) && holds a q)
holds-without a zero zero = holds-first (without a 0) ∙ rw (without-first a).1
holds-without a zero (suc q) = holds-next (without a 0) q ∙ rw ((without-first a).0, eqb-zero-suc q) (sym (holds-next a q))
holds-without a (suc p) zero = holds-first (without a (suc p)) ∙ rw (without-next a p, low_bit a (without (a / 2) p), eqb-suc-zero p) (sym (holds-first a))
holds-without a (suc p) (suc q) =
    holds-next (without a (suc p)) q ∙ rw (without-next a p, high_bits a (without (a / 2) p), eqb-suc-suc p q, holds-next a q) (holds-without (a / 2) p q)

with-width : (w a p : ℕ) → a < 2 ^ w → p < w → with a p < 2 ^ w
with-width zero a p h k = absurd (omega arith)
with-width (suc w) a zero h k =
    let g : a < 2 ^ w * 2 = rw (pow-suc 2 w) at h in
    let e = (with_first a).0 in
    rw (pow-suc 2 w) (omega arith)
with-width (suc w) a (suc p) h k =
    let g : a < 2 ^ w * 2 = rw (pow-suc 2 w) at h in
    let e : with (a / 2) p < 2 ^ w = with-width w (a / 2) p (omega arith) (omega arith) in
    rw (pow-suc 2 w, with-next a p) (omega arith)

-- a set of 32 programs with one of them is such a set
pub with-below : (a p : ℕ) → a < 2 ^ 32 → p < 32 → with a p < 2 ^ 32
with-below a p h k = with-width 32 a p h k

-- a set without a program is a number no greater
pub without-least : (a p : ℕ) → without a p ≤ a
unfolding without
without-least a p = go (holds a p)
  where
    go : (t : Bool) → cond t (a - 2 ^ p) a ≤ a
    go true = omega arith
    go false = omega arith

-- a set of 32 programs without one of them is such a set
pub without-below : (a p : ℕ) → a < 2 ^ 32 → without a p < 2 ^ 32
without-below a p h = let k = without-least a p in omega arith

bit : (x : ℕ) → x < 2 → (x ≡ 0) ⊎ (x ≡ 1)
bit zero h = inl refl
bit (suc x) h = inr (omega arith)

either-bit : (x y : ℕ) → x < 2 → y < 2 → eqb (max x y) 1 ≡ (eqb x 1 || eqb y 1)
either-bit x y h k = go (bit x h) (bit y k)
  where
    go : (x ≡ 0) ⊎ (x ≡ 1) → (y ≡ 0) ⊎ (y ≡ 1) → eqb (max x y) 1 ≡ (eqb x 1 || eqb y 1)
    go (inl e) (inl f) = rw (e, f)
    go (inl e) (inr f) = rw (e, f)
    go (inr e) (inl f) = rw (e, f)
    go (inr e) (inr f) = rw (e, f)

-- two sets of so many programs, united, are such a set
pub union_of-below : (k a b : ℕ) → union_of k a b < 2 ^ k
unfolding union_of
union_of-below zero a b = rw (pow-zero 2) (omega arith)
union_of-below (suc k) a b = let e = union_of-below k (a / 2) (b / 2) in rw (pow-suc 2 k) (omega arith)

-- of so many programs, the united sets hold those that one of them holds
pub holds-union_of : (k a b p : ℕ) → p < k → holds (union_of k a b) p ≡ (holds a p || holds b p)
unfolding union_of
holds-union_of zero a b p h = absurd (omega arith)
holds-union_of (suc k) a b zero h =
    let m = max (a % 2) (b % 2) in
    let e : (m + 2 * union_of k (a / 2) (b / 2)) % 2 ≡ m = omega arith in
    holds-first (union_of (suc k) a b) ∙ rw (e, holds-first a, holds-first b) (either-bit (a % 2) (b % 2) (omega arith) (omega arith))
holds-union_of (suc k) a b (suc p) h =
    let m = max (a % 2) (b % 2) in
    let e : (m + 2 * union_of k (a / 2) (b / 2)) / 2 ≡ union_of k (a / 2) (b / 2) = omega arith in
    holds-next (union_of (suc k) a b) p ∙ rw (e, holds-next a p, holds-next b p) (holds-union_of k (a / 2) (b / 2) p (omega arith))

-- the union of two sets is a set of 32 programs
pub union-below : (a b : ℕ) → union a b < 2 ^ 32
union-below a b = union_of-below 32 a b

-- the union of two sets holds what one of them holds
pub holds-union : (a b p : ℕ) → p < 32 → holds (union a b) p ≡ (holds a p || holds b p)
holds-union a b p h = holds-union_of 32 a b p h

-- no program is in the empty set
pub holds-none : (p : ℕ) → holds 0 p ≡ false
holds-none zero = holds-first 0
holds-none (suc p) = holds-next 0 p ∙ holds-none p
