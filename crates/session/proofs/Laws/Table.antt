-- In a table whose numbers rise in rank the first row that holds has the number of the lowest rank. Assumes nothing.
use Rattle.std.specs.Prelude.{ℕ, ◌<◌, ◌≡◌, refl, List, [], ◌∷◌, ◌++◌, ◌⊎◌, Bool, true, false, cond, leb, ltb, eqb}
use Rattle.std.proofs.Common.{arith, sym, ap, ◌∙◌, inl, inr, ltb-true, leb-false, eqb-true}
use Rattle.std.proofs.Math.Bool.{and-eq-true_iff}
use Rattle.std.proofs.lemmas.Bool.{eqb-false}
use Rattle.returned.specs.Returned.{rank_of}
use Rattle.session.specs.Call.{Call, Answer, refusal}
use Rattle.session.specs.Refusal.{Row, lower, lowest_number}
use Rattle.session.specs.Model.{unless}
use Rattle.session.specs.Code.Table.{first_number, rising}

-- a number of some rank above another is not 0, which has the lowest
ranked : (k n : ℕ) → k < rank_of n → n ≡ 0 → ⊥
ranked k n low z = let e : rank_of n ≡ 0 = ap rank_of z in omega arith

-- what a table whose numbers rise gives is none, or above where they start
above : (k : ℕ) (l : List Row) → rising k l ≡ true → (first_number l ≡ 0) ⊎ (k < rank_of (first_number l))
unfolding first_number
above k [] h = inl refl
above k (r ∷ l) h =
    let both = (and-eq-true_iff (ltb k (rank_of r.number)) (rising (rank_of r.number) l)).0 h in
    let low = ltb-true k (rank_of r.number) both.0 in
    go r.holds low (above (rank_of r.number) l both.1)
  where
    go : (t : Bool) → k < rank_of r.number → (first_number l ≡ 0) ⊎ (rank_of r.number < rank_of (first_number l))
        → (cond t r.number (first_number l) ≡ 0) ⊎ (k < rank_of (cond t r.number (first_number l)))
    go true low rest = inr low
    go false low (inl z) = inl z
    go false low (inr z) = inr (omega arith)

lower-first : (k n f : ℕ) → k < rank_of n → (f ≡ 0) ⊎ (rank_of n < rank_of f) → lower n f ≡ n
lower-first k n f low or = go (eqb n 0) (eqb f 0) (leb (rank_of n) (rank_of f)) refl refl refl or
  where
    go : (s t u : Bool) → eqb n 0 ≡ s → eqb f 0 ≡ t → leb (rank_of n) (rank_of f) ≡ u → (f ≡ 0) ⊎ (rank_of n < rank_of f) → cond s f (cond t n (cond u n f)) ≡ n
    go true t u e d b o = absurd (ranked k n low (eqb-true n 0 e))
    go false true u e d b o = refl
    go false false true e d b o = refl
    go false false false e d b (inl z) = absurd (eqb-false f 0 d z)
    go false false false e d b (inr z) = let y = leb-false (rank_of n) (rank_of f) b in absurd (omega arith)

-- The first row that holds wins.
pub first-lowest : (k : ℕ) (l : List Row) → rising k l ≡ true → lowest_number l ≡ first_number l
unfolding lowest_number first_number
first-lowest k [] h = refl
first-lowest k (r ∷ l) h =
    let both = (and-eq-true_iff (ltb k (rank_of r.number)) (rising (rank_of r.number) l)).0 h in
    let low = ltb-true k (rank_of r.number) both.0 in
    let rest = first-lowest (rank_of r.number) l both.1 in
    go r.holds (ap (lower r.number) rest ∙ lower-first k r.number (first_number l) low (above (rank_of r.number) l both.1)) rest
  where
    go : (t : Bool) → lower r.number (lowest_number l) ≡ r.number → lowest_number l ≡ first_number l
        → cond t (lower r.number (lowest_number l)) (lowest_number l) ≡ cond t r.number (first_number l)
    go true e f = e
    go false e f = f

-- Two tables one behind the other: a number of the first is that of both, and where it gives none the second decides.
pub first-left : (k : ℕ) (a b : List Row) → first_number a ≡ k → (k ≡ 0 → ⊥) → first_number (a ++ b) ≡ k
unfolding first_number
first-left k [] b e n = absurd (n (sym e))
first-left k (r ∷ a) b e n = go r.holds (λ h. first-left k a b h n) e
  where
    go : (t : Bool) → (first_number a ≡ k → first_number (a ++ b) ≡ k) → cond t r.number (first_number a) ≡ k → cond t r.number (first_number (a ++ b)) ≡ k
    go true rest h = h
    go false rest h = rest h

pub first-right : (k : ℕ) (a b : List Row) → rising k a ≡ true → first_number a ≡ 0 → first_number (a ++ b) ≡ first_number b
unfolding first_number
first-right k [] b h e = refl
first-right k (r ∷ a) b h e =
    let both = (and-eq-true_iff (ltb k (rank_of r.number)) (rising (rank_of r.number) a)).0 h in
    let low = ltb-true k (rank_of r.number) both.0 in
    go r.holds low (first-right (rank_of r.number) a b both.1) e
  where
    go : (t : Bool) → k < rank_of r.number → (first_number a ≡ 0 → first_number (a ++ b) ≡ first_number b) → cond t r.number (first_number a) ≡ 0
        → cond t r.number (first_number (a ++ b)) ≡ first_number b
    go true low f z = absurd (ranked k r.number low z)
    go false low f z = f z

-- What a call answers that its table may refuse.
pub unless-refuses : (c : Call) (rows : List Row) (a : Answer) (k : ℕ) → lowest_number rows ≡ k → (k ≡ 0 → ⊥) → unless c rows a ≡ refusal k c
unless-refuses c rows a k e n = go (eqb (lowest_number rows) 0) refl
  where
    go : (t : Bool) → eqb (lowest_number rows) 0 ≡ t → cond t a (refusal (lowest_number rows) c) ≡ refusal k c
    go true z = absurd (n (sym e ∙ eqb-true (lowest_number rows) 0 z))
    go false z = ap (λ (j : ℕ). refusal j c) e

pub unless-passes : (c : Call) (rows : List Row) (a : Answer) → lowest_number rows ≡ 0 → unless c rows a ≡ a
unless-passes c rows a e = go (eqb (lowest_number rows) 0) refl
  where
    go : (t : Bool) → eqb (lowest_number rows) 0 ≡ t → cond t a (refusal (lowest_number rows) c) ≡ a
    go true z = refl
    go false z = absurd (eqb-false (lowest_number rows) 0 z e)

-- A number that it answers and that an accepted call does not is the table's.
pub unless-number : (c : Call) (rows : List Row) (a : Answer) (k : ℕ) → a.returned ≡ 0 → (k ≡ 0 → ⊥) → (unless c rows a).returned ≡ k → lowest_number rows ≡ k
unless-number c rows a k z n e = go (eqb (lowest_number rows) 0) refl e
  where
    go : (t : Bool) → eqb (lowest_number rows) 0 ≡ t → (cond t a (refusal (lowest_number rows) c)).returned ≡ k → lowest_number rows ≡ k
    go true y h = absurd (n (sym h ∙ z))
    go false y h = h
