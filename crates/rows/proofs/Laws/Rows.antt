-- What the tests of rows find: a length in no row, one in more than one, and the one row that holds a length. Assumes nothing.
use Rattle.std.specs.Prelude.{ℕ, zero, suc, ◌+◌, ◌≤◌, ◌<◌, ◌≡◌, refl, ◌↔◌, ◌⊎◌, Bool, true, false, leb, ltb, eqb}
use Rattle.std.proofs.Common.{arith, sym, ap, ◌∙◌, inl, inr, leb-true, ltb-true, eqb-true, le-leb, lt-ltb, eq-eqb}
use Rattle.std.proofs.Math.Decide.{dec_lt, dec_le}
use mathlib.Core.List.Memᴰ
use mathlib.Core.List.{List, [], ◌∷◌, Memᴰ}
use Rattle.std.specs.Prelude.{Some}
use Rattle.std.proofs.Math.Bool.{and-eq-true_iff}
use Rattle.std.proofs.lemmas.Bool.{false≢true}
use Rattle.buffer.specs.Laws.Test.{either, or_left, or_right}
use Rattle.rows.specs.declared.Row.{Row}
use Rattle.rows.specs.Rows.{in_row, rows_with, last_length, EachInOne, any_row, is_left_out, is_doubled, has_gap, has_overlap}
use Rattle.rows.specs.Due.{seconds_for}

-- a test that is not passed fails
fails : (t : Bool) → (t ≡ true → ⊥) → t ≡ false
fails true f = absurd (f refl)
fails false f = refl

-- A length lies in a row exactly between its ends.
in-limits : (n : ℕ) (r : Row) → in_row n r ≡ true → (r.shortest ≤ n) × (n ≤ r.longest)
in-limits n r e =
    let x = (and-eq-true_iff (leb r.shortest n) (leb n r.longest)).0 e in
    (leb-true _ _ x.0, leb-true _ _ x.1)

limits-in : (n : ℕ) (r : Row) → r.shortest ≤ n → n ≤ r.longest → in_row n r ≡ true
limits-in n r h k = rw (le-leb _ _ h, le-leb _ _ k)

-- Some row passes a test exactly if a row of the list does.
any-row : (f : Row → Bool) (l : List Row) → any_row f l ≡ true → (r : Row) × Memᴰ r l × (f r ≡ true)
unfolding any_row
any-row f [] e = absurd (false≢true e)
any-row f (a ∷ l) e = either (f a) (any_row f l) e (λ h. (a, Memᴰ.head refl, h)) (λ h. let x = any-row f l h in (x.0, Memᴰ.tail x.1, x.2))

row_any : (f : Row → Bool) (l : List Row) (r : Row) → Memᴰ r l → f r ≡ true → any_row f l ≡ true
unfolding any_row
row_any f [] r m e = absurd (Memᴰ.not-nil m)
row_any f (a ∷ l) r m e = go (row_any f l r) (Memᴰ.cases_cons m)
  where
    go : (Memᴰ r l → f r ≡ true → any_row f l ≡ true) → (r ≡ a) ⊎ Memᴰ r l → any_row f (a ∷ l) ≡ true
    go ih (inl p) = or_left (f a) (any_row f l) (ap f (sym p) ∙ e)
    go ih (inr k) = or_right (f a) (any_row f l) (ih k e)

-- One row more holds a length or does not.
with-yes : (n : ℕ) (a : Row) (l : List Row) → in_row n a ≡ true → rows_with n (a ∷ l) ≡ suc (rows_with n l)
unfolding rows_with
with-yes n a l e = rw e

with-no : (n : ℕ) (a : Row) (l : List Row) → in_row n a ≡ false → rows_with n (a ∷ l) ≡ rows_with n l
unfolding rows_with
with-no n a l e = rw e

with-more : (n : ℕ) (a : Row) (l : List Row) → rows_with n l ≤ rows_with n (a ∷ l)
with-more n a l = go (in_row n a) refl
  where
    go : (t : Bool) → in_row n a ≡ t → rows_with n l ≤ rows_with n (a ∷ l)
    go true e = omega (arith, with-yes n a l e)
    go false e = omega (arith, with-no n a l e)

with_none : (n : ℕ) → rows_with n [] ≡ 0
unfolding rows_with
with_none n = refl

-- A length lies in more than no row exactly if a row of the list holds it.
with_row : (n : ℕ) (l : List Row) → 0 < rows_with n l → (r : Row) × Memᴰ r l × (in_row n r ≡ true)
with_row n [] h = absurd (omega (arith, with_none n))
with_row n (a ∷ l) h = go (with_row n l) (in_row n a) refl
  where
    go : (0 < rows_with n l → (r : Row) × Memᴰ r l × (in_row n r ≡ true)) → (t : Bool) → in_row n a ≡ t → (r : Row) × Memᴰ r (a ∷ l) × (in_row n r ≡ true)
    go ih true e = (a, Memᴰ.head refl, e)
    go ih false e = let x = ih (omega (arith, with-no n a l e)) in (x.0, Memᴰ.tail x.1, x.2)

row-with : (n : ℕ) (l : List Row) (r : Row) → Memᴰ r l → in_row n r ≡ true → 0 < rows_with n l
row-with n [] r m e = absurd (Memᴰ.not-nil m)
row-with n (a ∷ l) r m e = go (row-with n l r) (Memᴰ.cases_cons m)
  where
    go : (Memᴰ r l → in_row n r ≡ true → 0 < rows_with n l) → (r ≡ a) ⊎ Memᴰ r l → 0 < rows_with n (a ∷ l)
    go ih (inl p) = omega (arith, with-yes n a l (ap (in_row n) (sym p) ∙ e))
    go ih (inr k) = omega (arith, ih k e, with-more n a l)

-- The test of a length up to 65,536 in no row, and in more than one.
left_out : (l : List Row) (n : ℕ) → n ≤ last_length → rows_with n l ≡ 0 → is_left_out l n ≡ true
left_out l n h e = rw (le-leb _ _ h) (eq-eqb _ _ e)

out-left : (l : List Row) (n : ℕ) → is_left_out l n ≡ true → (n ≤ last_length) × (rows_with n l ≡ 0)
out-left l n e =
    let x = (and-eq-true_iff (leb n last_length) (eqb (rows_with n l) 0)).0 e in
    (leb-true _ _ x.0, eqb-true _ _ x.1)

doubled : (l : List Row) (n : ℕ) → n ≤ last_length → 1 < rows_with n l → is_doubled l n ≡ true
doubled l n h e = rw (le-leb _ _ h) (lt-ltb _ _ e)

of-doubled : (l : List Row) (n : ℕ) → is_doubled l n ≡ true → (n ≤ last_length) × (1 < rows_with n l)
of-doubled l n e =
    let x = (and-eq-true_iff (leb n last_length) (ltb 1 (rows_with n l))).0 e in
    (leb-true _ _ x.0, ltb-true _ _ x.1)

-- Down from a length in no row: 0 is one, or the length behind the longest of a row.
gap_from : (l : List Row) (n : ℕ) → n ≤ last_length → rows_with n l ≡ 0 → has_gap l ≡ true
unfolding has_gap
gap_from l zero h e = or_left (is_left_out l 0) (any_row (λ r. is_left_out l (r.longest + 1)) l) (left_out l 0 h e)
gap_from l (suc n) h e = go (gap_from l n (omega arith)) (dec_lt 0 (rows_with n l))
  where
    behind : (r : Row) → Memᴰ r l → in_row n r ≡ true → r.longest + 1 ≡ suc n
    behind r m i = pick (dec_le (suc n) r.longest)
      where
        x : (r.shortest ≤ n) × (n ≤ r.longest)
        x = in-limits n r i

        pick : Dec (suc n ≤ r.longest) → r.longest + 1 ≡ suc n
        pick (yes k) = absurd (omega (arith, x, row-with (suc n) l r m (limits-in (suc n) r (omega (arith, x)) k)))
        pick (no k) = omega (arith, x)

    go : (rows_with n l ≡ 0 → has_gap l ≡ true) → Dec (0 < rows_with n l) → has_gap l ≡ true
    go ih (yes k) =
        let x = with_row n l k in
        let t : is_left_out l (x.0.longest + 1) ≡ true = rw (behind x.0 x.1 x.2) (left_out l (suc n) h e) in
        or_right (is_left_out l 0) (any_row (λ r. is_left_out l (r.longest + 1)) l) (row_any (λ r. is_left_out l (r.longest + 1)) l x.0 x.1 t)
    go ih (no k) = ih (omega arith)

-- There is a gap exactly if a length up to 65,536 lies in no row.
pub gap-exact : (l : List Row) → (has_gap l ≡ true) ↔ ((n : ℕ) × (n ≤ last_length) × (rows_with n l ≡ 0))
unfolding has_gap
gap-exact l = (
  λ e. either (is_left_out l 0) (any_row (λ r. is_left_out l (r.longest + 1)) l) e
      (λ h. let x = out-left l 0 h in (0, x.0, x.1))
      (λ h. let r = any-row (λ r. is_left_out l (r.longest + 1)) l h in let x = out-left l (r.0.longest + 1) r.2 in (r.0.longest + 1, x.0, x.1)),
  λ x. gap_from l x.0 x.1 x.2,
)

-- Of two rows that hold a length, the larger shortest lies in both.
overlap-at : (n : ℕ) (l : List Row) → 1 < rows_with n l → (r : Row) × Memᴰ r l × (r.shortest ≤ n) × (1 < rows_with r.shortest l)
overlap-at n [] h = absurd (omega (arith, with_none n))
overlap-at n (a ∷ l) h = go (overlap-at n l) (in_row n a) refl
  where
    two : (b : Row) → Memᴰ b l → in_row n b ≡ true → in_row n a ≡ true
        → Dec (a.shortest ≤ b.shortest) → (r : Row) × Memᴰ r (a ∷ l) × (r.shortest ≤ n) × (1 < rows_with r.shortest (a ∷ l))
    two b m i e (yes k) =
        let x = in-limits n a e in
        let y = in-limits n b i in
        let p = with-yes b.shortest a l (limits-in b.shortest a k (omega arith)) in
        let q = row-with b.shortest l b m (limits-in b.shortest b (omega arith) (omega arith)) in
        (b, Memᴰ.tail m, y.0, omega arith)
    two b m i e (no k) =
        let x = in-limits n a e in
        let y = in-limits n b i in
        let p = with-yes a.shortest a l (limits-in a.shortest a (omega arith) (omega arith)) in
        let q = row-with a.shortest l b m (limits-in a.shortest b (omega arith) (omega arith)) in
        (a, Memᴰ.head refl, x.0, omega arith)

    go : (1 < rows_with n l → (r : Row) × Memᴰ r l × (r.shortest ≤ n) × (1 < rows_with r.shortest l)) → (t : Bool) → in_row n a ≡ t
        → (r : Row) × Memᴰ r (a ∷ l) × (r.shortest ≤ n) × (1 < rows_with r.shortest (a ∷ l))
    go ih true e =
        let b = with_row n l (omega (arith, with-yes n a l e)) in
        two b.0 b.1 b.2 e (dec_le a.shortest b.0.shortest)
    go ih false e =
        let x = ih (omega (arith, with-no n a l e)) in
        (x.0, Memᴰ.tail x.1, x.2, omega (arith, x.3, with-more x.0.shortest a l))

-- There is an overlap exactly if a length up to 65,536 lies in more than one row.
pub overlap-exact : (l : List Row) → (has_overlap l ≡ true) ↔ ((n : ℕ) × (n ≤ last_length) × (1 < rows_with n l))
unfolding has_overlap
overlap-exact l = (
  λ e. let r = any-row (λ r. is_doubled l r.shortest) l e in let x = of-doubled l r.0.shortest r.2 in (r.0.shortest, x.0, x.1),
  λ x. let r = overlap-at x.0 l x.2 in row_any (λ r. is_doubled l r.shortest) l r.0 r.1 (doubled l r.0.shortest (omega (arith, x.1, r.2)) r.3),
)

-- Each length lies in exactly one row exactly if there is no gap and no overlap.
pub each-in-one : (l : List Row) → EachInOne l ↔ ((has_gap l ≡ false) × (has_overlap l ≡ false))
each-in-one l = (λ e. (fails (has_gap l) (gapless e), fails (has_overlap l) (single e)), λ x n h. one x n h (dec_lt 0 (rows_with n l)) (dec_lt 1 (rows_with n l)))
  where
    gapless : EachInOne l → has_gap l ≡ true → ⊥
    gapless e t = let x = (gap-exact l).0 t in omega (arith, x.2, e x.0 x.1)

    single : EachInOne l → has_overlap l ≡ true → ⊥
    single e t = let x = (overlap-exact l).0 t in omega (arith, x.2, e x.0 x.1)

    one : (has_gap l ≡ false) × (has_overlap l ≡ false) → (n : ℕ) → n ≤ last_length → Dec (0 < rows_with n l) → Dec (1 < rows_with n l) → rows_with n l ≡ 1
    one x n h (yes k) (yes j) = absurd (false≢true (sym x.1 ∙ (overlap-exact l).1 (n, h, j)))
    one x n h (yes k) (no j) = omega arith
    one x n h (no k) (yes j) = omega arith
    one x n h (no k) (no j) = absurd (false≢true (sym x.0 ∙ (gap-exact l).1 (n, h, omega arith)))

-- The seconds for a length that lies in one row are that row's.
one-seconds : (n : ℕ) (l : List Row) (r : Row) → rows_with n l ≡ 1 → Memᴰ r l → in_row n r ≡ true → seconds_for n l ≡ Some r.seconds
unfolding seconds_for
one-seconds n [] r o m i = absurd (Memᴰ.not-nil m)
one-seconds n (a ∷ l) r o m i = go (one-seconds n l r) (in_row n a) refl (Memᴰ.cases_cons m)
  where
    go : (rows_with n l ≡ 1 → Memᴰ r l → in_row n r ≡ true → seconds_for n l ≡ Some r.seconds)
        → (t : Bool) → in_row n a ≡ t → (r ≡ a) ⊎ Memᴰ r l → seconds_for n (a ∷ l) ≡ Some r.seconds
    go ih true e (inl p) = rw e (ap (λ (b : Row). Some b.seconds) (sym p))
    go ih true e (inr k) = absurd (omega (arith, with-yes n a l e, row-with n l r k i))
    go ih false e (inl p) = absurd (false≢true (sym e ∙ ap (in_row n) (sym p) ∙ i))
    go ih false e (inr k) = rw e (ih (omega (arith, with-no n a l e)) k i)

pub row-seconds : (l : List Row) (n : ℕ) (r : Row) → EachInOne l → n ≤ last_length → Memᴰ r l → in_row n r ≡ true → seconds_for n l ≡ Some r.seconds
row-seconds l n r e h m i = one-seconds n l r (e n h) m i

-- Each length up to 65,536 has a row that holds it, and its seconds.
pub held-seconds : (l : List Row) (n : ℕ) → EachInOne l → n ≤ last_length → (r : Row) × Memᴰ r l × (in_row n r ≡ true) × (seconds_for n l ≡ Some r.seconds)
held-seconds l n e h =
    let x = with_row n l (omega (arith, e n h)) in
    (x.0, x.1, x.2, row-seconds l n x.0 e h x.1 x.2)
