-- What a table of refusals gives: the number of the lowest rank among the rows that hold.
use Rattle.std.specs.Prelude.{ℕ, ◌≤◌, ◌≡◌, refl, ◌⊎◌, Bool, true, false, not, ◌&&◌, ◌||◌, cond, leb, eqb}
use Rattle.std.proofs.Common.{arith, sym, ap, ◌∙◌, inl, inr, ⊎_elim, leb-true, leb-false, eqb-true}
use mathlib.Core.List.{List, [], ◌∷◌, Memᴰ}
use Rattle.std.proofs.lemmas.Bool.{false≢true, eqb-false, not-true}
use Rattle.std.proofs.Math.Bool.{and-eq-true_iff}
use Rattle.returned.specs.Returned.{rank_of}
use Rattle.session.specs.Call.{Call, Answer, refusal}
use Rattle.session.specs.Refusal.{Row, lower, lowest_number}
use Rattle.session.specs.Model.{unless}

-- no row of a table holds
abbrev pub Passed : List Row → Type 0
Passed [] = Unit {0}
Passed (r ∷ l) = (r.holds ≡ false) × Passed l

-- every row has a number other than 0
abbrev pub numbered : List Row → Bool
numbered [] = true
numbered (r ∷ l) = not (eqb r.number 0) && numbered l

-- the lower of two numbers is one of them, and is not above either in rank, unless that is none
pub record Lower (a b n : ℕ) : Type 0 where
  pub one : (n ≡ a) ⊎ (n ≡ b)
  pub first : (a ≡ 0 → ⊥) → (rank_of n ≤ rank_of a) × (n ≡ 0 → ⊥)
  pub second : (b ≡ 0 → ⊥) → (rank_of n ≤ rank_of b) × (n ≡ 0 → ⊥)

pub lower-is : (a b : ℕ) → Lower a b (lower a b)
lower-is a b = go (eqb a 0) (eqb b 0) (leb (rank_of a) (rank_of b)) refl refl refl
  where
    go : (s t u : Bool) → eqb a 0 ≡ s → eqb b 0 ≡ t → leb (rank_of a) (rank_of b) ≡ u → Lower a b (cond s b (cond t a (cond u a b)))
    go true t u e f o = let z = eqb-true a 0 e in record { one = inr refl; first = λ n. absurd (n z); second = λ n. (omega arith, n) }
    go false true u e f o = let z = eqb-true b 0 f in record { one = inl refl; first = λ n. (omega arith, n); second = λ n. absurd (n z) }
    go false false true e f o =
        let le = leb-true (rank_of a) (rank_of b) o in
        record { one = inl refl; first = λ n. (omega arith, n); second = λ n. (le, eqb-false a 0 e) }
    go false false false e f o =
        let gt = leb-false (rank_of a) (rank_of b) o in
        record { one = inr refl; first = λ n. (omega arith, eqb-false b 0 f); second = λ n. (omega arith, n) }

-- "The lowest number wins": the number is that of a row that holds, and no row that holds has one of lower rank
pub record Wins (l : List Row) (n : ℕ) : Type 0 where
  pub row : Row
  pub among : Memᴰ row l
  pub holds : row.holds ≡ true
  pub number : row.number ≡ n
  pub least : (r : Row) → Memᴰ r l → r.holds ≡ true → rank_of n ≤ rank_of r.number

-- a table none of whose rows holds gives 0, and any other the least number
pub data Judged (l : List Row) : Type 0 where
  none : Passed l → lowest_number l ≡ 0 → Judged l
  wins : (lowest_number l ≡ 0 → ⊥) → Wins l (lowest_number l) → Judged l

pub judged : (l : List Row) → numbered l ≡ true → Judged l
unfolding lowest_number
judged [] h = none tt refl
judged (r ∷ l) h = go r.holds refl (judged l ((and-eq-true_iff (not (eqb r.number 0)) (numbered l)).0 h).1)
  where
    some : r.number ≡ 0 → ⊥
    some = eqb-false r.number 0 (not-true _ ((and-eq-true_iff (not (eqb r.number 0)) (numbered l)).0 h).0)

    is : (t : Bool) → r.holds ≡ t → lowest_number (r ∷ l) ≡ cond t (lower r.number (lowest_number l)) (lowest_number l)
    is t e = ap (λ (s : Bool). cond s (lower r.number (lowest_number l)) (lowest_number l)) e

    no : {C : Type 0} → r.holds ≡ false → r.holds ≡ true → C
    no e f = absurd (false≢true (sym e ∙ f))

    unheld : Passed l → (s : Row) → Memᴰ s l → s.holds ≡ true → ⊥
    unheld p s m k = go l p m
      where
        go : (j : List Row) → Passed j → Memᴰ s j → ⊥
        go [] q n = mathlib.Core.List.Memᴰ.not-nil n
        go (t ∷ j) q n = ⊎_elim (λ (z : s ≡ t). false≢true (sym q.0 ∙ ap (λ (u : Row). u.holds) (sym z) ∙ k)) (λ (z : Memᴰ s j). go j q.1 z) (mathlib.Core.List.Memᴰ.cases_cons n)

    go : (t : Bool) → r.holds ≡ t → Judged l → Judged (r ∷ l)
    go false e (none p z) = none (e, p) (is false e ∙ z)
    go false e (wins n w) =
        let same = is false e in
        wins (λ z. n (sym same ∙ z))
        (record {
          row = w.row;
          among = mathlib.Core.List.Memᴰ.tail w.among;
          holds = w.holds;
          number = w.number ∙ sym same;
          least = λ s m k. ⊎_elim (λ (z : s ≡ r). no e (ap (λ (u : Row). u.holds) (sym z) ∙ k)) (λ (z : Memᴰ s l). let y = w.least s z k in let q = ap rank_of same in omega arith) (mathlib.Core.List.Memᴰ.cases_cons m);
        })
    go true e (none p z) =
        let same = is true e in
        let low = lower-is r.number (lowest_number l) in
        let n : lower r.number (lowest_number l) ≡ r.number = ⊎_elim (λ y. y) (λ y. absurd ((low.first some).1 (y ∙ z))) low.one in
        wins (λ y. some (sym n ∙ sym same ∙ y))
        (record {
          row = r;
          among = mathlib.Core.List.Memᴰ.head refl;
          holds = e;
          number = sym (same ∙ n);
          least = λ s m k. ⊎_elim (λ (y : s ≡ r). let v = ap (λ (u : Row). rank_of u.number) y in let q = ap rank_of (same ∙ n) in omega arith) (λ (y : Memᴰ s l). absurd (unheld p s y k)) (mathlib.Core.List.Memᴰ.cases_cons m);
        })
    go true e (wins z w) =
        let same = is true e in
        let low = lower-is r.number (lowest_number l) in
        let above : (s : Row) → Memᴰ s (r ∷ l) → s.holds ≡ true → rank_of (lowest_number (r ∷ l)) ≤ rank_of s.number =
        λ s m k. ⊎_elim (λ (y : s ≡ r). let v = ap (λ (u : Row). rank_of u.number) y in let q = ap rank_of same in let f = (low.first some).0 in omega arith)
        (λ (y : Memᴰ s l). let v = w.least s y k in let q = ap rank_of same in let f = (low.second z).0 in omega arith) (mathlib.Core.List.Memᴰ.cases_cons m) in
        wins (λ y. (low.first some).1 (sym same ∙ y))
        (⊎_elim (λ (y : lower r.number (lowest_number l) ≡ r.number). record { row = r; among = mathlib.Core.List.Memᴰ.head refl; holds = e; number = sym (same ∙ y); least = above })
        (λ (y : lower r.number (lowest_number l) ≡ lowest_number l).
        record { row = w.row; among = mathlib.Core.List.Memᴰ.tail w.among; holds = w.holds; number = w.number ∙ sym (same ∙ y); least = above })
        low.one)

-- a table that gives no number lets pass
pub passed : (l : List Row) → numbered l ≡ true → lowest_number l ≡ 0 → Passed l
passed l n e = go (judged l n)
  where
    go : Judged l → Passed l
    go (none p z) = p
    go (wins z w) = absurd (z e)

-- a table none of whose numbers is k gives no k
abbrev pub lacks : ℕ → List Row → Bool
lacks k [] = true
lacks k (r ∷ l) = not (eqb r.number k) && lacks k l

lacks-in : (k : ℕ) (l : List Row) → lacks k l ≡ true → (r : Row) → Memᴰ r l → r.number ≡ k → ⊥
lacks-in k [] h r m e = mathlib.Core.List.Memᴰ.not-nil m
lacks-in k (s ∷ l) h r m e =
    let g = (and-eq-true_iff (not (eqb s.number k)) (lacks k l)).0 h in
    ⊎_elim (λ (z : r ≡ s). eqb-false s.number k (not-true _ g.0) (ap (λ (u : Row). u.number) (sym z) ∙ e)) (λ (z : Memᴰ r l). lacks-in k l g.1 r z e) (mathlib.Core.List.Memᴰ.cases_cons m)

pub never : (k : ℕ) (l : List Row) → numbered l ≡ true → lacks k l ≡ true → (k ≡ 0 → ⊥) → lowest_number l ≡ k → ⊥
never k l n h z e = go (judged l n)
  where
    go : Judged l → ⊥
    go (none p y) = z (sym e ∙ y)
    go (wins y w) = lacks-in k l h w.row w.among (w.number ∙ e)

-- a call that its table may refuse: it is answered, or refused
pub data Decided (c : Call) (rows : List Row) (a : Answer) : Type 0 where
  passes : lowest_number rows ≡ 0 → unless c rows a ≡ a → Decided c rows a
  refuses : (lowest_number rows ≡ 0 → ⊥) → unless c rows a ≡ refusal (lowest_number rows) c → Decided c rows a

pub decided : (c : Call) (rows : List Row) (a : Answer) → Decided c rows a
decided c rows a = go (eqb (lowest_number rows) 0) refl
  where
    go : (t : Bool) → eqb (lowest_number rows) 0 ≡ t → Decided c rows a
    go true e = passes (eqb-true _ 0 e) (ap (λ (s : Bool). cond s a (refusal (lowest_number rows) c)) e)
    go false e = refuses (eqb-false _ 0 e) (ap (λ (s : Bool). cond s a (refusal (lowest_number rows) c)) e)

returned : {a b : Answer} → a ≡ b → a.returned ≡ b.returned
returned e = ap (λ (a : Answer). a.returned) e

-- an accepted call was let pass, and its answer is an acceptance
pub accepted-passes : (c : Call) (rows : List Row) (a : Answer) → (unless c rows a).returned ≡ 0 → (lowest_number rows ≡ 0) × (unless c rows a ≡ a)
accepted-passes c rows a e = go (decided c rows a)
  where
    go : Decided c rows a → (lowest_number rows ≡ 0) × (unless c rows a ≡ a)
    go (passes z s) = (z, s)
    go (refuses z s) = absurd (z (sym (returned s) ∙ e))

-- a number that the table lacks is the answer's own
pub own-number : (k : ℕ) (c : Call) (rows : List Row) (a : Answer) → numbered rows ≡ true → lacks k rows ≡ true → (k ≡ 0 → ⊥) → (unless c rows a).returned ≡ k
    → (lowest_number rows ≡ 0) × (unless c rows a ≡ a)
own-number k c rows a n h z e = go (decided c rows a)
  where
    go : Decided c rows a → (lowest_number rows ≡ 0) × (unless c rows a ≡ a)
    go (passes y s) = (y, s)
    go (refuses y s) = absurd (never k rows n h z (sym (returned s) ∙ e))

-- neither of two conditions holds
pub neither : (a b : Bool) → (a || b) ≡ false → (a ≡ false) × (b ≡ false)
neither true b e = absurd (false≢true (sym e))
neither false b e = (refl, e)

-- an answer that is another has its number
pub same_number : {a b : Answer} {n : ℕ} → a ≡ b → a.returned ≡ n → b.returned ≡ n
same_number e h = ap (λ (c : Answer). c.returned) (sym e) ∙ h
