-- The bytes before the first of a kind are the list's first.
use Rattle.std.specs.Prelude.{ℕ, ◌≤◌, ◌<◌, ◌≡◌, ◌≢◌, refl, List, [], ◌∷◌, Bool, true, false, cond, length, take, Option, ◌+◌, ◌++◌, get_or, drop}
use Rattle.std.proofs.Common.{arith, ap, eq-eqb, ne_eqb, eqb, add-one, sym, ◌∙◌, append_assoc, append-nil, drop_of_length-le, take-suc, drop-cons}
use Rattle.std.specs.Option.{MatchOption, unwrap_or}
use Rattle.std.specs.List.{AllWithin, HoldsAt}
use Rattle.std.proofs.lemmas.Iterator.{index_from_first}
use Rattle.script_words.specs.Word.{before}

pub before-first : (b : ℕ) (s : List ℕ) → (length (before b s) ≤ length s) × (take (length (before b s)) s ≡ before b s)
unfolding before
before-first b [] = (omega arith, refl)
before-first b (x ∷ s) = go (eqb x b) (before-first b s)
  where
    go : (t : Bool) → (length (before b s) ≤ length s) × (take (length (before b s)) s ≡ before b s) →
        (length (cond t [] (x ∷ before b s)) ≤ length (x ∷ s)) × (take (length (cond t [] (x ∷ before b s))) (x ∷ s) ≡ cond t [] (x ∷ before b s))
    go true h = (omega arith, refl)
    go false h = (omega (arith, h.0), ap (λ (l : List ℕ). x ∷ l) h.1)

-- so many are they as the place of the first of that kind says, or the length where there is none
pub before-counted : (b : ℕ) (s : List ℕ) (r : Option ℕ) →
    MatchOption r (AllWithin (λ x. x ≢ b) s 0 (length s)) (λ i. (i < length s) × HoldsAt (λ x. x ≡ b) s i × AllWithin (λ x. x ≢ b) s 0 i) →
    length (before b s) ≡ unwrap_or r (length s)
unfolding before
before-counted b s r h =
    index_from_first (λ s. length (before b s)) (λ x. x ≡ b) (λ x. x ≢ b) refl (λ x xs e. rw (eq-eqb x b e)) (λ x xs d. rw (ne_eqb x b d) (omega arith)) s r h

-- the first bytes passed, and what stands before the first of a kind behind them
abbrev pub Passed : ℕ → List ℕ → ℕ → Type 0
Passed b s i = take i s ++ before b (drop i s) ≡ before b s

pub pass-more : (b : ℕ) (s : List ℕ) (i : ℕ) → i < length s → (get_or s i 0 ≡ b → ⊥) → Passed b s i → Passed b s (i + 1)
unfolding before
pass-more b s i h d p =
    let e : before b (drop i s) ≡ get_or s i 0 ∷ before b (drop (i + 1) s) = rw (add-one, drop-cons s i 0 h, ne_eqb (get_or s i 0) b d) in
    let t : take (i + 1) s ≡ take i s ++ (get_or s i 0 ∷ []) = rw add-one (take-suc s i 0 h) in
    ap (λ (l : List ℕ). l ++ before b (drop (i + 1) s)) t
    ∙ append_assoc (take i s) (get_or s i 0 ∷ []) (before b (drop (i + 1) s))
    ∙ ap (λ (l : List ℕ). take i s ++ l) (sym e)
    ∙ p

pub pass-met : (b : ℕ) (s : List ℕ) (i : ℕ) → i < length s → get_or s i 0 ≡ b → Passed b s i → take i s ≡ before b s
unfolding before
pass-met b s i h d p =
    let e : before b (drop i s) ≡ [] = rw (drop-cons s i 0 h, eq-eqb (get_or s i 0) b d) in
    sym (append-nil (take i s)) ∙ ap (λ (l : List ℕ). take i s ++ l) (sym e) ∙ p

pub pass-ended : (b : ℕ) (s : List ℕ) (i : ℕ) → i ≡ length s → Passed b s i → take i s ≡ before b s
unfolding before
pass-ended b s i d p =
    let e : before b (drop i s) ≡ [] = rw (drop_of_length-le s {i = i} (omega arith)) in
    sym (append-nil (take i s)) ∙ ap (λ (l : List ℕ). take i s ++ l) (sym e) ∙ p
