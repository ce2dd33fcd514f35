-- The operations of a write, by where its bytes lie: from the length on, wholly inside it, or across the end of the file.
-- Assumes nothing.
use Rattle.std.specs.Prelude.{ℕ, ◌-◌, ◌≤◌, ◌<◌, ◌≡◌, refl, List, [], ◌∷◌, ◌++◌, length, take, drop}
use Rattle.std.proofs.Common.{arith, ap, ◌∙◌, length-take, length-drop, take-append-drop, drop_of_length-le, take_all}
use Rattle.record.specs.Operation.{Operation}
use Rattle.session.specs.Issue.{on_bytes, writes_at}

-- Some bytes are written by one operation.
pub some_bytes : (s : List ℕ) (f : List ℕ → Operation) → 1 ≤ length s → on_bytes s f ≡ f s ∷ []
some_bytes [] f h = absurd (omega arith)
some_bytes (a ∷ s) f h = refl

-- A write issues two operations at most.
pub writes-few : (len o f : ℕ) (d : List ℕ) → length (writes_at len o f d) ≤ 2
writes-few len o f d = go (take (len - f) d) (drop (len - f) d)
  where
    go : (k l : List ℕ) → length (on_bytes k (λ z. Operation.overwrite o f z) ++ on_bytes l (λ z. Operation.append o len z)) ≤ 2
    go [] [] = omega arith
    go [] (b ∷ l) = omega arith
    go (a ∷ k) [] = omega arith
    go (a ∷ k) (b ∷ l) = omega arith

module _ (len o f : ℕ) (d : List ℕ) (some : 1 ≤ length d) where
  pub writes-append : len ≤ f → writes_at len o f d ≡ Operation.append o len d ∷ []
  writes-append h =
      let e : len - f ≡ 0 = omega arith in
      ap (λ (k : ℕ). on_bytes (take k d) (λ z. Operation.overwrite o f z) ++ on_bytes (drop k d) (λ z. Operation.append o len z)) e
      ∙ some_bytes d (λ z. Operation.append o len z) some

  pub writes-overwrite : length d ≤ len - f → writes_at len o f d ≡ Operation.overwrite o f d ∷ []
  writes-overwrite h =
      (λ i. on_bytes (take_all (len - f) d h i) (λ z. Operation.overwrite o f z) ++ on_bytes (drop_of_length-le d {i = len - f} h i) (λ z. Operation.append o len z))
      ∙ ap (λ (l : List Operation). l ++ []) (some_bytes d (λ z. Operation.overwrite o f z) some)

  pub writes-both : f < len → len - f < length d
      → writes_at len o f d ≡ Operation.overwrite o f (take (len - f) d) ∷ Operation.append o len (drop (len - f) d) ∷ []
  writes-both h k =
      let a = length-take (len - f) d in
      let b = length-drop (len - f) d in
      λ i. some_bytes (take (len - f) d) (λ z. Operation.overwrite o f z) (omega arith) i ++ some_bytes (drop (len - f) d) (λ z. Operation.append o len z) (omega arith) i

  -- Wherever they lie, some bytes are written by an operation, and perhaps another.
  pub writes-some : (a : Operation) × (os : List Operation) × (writes_at len o f d ≡ a ∷ os)
  writes-some = go (take (len - f) d) (drop (len - f) d) (ap length (take-append-drop (len - f) d))
    where
      go : (k l : List ℕ) → length (k ++ l) ≡ length d
          → (a : Operation) × (os : List Operation) × (on_bytes k (λ z. Operation.overwrite o f z) ++ on_bytes l (λ z. Operation.append o len z) ≡ a ∷ os)
      go [] [] e = absurd (omega arith)
      go [] (b ∷ l) e = (Operation.append o len (b ∷ l), [], refl)
      go (b ∷ k) l e = (Operation.overwrite o f (b ∷ k), on_bytes l (λ z. Operation.append o len z), refl)
