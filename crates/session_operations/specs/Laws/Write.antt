-- How many operations a write issues, and which parts of its bytes they write, as the code finds them. Assumes nothing.
use Rattle.std.specs.Prelude.{ℕ, ◌-◌, ◌≤◌, ◌<◌, ◌≡◌, List, [], ◌∷◌, length, take, drop}
use Rattle.std.proofs.Common.{arith, sym, ap, ◌∙◌, length-drop, take_all}
use Rattle.std.proofs.Math.Seq.{take-nil, drop-nil}
use Rattle.record.specs.Operation.{Operation}
use Rattle.session.specs.Issue.{writes_at}
use Rattle.session.proofs.Laws.Write.{writes-append, writes-overwrite, writes-both}

module _ (len o f : ℕ) where
  -- No bytes, no operation.
  pub none-issued : (d : List ℕ) → length d ≡ 0 → 0 ≡ length (writes_at len o f d)
  none-issued [] e = rw (take-nil (len - f), drop-nil (len - f))
  none-issued (a ∷ d) e = absurd (omega arith)

  module _ (d : List ℕ) (some : length d ≡ 0 → ⊥) where
    -- From the length on, or wholly inside it: one.
    pub one-behind : len ≤ f → 1 ≡ length (writes_at len o f d)
    one-behind h = sym (ap length (writes-append len o f d (omega arith) h))

    pub one_inside : length d ≤ len - f → 1 ≡ length (writes_at len o f d)
    one_inside h = sym (ap length (writes-overwrite len o f d (omega arith) h))

    -- Across the end: two.
    pub two-across : f < len → len - f < length d → 2 ≡ length (writes_at len o f d)
    two-across h k = sym (ap length (writes-both len o f d (omega arith) h k))

  -- The parts that the code hands on across the end.
  pub parts-written : (d : List ℕ) → f < len → len - f < length d
      → writes_at len o f d ≡ Operation.overwrite o f (take (len - f - 0) d) ∷ Operation.append o len (take (length d - (len - f)) (drop (len - f) d)) ∷ []
  parts-written d h k =
      let all : take (length d - (len - f)) (drop (len - f) d) ≡ drop (len - f) d =
      take_all (length d - (len - f)) (drop (len - f) d) (rw (length-drop (len - f) d) (omega arith)) in
      let whole : len - f - 0 ≡ len - f = omega arith in
      writes-both len o f d (omega arith) h k
      ∙ (λ i. Operation.overwrite o f (take (sym whole i) d) ∷ Operation.append o len (sym all i) ∷ [])
