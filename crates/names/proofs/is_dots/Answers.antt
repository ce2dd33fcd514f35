-- `names::is_dots` meets its contract: the tests before each return settle the two cases of `is_dots`.
-- Assumes nothing.
use Prim.Native.Nat.{ℕ}
use mathlib.Core.Bool.{false, or-false}
use mathlib.Core.List.{List}
use mathlib.Core.Path.{◌≡◌}
use native.Mathlib.Omega.{arith}
use lib.Dec.{eqb}
use lib.ListN.{length, get_or}
use borrow.Author.Tests.{eq-eqb, ne_eqb}
use Rattle.names.specs.Name.{is_dots}
use Rattle.names.proofs.is_dots.Goals as goal

one : (s : List ℕ) → length s ≡ 1 → eqb (get_or s 0 0) 46 ≡ is_dots s
unfolding is_dots
one s n = simp (eq-eqb (length s) 1 n, ne_eqb (length s) 2 (omega arith), or-false)

two : (s : List ℕ) → length s ≡ 2 → get_or s 0 0 ≡ 46 → eqb (get_or s 1 0) 46 ≡ is_dots s
unfolding is_dots
two s n e = simp (ne_eqb (length s) 1 (omega arith), eq-eqb (length s) 2 n, eq-eqb (get_or s 0 0) 46 e)

two-other : (s : List ℕ) → length s ≡ 2 → (get_or s 0 0 ≡ 46 → ⊥) → false ≡ is_dots s
unfolding is_dots
two-other s n e = simp (ne_eqb (length s) 1 (omega arith), eq-eqb (length s) 2 n, ne_eqb (get_or s 0 0) 46 e)

neither : (s : List ℕ) → (length s ≡ 1 → ⊥) → (length s ≡ 2 → ⊥) → false ≡ is_dots s
unfolding is_dots
neither s n m = simp (ne_eqb (length s) 1 n, ne_eqb (length s) 2 m)

pub returns-then-s-eq1 : goal.returns-then-s-eq1
returns-then-s-eq1 c = one _ c.if-s-eq1.true

pub returns-then-s-eq46 : goal.returns-then-s-eq46
returns-then-s-eq46 c = two _ c.if-s-eq2.true c.if-s-eq46.true

pub returns-else-s-eq46 : goal.returns-else-s-eq46
returns-else-s-eq46 c = two-other _ c.if-s-eq2.true c.if-s-eq46.false

pub returns-else-s-eq2 : goal.returns-else-s-eq2
returns-else-s-eq2 c = neither _ c.if-s-eq1.false c.if-s-eq2.false
