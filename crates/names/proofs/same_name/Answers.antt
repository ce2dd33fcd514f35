-- `names::same_name` meets its contract. The loop's invariant: the two texts are the same name exactly where what is left of them is.
-- Assumes nothing.
use Prim.Native.Nat.{ℕ, ◌+◌, ◌≤◌, ◌<◌}
use mathlib.Core.Bool.{true, false}
use mathlib.Core.List.{List}
use mathlib.Core.Path.{◌≡◌, refl, sym, ◌∙◌}
use native.Mathlib.Omega.{arith}
use lib.ListN.{length, get_or, drop, drop_of_length-le}
use borrow.Author.Tests.{eq-eqb, ne_eqb}
use Rattle.names.specs.Name.{lower_case, same_name}
use Rattle.names.proofs.Laws.Name.{same_step, lengths_differ}
use Rattle.names.proofs.same_name.Goals as goal

-- a turn, and the loop's end, at the place i
module _ (a b : List ℕ) (n : length a ≡ length b) (i : ℕ) (inv : same_name a b ≡ same_name (drop i a) (drop i b)) where
  equal : i < length a → (x y : ℕ) → x ≡ lower_case (get_or a i 0) → y ≡ lower_case (get_or b i 0) → x ≡ y
      → same_name a b ≡ same_name (drop (i + 1) a) (drop (i + 1) b)
  equal h x y p q e = rw (eq-eqb _ _ (sym p ∙ e ∙ q)) at (inv ∙ same_step a b i h (omega arith))

  other : i < length a → (x y : ℕ) → x ≡ lower_case (get_or a i 0) → y ≡ lower_case (get_or b i 0) → (x ≡ y → ⊥) → false ≡ same_name a b
  other h x y p q e = sym (rw (ne_eqb _ _ (λ z. e (p ∙ z ∙ sym q))) at (inv ∙ same_step a b i h (omega arith)))

  ended : length a ≤ i → true ≡ same_name a b
  unfolding same_name
  ended h =
      let h' : length b ≤ i = omega arith in
      sym (rw (drop_of_length-le a h, drop_of_length-le b h') at inv)

pub returns-then-a-b : goal.returns-then-a-b
returns-then-a-b c = sym (lengths_differ _ _ c.if-a-b.true)

pub loop-i-init : goal.loop-i-init
loop-i-init c = refl

pub returns-then-lower_case : goal.returns-then-lower_case
returns-then-lower_case c =
    other _ _ c.if-a-b.false _ c.loop-i.invariant (omega arith) _ _ c.lower_case.ensures c.lower_case-in-loop-i.ensures c.if-lower_case.true

pub loop-i-preserved : goal.loop-i-preserved
loop-i-preserved c =
    equal _ _ c.if-a-b.false _ c.loop-i.invariant (omega arith) _ _ c.lower_case.ensures c.lower_case-in-loop-i.ensures c.if-lower_case.false

pub returns : goal.returns
returns c = ended _ _ c.if-a-b.false c.loop-i.i c.loop-i.invariant (omega arith)
