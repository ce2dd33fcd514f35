-- `names::all_permitted` meets its contract. The loop's invariant: the whole text is permitted exactly where what is left of it is.
-- Assumes nothing.
use Prim.Native.Nat.{ℕ, ◌+◌, ◌≤◌, ◌<◌}
use mathlib.Core.Path.{◌≡◌, refl, sym, ◌∙◌}
use mathlib.Core.Bool.{Bool, true, false}
use mathlib.Core.List.{List}
use native.Mathlib.Omega.{arith}
use lib.ListN.{length, get_or, drop, drop_of_length-le}
use Rattle.names.specs.Name.{all_permitted, permitted_byte}
use Rattle.names.proofs.Laws.Name.{permitted-rule, rule-permitted, all-step}
use Rattle.names.proofs.all_permitted.Goals as goal

-- a turn, by the byte at the place i, and the loop's end
module _ (s : List ℕ) (i : ℕ) (inv : all_permitted s ≡ all_permitted (drop i s)) where
  other : i < length s → (get_or s i 0 ≡ 0 → ⊥) → (get_or s i 0 ≡ 47 → ⊥) → all_permitted s ≡ all_permitted (drop (i + 1) s)
  other h z t = rw (rule-permitted (get_or s i 0) z t) at (inv ∙ all-step s i h)

  zero-or-slash : i < length s → ((get_or s i 0 ≡ 0 → ⊥) → get_or s i 0 ≡ 47) → false ≡ all_permitted s
  zero-or-slash h f = go (permitted_byte (get_or s i 0)) refl
    where
      go : (b : Bool) → permitted_byte (get_or s i 0) ≡ b → false ≡ all_permitted s
      go true e = let r = permitted-rule (get_or s i 0) e in absurd (r.1 (f r.0))
      go false e = sym (rw e at (inv ∙ all-step s i h))

  ended : length s ≤ i → true ≡ all_permitted s
  unfolding all_permitted
  ended h = sym (rw (drop_of_length-le s h) at inv)

pub loop-b-init : goal.loop-b-init
loop-b-init c = refl

pub returns-then-b-eq0 : goal.returns-then-b-eq0
returns-then-b-eq0 c = let l = c.loop-b in zero-or-slash _ l.b-index l.invariant (omega arith) (λ z. omega arith)

pub returns-then-b-eq47 : goal.returns-then-b-eq47
returns-then-b-eq47 c = let l = c.loop-b in zero-or-slash _ l.b-index l.invariant (omega arith) (λ z. omega arith)

pub loop-b-preserved : goal.loop-b-preserved
loop-b-preserved c = let l = c.loop-b in other _ l.b-index l.invariant (omega arith) (omega arith) (omega arith)

pub returns : goal.returns
returns c = let l = c.loop-b in ended _ l.b-index l.invariant (omega arith)
