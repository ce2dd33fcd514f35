-- `log_touch::set::shares_fields` meets its contract: each field is asked while there are more. Assumes nothing.
use native.Mathlib.Omega.{arith}
use Prim.Native.Nat.{ℕ, ◌-◌, ◌≤◌, ◌<◌}
use mathlib.Core.Path.{◌≡◌, sym, ◌∙◌}
use mathlib.Core.Bool.{Bool, false}
use mathlib.Core.List.{List, [], ◌∷◌}
use lib.ListN.{take}
use Rattle.record.specs.Fields.{member}
use Rattle.record_reader.specs.declared.Objects.{Objects}
use Rattle.log_rules.specs.Order.{shares}
use Rattle.log_operands.specs.Code.Ordering.{fields_of}
use Rattle.log_touch.specs.Laws.Loop.{none_of, first_of, others-of, last_of}
use Rattle.log_touch.proofs.set.shares_fields.Goals as goal

-- the fields behind those that were asked decide
module _ (n : ℕ) (f : Objects) (l : List ℕ) (a : Bool) (n₀ : 0 < n) (e : a ≡ member f.object l) (a₀ : a ≡ false) where
  one : shares (take n (fields_of f)) l ≡ shares (take (n - 1) (f.parent ∷ f.second ∷ f.displaced ∷ [])) l
  one = others-of n (f.parent ∷ f.second ∷ f.displaced ∷ []) l (n - 1) f.object a (omega arith) e a₀

  module _ (b : Bool) (n₁ : 1 < n) (g : b ≡ member f.parent l) (b₀ : b ≡ false) where
    two : shares (take n (fields_of f)) l ≡ shares (take (n - 2) (f.second ∷ f.displaced ∷ [])) l
    two = one ∙ others-of (n - 1) (f.second ∷ f.displaced ∷ []) l (n - 2) f.parent b (omega arith) g b₀

    three : (c : Bool) → 2 < n → c ≡ member f.second l → c ≡ false → shares (take n (fields_of f)) l ≡ shares (take (n - 3) (f.displaced ∷ [])) l
    three c n₂ h c₀ = two ∙ others-of (n - 2) (f.displaced ∷ []) l (n - 3) f.second c (omega arith) h c₀

-- a number that is none of the least is above them
above-one : (n : ℕ) → (n ≡ 0 → ⊥) → (n ≡ 1 → ⊥) → 1 < n
above-one n n₀ n₁ = omega (arith, n₀, n₁)

above-two : (n : ℕ) → (n ≡ 0 → ⊥) → (n ≡ 1 → ⊥) → (n ≡ 2 → ⊥) → 2 < n
above-two n n₀ n₁ n₂ = omega (arith, n₀, n₁, n₂)

four : (n : ℕ) → 2 < n → (n ≡ 3 → ⊥) → n ≤ 4 → n - 3 ≡ 1
four n n₂ n₃ n₄ = omega (arith, n₃)

pub returns-then-count-eq0 : goal.returns-then-count-eq0
returns-then-count-eq0 c = λ ops held. sym (none_of _ _ ops c.if-count-eq0.true)

pub has-requires : goal.has-requires
has-requires c = c.requires.1 0

pub returns-then-has : goal.returns-then-has
returns-then-has c =
    let a = c.args in
    λ ops held. sym (first_of a.count _ ops (a.count - 1) a.f.object _ (omega (arith, c.if-count-eq0.false)) (c.has.ensures ops held) c.if-has.true)

pub returns-then-count-eq1 : goal.returns-then-count-eq1
returns-then-count-eq1 c =
    let a = c.args in
    λ ops held. sym (one a.count a.f ops _ (omega (arith, c.if-count-eq0.false)) (c.has.ensures ops held) c.if-has.false ∙ none_of (a.count - 1) _ ops (omega (arith, c.if-count-eq1.true)))

pub has-requires-2 : goal.has-requires-2
has-requires-2 c = c.requires.1 1

pub returns-then-has-2 : goal.returns-then-has-2
returns-then-has-2 c =
    let a = c.args in
    λ ops held. sym (one a.count a.f ops _ (omega (arith, c.if-count-eq0.false)) (c.has.ensures ops held) c.if-has.false
    ∙ first_of (a.count - 1) _ ops (a.count - 2) a.f.parent _ (let k = above-one a.count c.if-count-eq0.false c.if-count-eq1.false in omega arith) (c.has-2.ensures ops held) c.if-has-2.true)

pub returns-then-count-eq2 : goal.returns-then-count-eq2
returns-then-count-eq2 c =
    let a = c.args in
    λ ops held. sym (two a.count a.f ops _ (omega (arith, c.if-count-eq0.false)) (c.has.ensures ops held) c.if-has.false _ (above-one a.count c.if-count-eq0.false c.if-count-eq1.false) (c.has-2.ensures ops held) c.if-has-2.false
    ∙ none_of (a.count - 2) _ ops (omega (arith, c.if-count-eq2.true)))

pub has-requires-3 : goal.has-requires-3
has-requires-3 c = c.requires.1 2

pub returns-then-has-3 : goal.returns-then-has-3
returns-then-has-3 c =
    let a = c.args in
    λ ops held. sym (two a.count a.f ops _ (omega (arith, c.if-count-eq0.false)) (c.has.ensures ops held) c.if-has.false _ (above-one a.count c.if-count-eq0.false c.if-count-eq1.false) (c.has-2.ensures ops held) c.if-has-2.false
    ∙ first_of (a.count - 2) _ ops (a.count - 3) a.f.second _ (let k = above-two a.count c.if-count-eq0.false c.if-count-eq1.false c.if-count-eq2.false in omega arith) (c.has-3.ensures ops held) c.if-has-3.true)

pub returns-then-count-eq3 : goal.returns-then-count-eq3
returns-then-count-eq3 c =
    let a = c.args in
    λ ops held. sym (three a.count a.f ops _ (omega (arith, c.if-count-eq0.false)) (c.has.ensures ops held) c.if-has.false _ (above-one a.count c.if-count-eq0.false c.if-count-eq1.false) (c.has-2.ensures ops held) c.if-has-2.false
    _ (above-two a.count c.if-count-eq0.false c.if-count-eq1.false c.if-count-eq2.false) (c.has-3.ensures ops held) c.if-has-3.false ∙ none_of (a.count - 3) _ ops (omega (arith, c.if-count-eq3.true)))

pub has-requires-4 : goal.has-requires-4
has-requires-4 c = c.requires.1 3

pub returns : goal.returns
returns c =
    let a = c.args in
    let k = above-two a.count c.if-count-eq0.false c.if-count-eq1.false c.if-count-eq2.false in
    λ ops held. c.has-4.ensures ops held
    ∙ sym (three a.count a.f ops _ (omega (arith, c.if-count-eq0.false)) (c.has.ensures ops held) c.if-has.false _ (above-one a.count c.if-count-eq0.false c.if-count-eq1.false) (c.has-2.ensures ops held) c.if-has-2.false
    _ k (c.has-3.ensures ops held) c.if-has-3.false ∙ last_of (a.count - 3) [] ops a.f.displaced (four a.count k c.if-count-eq3.false c.requires.0))
