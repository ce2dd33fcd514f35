-- `volume_form::well_formed` meets its contract: the tests that are run decide the form.
-- Assumes nothing.
use Prim.Native.Nat.{ℕ, ◌≤◌}
use mathlib.Core.Bool.{Bool, true, false, false≢true}
use mathlib.Core.List.{List}
use mathlib.Core.Path.{◌≡◌, sym, ◌∙◌}
use native.Mathlib.Omega.{arith}
use Rattle.buffer.specs.Laws.Test.{same_test}
use Rattle.buffer.specs.Numeral.{Bytes}
use Rattle.volume_tree.specs.Stored.{read_volume, lent, formed}
use Rattle.volume_tree.specs.Laws.Lent.{lent-inv}
use Rattle.volume_unique.specs.Code.Checks.{Gathered, all_alone}
use Rattle.volume_form.specs.Code.Checks.{Numbers, entries_formed, parents_formed, all_lead}
use Rattle.volume_form.specs.Laws.Checks.{checks-formed, formed-first, formed-checks, parents-below}
use Rattle.volume_form.proofs.well_formed.Goals as goal

-- A test that passes only where another does fails with it.
refuted : (x y : Bool) → x ≡ false → (y ≡ true → x ≡ true) → false ≡ y
refuted x y e g = same_test false y (λ z. absurd (false≢true z)) (λ t. sym e ∙ g t)

not-lent : (n b : ℕ) (s : List ℕ) → lent n b s ≡ false → false ≡ formed n b s
unfolding formed
not-lent n b s t = rw t

module _ (n b : ℕ) (s : List ℕ) (byte : Bytes s) where
  no-entries : entries_formed n b s ≡ false → false ≡ formed n b s
  no-entries t = refuted _ _ t (λ f. (formed-first n b s byte f).0)

  no-parents : parents_formed (read_volume n b s) ≡ false → false ≡ formed n b s
  no-parents t = refuted _ _ t (λ f. (formed-first n b s byte f).1)

  module _ (l : List ℕ) (same : Gathered (read_volume n b s) l) where
    no_lead : all_lead n l ≡ false → false ≡ formed n b s
    no_lead t = refuted _ _ t (λ f. (formed-checks n b s byte l same f).2)

    module _ (h : lent n b s ≡ true) (e : entries_formed n b s ≡ true) (p : parents_formed (read_volume n b s) ≡ true) where
      below : (n ≤ 256) × Numbers l
      below =
          let w = lent-inv n b s h in
          (w.most, λ i. omega (arith, w.most, same i, parents-below n b s w byte e p i))

      last : all_lead n l ≡ true → (r : Bool) → r ≡ all_alone (read_volume n b s) → r ≡ formed n b s
      last t r q =
          same_test r (formed n b s) (λ a. checks-formed n b s (lent-inv n b s h) byte l same e p t (sym q ∙ a))
          (λ f. q ∙ (formed-checks n b s byte l same f).3)

pub entries_formed-requires : goal.entries_formed-requires
entries_formed-requires c =
    let a = c.args in
    lent-inv a.n a.b a.s.now (sym c.is_lent.ensures ∙ c.if-is_lent.true)

pub parents_formed-requires : goal.parents_formed-requires
parents_formed-requires c =
    let a = c.args in
    lent-inv a.n a.b a.s.now (sym c.is_lent.ensures ∙ c.if-is_lent.true)

pub parents_of-parents-requires : goal.parents_of-parents-requires
parents_of-parents-requires c =
    let a = c.args in
    lent-inv a.n a.b a.s.now (sym c.is_lent.ensures ∙ c.if-is_lent.true)

pub all_lead-requires : goal.all_lead-requires
all_lead-requires c =
    let a = c.args in
    let w = below a.n a.b a.s.now (λ i. (c.type_inv.s i).fits) c.parents_of-parents.result c.parents_of-parents.ensures
    (sym c.is_lent.ensures ∙ c.if-is_lent.true)
    (sym c.entries_formed.ensures ∙ c.if-entries_formed.true)
    (sym c.parents_formed.ensures ∙ c.if-parents_formed.true) in
    record { n_bound = w.0; numbers = w.1 }

pub digests_of-digests-requires : goal.digests_of-digests-requires
digests_of-digests-requires c =
    let a = c.args in
    lent-inv a.n a.b a.s.now (sym c.is_lent.ensures ∙ c.if-is_lent.true)

pub all_alone-requires : goal.all_alone-requires
all_alone-requires c =
    let a = c.args in
    record {
      lent = lent-inv a.n a.b a.s.now (sym c.is_lent.ensures ∙ c.if-is_lent.true);
      gathered = c.parents_of-parents.ensures;
      digested = c.digests_of-digests.ensures;
    }

pub returns-then-all_lead : goal.returns-then-all_lead
returns-then-all_lead c =
    let a = c.args in
    last a.n a.b a.s.now (λ i. (c.type_inv.s i).fits) c.parents_of-parents.result c.parents_of-parents.ensures
    (sym c.is_lent.ensures ∙ c.if-is_lent.true)
    (sym c.entries_formed.ensures ∙ c.if-entries_formed.true)
    (sym c.parents_formed.ensures ∙ c.if-parents_formed.true)
    (sym c.all_lead.ensures ∙ c.if-all_lead.true) c.all_alone.result c.all_alone.ensures

pub returns-else-all_lead : goal.returns-else-all_lead
returns-else-all_lead c =
    let a = c.args in
    no_lead a.n a.b a.s.now (λ i. (c.type_inv.s i).fits) c.parents_of-parents.result c.parents_of-parents.ensures
    (sym c.all_lead.ensures ∙ c.if-all_lead.false)

pub returns-else-parents_formed : goal.returns-else-parents_formed
returns-else-parents_formed c =
    let a = c.args in
    no-parents a.n a.b a.s.now (λ i. (c.type_inv.s i).fits) (sym c.parents_formed.ensures ∙ c.if-parents_formed.false)

pub returns-else-entries_formed : goal.returns-else-entries_formed
returns-else-entries_formed c =
    let a = c.args in
    no-entries a.n a.b a.s.now (λ i. (c.type_inv.s i).fits) (sym c.entries_formed.ensures ∙ c.if-entries_formed.false)

pub returns-else-is_lent : goal.returns-else-is_lent
returns-else-is_lent c =
    let a = c.args in
    not-lent a.n a.b a.s.now (sym c.is_lent.ensures ∙ c.if-is_lent.false)
