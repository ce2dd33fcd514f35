-- `volume_applies::applies::is_yielding` meets its contract: what the search finds is compared with the displaced object, or with the one renamed.
-- Assumes nothing.
use Rattle.std.specs.Prelude.{Option, None, Some}
use Prim.Native.Nat.{ℕ, ◌<◌}
use mathlib.Core.Bool.{Bool, true, false, not}
use mathlib.Core.List.{List}
use mathlib.Core.Path.{◌≡◌, refl, ◌∙◌}
use lib.Dec.{eqb}
use lib.ListN.{length}
use borrow.Author.Tests.{eq-eqb, ne_eqb}
use Rattle.record.specs.Fields.{displaced_if}
use Rattle.volume_tree.specs.Laws.Answer.{found_at, found_nothing}
use Rattle.volume_apply.specs.Apply.{displaceable, yields}
use Rattle.volume_tree.specs.Volume.{Volume, search as sought}
use Rattle.volume_tree.specs.Stored.{read_volume}
use Rattle.volume_tree.specs.Laws.Lent.{length-read}
use Rattle.volume_tree.specs.Laws.Search.{search-found}
use Rattle.volume_applies.proofs.applies.is_yielding.Goals as goal

-- a search that finds nothing finds no object
nothing : (r x : Option ℕ) → r ≡ x → ((i : ℕ) → r ≡ Some i → ⊥) → None ≡ x
nothing (Some i) x e k = absurd (k i refl)
nothing None x e k = e

module _ (v : Volume) (o q : ℕ) (t : Bool) (d : ℕ) (m : List ℕ) where
  absent : None ≡ ((sought v q m)) → (x : Bool) → t ≡ x → not x ≡ yields v o q (displaced_if t d) m
  absent e true h = rw (h, found_nothing (sought v q m) e)
  absent e false h = rw (h, found_nothing (sought v q m) e)

  module _ (i : ℕ) (e : Some i ≡ ((sought v q m))) where
    below : i ≡ d → d < length v
    below l = rw l at (search-found v q m i (found_at (sought v q m) i e)).1

    displaced : t ≡ true → i ≡ d → displaceable v o d ≡ yields v o q (displaced_if t d) m
    displaced h l = rw (h, found_at (sought v q m) i e, eq-eqb i d l)

    another : t ≡ true → (i ≡ d → ⊥) → false ≡ yields v o q (displaced_if t d) m
    another h l = rw (h, found_at (sought v q m) i e, ne_eqb i d l)

    itself : t ≡ false → eqb i o ≡ yields v o q (displaced_if t d) m
    itself h = rw (h, found_at (sought v q m) i e)

pub search-requires : goal.search-requires
search-requires c = c.requires.lent

pub returns-then-displacing : goal.returns-then-displacing
returns-then-displacing c =
    let a = c.args in
    let v = read_volume a.n a.b a.s.now in
    absent v a.o a.q a.displacing a.d a.name.now (nothing c.search.result _ c.search.ensures c.in_default.not-Some) true c.if-displacing.true

pub returns-in_default : goal.returns-in_default
returns-in_default c =
    let a = c.args in
    let v = read_volume a.n a.b a.s.now in
    absent v a.o a.q a.displacing a.d a.name.now (nothing c.search.result _ c.search.ensures c.in_default.not-Some) false c.if-displacing.false

pub is_displaceable-requires : goal.is_displaceable-requires
is_displaceable-requires c =
    let a = c.args in
    let v = read_volume a.n a.b a.s.now in
    let l = below v a.o a.q a.displacing a.d a.name.now c.in-Some.i c.in-Some.ensures c.if-i-d.true in
    record { lent = c.requires.lent; o_lt_n = (c.requires.o_lt_n, rw (length-read a.n a.b a.s.now) at l) }

pub returns-then-i-d : goal.returns-then-i-d
returns-then-i-d c =
    let a = c.args in
    let v = read_volume a.n a.b a.s.now in
    c.is_displaceable.ensures
    ∙ displaced v a.o a.q a.displacing a.d a.name.now c.in-Some.i c.in-Some.ensures c.if-displacing-2.true c.if-i-d.true

pub returns-then-displacing-2 : goal.returns-then-displacing-2
returns-then-displacing-2 c =
    let a = c.args in
    let v = read_volume a.n a.b a.s.now in
    another v a.o a.q a.displacing a.d a.name.now c.in-Some.i c.in-Some.ensures c.if-displacing-2.true c.if-i-d.false

pub returns : goal.returns
returns c =
    let a = c.args in
    let v = read_volume a.n a.b a.s.now in
    itself v a.o a.q a.displacing a.d a.name.now c.in-Some.i c.in-Some.ensures c.if-displacing-2.false
