-- `volume_applies::applies::is_displaceable` meets its contract: the tests before each return settle those of `displaceable`.
-- Assumes nothing.
use Prim.Native.Nat.{ℕ}
use mathlib.Core.Bool.{Bool, true, false, not}
use mathlib.Core.Path.{◌≡◌, sym, ◌∙◌}
use borrow.Author.Tests.{eq-eqb, ne_eqb}
use Rattle.volume_entry.specs.Entry.{kind_number}
use Rattle.volume_apply.specs.Apply.{displaceable}
use Rattle.volume_tree.specs.Volume.{Volume, entry_at, has_children}
use Rattle.volume_tree.specs.Stored.{read_volume}
use Rattle.volume_tree.specs.Laws.Lent.{entry-long}
use Rattle.volume_tree.specs.Laws.Answer.{settled, of_entry}
use Rattle.volume_applies.proofs.applies.is_displaceable.Goals as goal

module _ (v : Volume) (o d : ℕ) where
  alike : kind_number (entry_at v d) ≡ kind_number (entry_at v o) → (t : Bool) → has_children v d ≡ t → not t ≡ displaceable v o d
  alike e t h = rw (eq-eqb _ _ e, h)

  other : (kind_number (entry_at v d) ≡ kind_number (entry_at v o) → ⊥) → false ≡ displaceable v o d
  other e = rw (ne_eqb _ _ e)

pub entry-requires : goal.entry-requires
entry-requires c = let p = c.requires in record { lent = c.requires.lent; i_lt_n = c.requires.o_lt_n.1 }

pub kind-requires : goal.kind-requires
kind-requires c = entry-long c.entry.ensures

pub entry-requires-2 : goal.entry-requires-2
entry-requires-2 c = let p = c.requires in record { lent = c.requires.lent; i_lt_n = c.requires.o_lt_n.0 }

pub kind-requires-2 : goal.kind-requires-2
kind-requires-2 c = entry-long c.entry-2.ensures

pub has_children-requires : goal.has_children-requires
has_children-requires c =
    c.requires.lent

pub returns-then-has_children : goal.returns-then-has_children
returns-then-has_children c =
    let a = c.args in
    let v = read_volume a.n a.b a.s.now in
    let x = of_entry kind_number c.entry.ensures c.kind.ensures in
    let y = of_entry kind_number c.entry-2.ensures c.kind-2.ensures in
    alike v a.o a.d (settled x (c.if-kind.true ∙ y)) true (settled c.has_children.ensures c.if-has_children.true)

pub returns-then-kind : goal.returns-then-kind
returns-then-kind c =
    let a = c.args in
    let v = read_volume a.n a.b a.s.now in
    let x = of_entry kind_number c.entry.ensures c.kind.ensures in
    let y = of_entry kind_number c.entry-2.ensures c.kind-2.ensures in
    alike v a.o a.d (settled x (c.if-kind.true ∙ y)) false (settled c.has_children.ensures c.if-has_children.false)

pub returns : goal.returns
returns c =
    let a = c.args in
    let v = read_volume a.n a.b a.s.now in
    let x = of_entry kind_number c.entry.ensures c.kind.ensures in
    let y = of_entry kind_number c.entry-2.ensures c.kind-2.ensures in
    other v a.o a.d (λ e. c.if-kind.false (x ∙ e ∙ sym y))
