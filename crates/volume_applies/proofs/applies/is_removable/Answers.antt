-- `volume_applies::applies::is_removable` meets its contract: the tests before each return settle those of `removable`.
-- Assumes nothing.
use Prim.Native.Nat.{ℕ}
use mathlib.Core.Bool.{Bool, true, false, not}
use mathlib.Core.List.{List}
use mathlib.Core.Path.{◌≡◌}
use Rattle.volume_apply.specs.Apply.{leads, removable}
use Rattle.volume_tree.specs.Volume.{Volume, has_children}
use Rattle.volume_tree.specs.Stored.{read_volume}
use Rattle.volume_tree.specs.Laws.Answer.{settled}
use Rattle.volume_applies.proofs.applies.is_removable.Goals as goal

module _ (v : Volume) (o p : ℕ) (m : List ℕ) where
  led : leads v p m o ≡ true → (t : Bool) → has_children v o ≡ t → not t ≡ removable v o p m
  led e t h = rw (e, h)

  other : leads v p m o ≡ false → false ≡ removable v o p m
  other e = rw e

pub leads_to-requires : goal.leads_to-requires
leads_to-requires c = record { lent = c.requires.lent; d_lt_n = c.requires.p_lt_n }

pub has_children-requires : goal.has_children-requires
has_children-requires c = c.requires.lent

pub returns-then-has_children : goal.returns-then-has_children
returns-then-has_children c =
    let a = c.args in
    let v = read_volume a.n a.b a.s.now in
    led v a.o a.p a.name.now (settled c.leads_to.ensures c.if-leads_to.true) true (settled c.has_children.ensures c.if-has_children.true)

pub returns-then-leads_to : goal.returns-then-leads_to
returns-then-leads_to c =
    let a = c.args in
    let v = read_volume a.n a.b a.s.now in
    led v a.o a.p a.name.now (settled c.leads_to.ensures c.if-leads_to.true) false (settled c.has_children.ensures c.if-has_children.false)

pub returns : goal.returns
returns c =
    let a = c.args in
    let v = read_volume a.n a.b a.s.now in
    other v a.o a.p a.name.now (settled c.leads_to.ensures c.if-leads_to.false)
