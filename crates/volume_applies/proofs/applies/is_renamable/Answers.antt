-- `volume_applies::applies::is_renamable` meets its contract: the tests before each return settle those of `renamable`.
-- Assumes nothing.
use Prim.Native.Nat.{ℕ}
use mathlib.Core.Bool.{true, false}
use mathlib.Core.List.{List}
use Rattle.std.specs.Prelude.{Option}
use mathlib.Core.Path.{◌≡◌, ◌∙◌}
use Rattle.record.specs.Fields.{displaced_if}
use Rattle.volume_entry.specs.Entry.{is_directory}
use Rattle.volume_apply.specs.Apply.{leads, stays, yields, renamable}
use Rattle.volume_tree.specs.Volume.{Volume, entry_at}
use Rattle.volume_tree.specs.Stored.{read_volume}
use Rattle.volume_tree.specs.Laws.Lent.{entry-long}
use Rattle.volume_tree.specs.Laws.Answer.{settled, of_entry}
use Rattle.volume_applies.proofs.applies.is_renamable.Goals as goal

module _ (v : Volume) (o p q : ℕ) (d : Option ℕ) (m k : List ℕ) where
  unled : leads v p m o ≡ false → false ≡ renamable v o p q d m k
  unled e = rw e

  module _ (e : leads v p m o ≡ true) where
    other : is_directory (entry_at v q) ≡ false → false ≡ renamable v o p q d m k
    other f = rw (e, f)

    module _ (f : is_directory (entry_at v q) ≡ true) where
      moved : stays v o p q ≡ false → false ≡ renamable v o p q d m k
      moved g = rw (e, f, g)

      kept : stays v o p q ≡ true → yields v o q d k ≡ renamable v o p q d m k
      kept g = rw (e, f, g)

pub leads_to-requires : goal.leads_to-requires
leads_to-requires c = let p = c.requires in record { lent = c.requires.lent; d_lt_n = c.requires.object_lt_n.1 }

pub entry-requires : goal.entry-requires
entry-requires c = let p = c.requires in record { lent = c.requires.lent; i_lt_n = c.requires.object_lt_n.2 }

pub is_directory-requires : goal.is_directory-requires
is_directory-requires c = entry-long c.entry.ensures

pub is_staying-requires : goal.is_staying-requires
is_staying-requires c =
    let p = c.requires in record { lent = c.requires.lent; o_lt_n = c.requires.object_lt_n.0 }

pub is_yielding-requires : goal.is_yielding-requires
is_yielding-requires c =
    let p = c.requires in record { lent = c.requires.lent; o_lt_n = c.requires.object_lt_n.0 }

pub returns-then-is_staying : goal.returns-then-is_staying
returns-then-is_staying c =
    let a = c.args in
    let v = read_volume a.n a.b a.s.now in
    let x = a.objects in
    c.is_yielding.ensures
    ∙ kept v x.object x.parent x.second (displaced_if a.displacing x.displaced) a.name.now a.second.now
    (settled c.leads_to.ensures c.if-leads_to.true)
    (settled (of_entry is_directory c.entry.ensures c.is_directory.ensures) c.if-is_directory.true)
    (settled c.is_staying.ensures c.if-is_staying.true)

pub returns-else-is_staying : goal.returns-else-is_staying
returns-else-is_staying c =
    let a = c.args in
    let v = read_volume a.n a.b a.s.now in
    let x = a.objects in
    moved v x.object x.parent x.second (displaced_if a.displacing x.displaced) a.name.now a.second.now
    (settled c.leads_to.ensures c.if-leads_to.true)
    (settled (of_entry is_directory c.entry.ensures c.is_directory.ensures) c.if-is_directory.true)
    (settled c.is_staying.ensures c.if-is_staying.false)

pub returns-else-is_directory : goal.returns-else-is_directory
returns-else-is_directory c =
    let a = c.args in
    let v = read_volume a.n a.b a.s.now in
    let x = a.objects in
    other v x.object x.parent x.second (displaced_if a.displacing x.displaced) a.name.now a.second.now
    (settled c.leads_to.ensures c.if-leads_to.true)
    (settled (of_entry is_directory c.entry.ensures c.is_directory.ensures) c.if-is_directory.false)

pub returns-else-leads_to : goal.returns-else-leads_to
returns-else-leads_to c =
    let a = c.args in
    let v = read_volume a.n a.b a.s.now in
    let x = a.objects in
    unled v x.object x.parent x.second (displaced_if a.displacing x.displaced) a.name.now a.second.now
    (settled c.leads_to.ensures c.if-leads_to.false)
