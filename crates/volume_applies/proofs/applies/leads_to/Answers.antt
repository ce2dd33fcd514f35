-- `volume_applies::applies::leads_to` meets its contract: a name leads nowhere but from a directory, and there to what the search finds.
-- Assumes nothing.
use Rattle.std.specs.Prelude.{None, Some}
use Prim.Native.Nat.{ℕ}
use mathlib.Core.Bool.{true, false}
use mathlib.Core.List.{List}
use mathlib.Core.Path.{◌≡◌}
use lib.Dec.{eqb}
use Rattle.volume_entry.specs.Entry.{is_directory}
use Rattle.volume_tree.specs.Laws.Answer.{settled, of_entry, found_at, found_nothing}
use Rattle.volume_apply.specs.Apply.{leads}
use Rattle.volume_tree.specs.Volume.{Volume, entry_at, search as sought}
use Rattle.volume_tree.specs.Stored.{read_volume}
use Rattle.volume_tree.specs.Laws.Lent.{entry-long}
use Rattle.volume_applies.proofs.applies.leads_to.Goals as goal

module _ (v : Volume) (d : ℕ) (m : List ℕ) (o : ℕ) where
  found : is_directory (entry_at v d) ≡ true → (i : ℕ) → Some i ≡ ((sought v d m)) → eqb i o ≡ leads v d m o
  found e i a = rw (e, found_at (sought v d m) i a)

  absent : is_directory (entry_at v d) ≡ true → None ≡ ((sought v d m)) → false ≡ leads v d m o
  absent e a = rw (e, found_nothing (sought v d m) a)

  other : is_directory (entry_at v d) ≡ false → false ≡ leads v d m o
  other e = rw e

pub entry-requires : goal.entry-requires
entry-requires c = record { lent = c.requires.lent; i_lt_n = c.requires.d_lt_n }

pub is_directory-requires : goal.is_directory-requires
is_directory-requires c = entry-long c.entry.ensures

pub search-requires : goal.search-requires
search-requires c = c.requires.lent

pub returns-in-Some : goal.returns-in-Some
returns-in-Some c =
    let a = c.args in
    let v = read_volume a.n a.b a.s.now in
    found v a.d a.name.now a.o (settled (of_entry is_directory c.entry.ensures c.is_directory.ensures) c.if-is_directory.true)
    c.in-Some.i c.in-Some.ensures

pub returns-in-None : goal.returns-in-None
returns-in-None c =
    let a = c.args in
    let v = read_volume a.n a.b a.s.now in
    absent v a.d a.name.now a.o (settled (of_entry is_directory c.entry.ensures c.is_directory.ensures) c.if-is_directory.true)
    c.in-None.ensures

pub returns : goal.returns
returns c =
    let a = c.args in
    let v = read_volume a.n a.b a.s.now in
    other v a.d a.name.now a.o (settled (of_entry is_directory c.entry.ensures c.is_directory.ensures) c.if-is_directory.false)
