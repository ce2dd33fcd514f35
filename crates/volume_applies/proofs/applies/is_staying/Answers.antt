-- `volume_applies::applies::is_staying` meets its contract: only a directory is asked to stay.
-- Assumes nothing.
use Prim.Native.Nat.{ℕ}
use mathlib.Core.Bool.{true, false}
use mathlib.Core.Path.{◌≡◌}
use lib.Dec.{eqb}
use Rattle.volume_entry.specs.Entry.{is_directory}
use Rattle.volume_apply.specs.Apply.{stays}
use Rattle.volume_tree.specs.Volume.{Volume, entry_at}
use Rattle.volume_tree.specs.Stored.{read_volume}
use Rattle.volume_tree.specs.Laws.Lent.{entry-long}
use Rattle.volume_tree.specs.Laws.Answer.{settled, of_entry}
use Rattle.volume_applies.proofs.applies.is_staying.Goals as goal

module _ (v : Volume) (o p q : ℕ) where
  kept : is_directory (entry_at v o) ≡ true → eqb p q ≡ stays v o p q
  kept e = rw e

  other : is_directory (entry_at v o) ≡ false → true ≡ stays v o p q
  other e = rw e

pub entry-requires : goal.entry-requires
entry-requires c = record { lent = c.requires.lent; i_lt_n = c.requires.o_lt_n }

pub is_directory-requires : goal.is_directory-requires
is_directory-requires c = entry-long c.entry.ensures

pub returns-then-is_directory : goal.returns-then-is_directory
returns-then-is_directory c =
    let a = c.args in
    let v = read_volume a.n a.b a.s.now in
    kept v a.o a.p a.q (settled (of_entry is_directory c.entry.ensures c.is_directory.ensures) c.if-is_directory.true)

pub returns : goal.returns
returns c =
    let a = c.args in
    let v = read_volume a.n a.b a.s.now in
    other v a.o a.p a.q (settled (of_entry is_directory c.entry.ensures c.is_directory.ensures) c.if-is_directory.false)
