-- `volume_applies::applies::is_appendable` meets its contract: a file, and an offset at its length.
-- Assumes nothing.
use Prim.Native.Nat.{ℕ}
use mathlib.Core.Bool.{true, false}
use mathlib.Core.List.{List}
use mathlib.Core.Path.{◌≡◌}
use lib.Dec.{eqb}
use lib.ListN.{length}
use Rattle.volume_entry.specs.Entry.{is_file, contents_of}
use Rattle.volume_apply.specs.Apply.{appendable}
use Rattle.volume_tree.specs.Volume.{Volume, entry_at}
use Rattle.volume_tree.specs.Stored.{read_volume}
use Rattle.volume_tree.specs.Laws.Lent.{entry-long}
use Rattle.volume_tree.specs.Laws.Answer.{settled, of_entry}
use Rattle.volume_applies.proofs.applies.is_appendable.Goals as goal

module _ (v : Volume) (o f : ℕ) where
  file : is_file (entry_at v o) ≡ true → (x : List ℕ) → x ≡ contents_of (entry_at v o) → eqb f (length x) ≡ appendable v o f
  file e x q = rw (e, q)

  other : is_file (entry_at v o) ≡ false → false ≡ appendable v o f
  other e = rw e

pub entry-e-requires : goal.entry-e-requires
entry-e-requires c = record { lent = c.requires.lent; i_lt_n = c.requires.o_lt_n }

pub is_file-requires : goal.is_file-requires
is_file-requires c = entry-long c.entry-e.ensures

pub contents-requires : goal.contents-requires
contents-requires c = entry-long c.entry-e.ensures

pub returns-then-is_file : goal.returns-then-is_file
returns-then-is_file c =
    let a = c.args in
    let v = read_volume a.n a.b a.s.now in
    file v a.o a.offset (settled (of_entry is_file c.entry-e.ensures c.is_file.ensures) c.if-is_file.true)
    c.contents.result.now (of_entry contents_of c.entry-e.ensures c.contents.ensures)

pub returns : goal.returns
returns c =
    let a = c.args in
    let v = read_volume a.n a.b a.s.now in
    other v a.o a.offset (settled (of_entry is_file c.entry-e.ensures c.is_file.ensures) c.if-is_file.false)
