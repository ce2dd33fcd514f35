-- `volume_applies::applies::has_room` meets its contract: the tests before each return settle those of `has_room`.
-- Assumes nothing.
use Rattle.std.specs.Prelude.{None, Some}
use Prim.Native.Nat.{ℕ, ◌<◌}
use mathlib.Core.Bool.{Bool, true, false, not}
use mathlib.Core.List.{List}
use mathlib.Core.Path.{◌≡◌}
use lib.ListN.{length}
use borrow.Author.Tests.{lt-ltb}
use Rattle.volume_entry.specs.Entry.{is_used, is_directory}
use Rattle.volume_tree.specs.Laws.Answer.{settled, of_entry, found_at, found_nothing}
use Rattle.volume_apply.specs.Apply.{has_room}
use Rattle.volume_tree.specs.Volume.{Volume, entry_at, search as sought}
use Rattle.volume_tree.specs.Stored.{read_volume}
use Rattle.volume_tree.specs.Laws.Lent.{length-read, entry-long}
use Rattle.volume_applies.proofs.applies.has_room.Goals as goal

module _ (v : Volume) (o p : ℕ) (m : List ℕ) where
  present : is_directory (entry_at v p) ≡ true → (i : ℕ) → Some i ≡ ((sought v p m)) → false ≡ has_room v o p m
  present e i t = rw (e, found_at (sought v p m) i t)

  absent : is_directory (entry_at v p) ≡ true → None ≡ ((sought v p m)) → o < length v → (u : Bool) → u ≡ is_used (entry_at v o)
      → not u ≡ has_room v o p m
  absent e t h u q = rw (e, found_nothing (sought v p m) t, lt-ltb o (length v) h, q)

  other : is_directory (entry_at v p) ≡ false → false ≡ has_room v o p m
  other e = rw e

pub entry-requires : goal.entry-requires
entry-requires c = record { lent = c.requires.lent; i_lt_n = c.requires.o_lt_n.1 }

pub is_directory-requires : goal.is_directory-requires
is_directory-requires c = entry-long c.entry.ensures

pub search-requires : goal.search-requires
search-requires c = c.requires.lent

pub entry-requires-in-None : goal.entry-requires-in-None
entry-requires-in-None c =
    record { lent = c.requires.lent; i_lt_n = c.requires.o_lt_n.0 }

pub is_used-requires : goal.is_used-requires
is_used-requires c = entry-long c.entry-in-None.ensures

pub returns-in-Some : goal.returns-in-Some
returns-in-Some c =
    let a = c.args in
    let v = read_volume a.n a.b a.s.now in
    present v a.o a.p a.name.now (settled (of_entry is_directory c.entry.ensures c.is_directory.ensures) c.if-is_directory.true)
    c.in-Some.i c.in-Some.ensures

pub returns-in-None : goal.returns-in-None
returns-in-None c =
    let a = c.args in
    let v = read_volume a.n a.b a.s.now in
    absent v a.o a.p a.name.now (settled (of_entry is_directory c.entry.ensures c.is_directory.ensures) c.if-is_directory.true)
    c.in-None.ensures (rw (length-read a.n a.b a.s.now) c.requires.o_lt_n.0)
    c.is_used.result (of_entry is_used c.entry-in-None.ensures c.is_used.ensures)

pub returns : goal.returns
returns c =
    let a = c.args in
    let v = read_volume a.n a.b a.s.now in
    other v a.o a.p a.name.now (settled (of_entry is_directory c.entry.ensures c.is_directory.ensures) c.if-is_directory.false)
