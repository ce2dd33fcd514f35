-- `volume_applies::applies::is_overwritable` meets its contract: a file, and the bytes wholly inside its length.
-- Assumes nothing.
use Prim.Native.Nat.{ℕ, ◌+◌, ◌-◌, ◌≤◌, ◌<◌}
use mathlib.Core.Bool.{Bool, true, false}
use mathlib.Core.List.{List}
use mathlib.Core.Path.{◌≡◌, refl}
use native.Mathlib.Omega.{arith}
use lib.Dec.{leb}
use lib.ListN.{length}
use borrow.Author.Tests.{le-leb, lt-leb, leb-true, leb-false}
use Rattle.volume_entry.specs.Entry.{is_file, contents_of}
use Rattle.volume_apply.specs.Apply.{overwritable}
use Rattle.volume_tree.specs.Volume.{Volume, entry_at}
use Rattle.volume_tree.specs.Stored.{read_volume}
use Rattle.volume_tree.specs.Laws.Lent.{entry-long}
use Rattle.volume_tree.specs.Laws.Answer.{settled, of_entry}
use Rattle.volume_applies.proofs.applies.is_overwritable.Goals as goal

-- what is left behind an offset is compared instead of a sum
leb-sub : (f k n : ℕ) → f ≤ n → leb k (n - f) ≡ leb (f + k) n
leb-sub f k n h = go (leb (f + k) n) refl
  where
    go : (t : Bool) → leb (f + k) n ≡ t → leb k (n - f) ≡ t
    go true e = let l = leb-true (f + k) n e in le-leb k (n - f) (omega arith)
    go false e = let l = leb-false (f + k) n e in lt-leb k (n - f) (omega arith)

module _ (v : Volume) (o f k : ℕ) where
  module _ (e : is_file (entry_at v o) ≡ true) (x : List ℕ) (q : x ≡ contents_of (entry_at v o)) where
    past : length x < f → false ≡ overwritable v o f k
    past h = rw (e, ← q, lt-leb (f + k) (length x) (omega arith))

    inside : f ≤ length x → leb k (length x - f) ≡ overwritable v o f k
    inside h = rw (e, ← q) (leb-sub f k (length x) h)

  other : is_file (entry_at v o) ≡ false → false ≡ overwritable v o f k
  other e = rw e

pub entry-e-requires : goal.entry-e-requires
entry-e-requires c = record { lent = c.requires.lent; i_lt_n = c.requires.o_lt_n }

pub is_file-requires : goal.is_file-requires
is_file-requires c = entry-long c.entry-e.ensures

pub contents-end-requires : goal.contents-end-requires
contents-end-requires c = entry-long c.entry-e.ensures

pub returns-then-end-offset : goal.returns-then-end-offset
returns-then-end-offset c =
    let a = c.args in
    let v = read_volume a.n a.b a.s.now in
    past v a.o a.offset a.len (settled (of_entry is_file c.entry-e.ensures c.is_file.ensures) c.if-is_file.true)
    c.contents-end.result.now (of_entry contents_of c.entry-e.ensures c.contents-end.ensures) c.if-end-offset.true

pub returns-then-is_file : goal.returns-then-is_file
returns-then-is_file c =
    let a = c.args in
    let v = read_volume a.n a.b a.s.now in
    inside v a.o a.offset a.len (settled (of_entry is_file c.entry-e.ensures c.is_file.ensures) c.if-is_file.true)
    c.contents-end.result.now (of_entry contents_of c.entry-e.ensures c.contents-end.ensures) c.if-end-offset.false

pub returns : goal.returns
returns c =
    let a = c.args in
    let v = read_volume a.n a.b a.s.now in
    other v a.o a.offset a.len (settled (of_entry is_file c.entry-e.ensures c.is_file.ensures) c.if-is_file.false)
