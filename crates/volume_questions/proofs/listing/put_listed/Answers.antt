-- `volume_questions::listing::put_listed` meets its contract: the fields of a child are put one after another, and of no other entry anything.
-- Assumes nothing.
use Rattle.volume_questions.specs.Listing.{listed_at}
use Prim.Native.Nat.{ℕ, ◌+◌, ◌≤◌}
use mathlib.Core.Bool.{true, false}
use mathlib.Core.List.{List, ◌++◌}
use mathlib.Core.Path.{◌≡◌}
use native.Mathlib.Omega.{arith}
use lib.ListN.{length}
use Rattle.buffer.specs.Numeral.{bytes}
use Rattle.buffer.specs.Laws.Numeral.{length-bytes}
use Rattle.buffer.specs.Patch.{Put}
use Rattle.buffer.specs.Laws.Patch.{put_then, put-end, put-none}
use Rattle.volume_entry.specs.Entry.{kind_number, name_of}
use Rattle.volume_tree.specs.Volume.{Volume, entry_at, is_child}
use Rattle.volume_tree.specs.Stored.{read_volume}
use Rattle.volume_tree.specs.Laws.Lent.{entry-long}
use Rattle.volume_tree.specs.Laws.Answer.{settled, of_entry}
use Rattle.volume_questions.specs.Laws.Listing.{length-listed}
use Rattle.volume_questions.proofs.listing.put_listed.Goals as goal

module _ (v : Volume) (d i : ℕ) where
  module _ (t : is_child v d i ≡ true) (x : List ℕ) (q : x ≡ name_of (entry_at v i)) where
    child-size : length (listed_at v d i) ≡ 4 + length x
    child-size = rw (t, length-listed, q)

    child : (k : ℕ) → k ≡ kind_number (entry_at v i) → {at r : ℕ} {before after : List ℕ}
        → Put (bytes 2 i ++ (bytes 1 k ++ (bytes 1 (length x) ++ x))) at before after r → Put (listed_at v d i) at before after r
    child k e p = rw (t, ← e, ← q) p

  no-child : is_child v d i ≡ false → (l : List ℕ) (at : ℕ) → Put (listed_at v d i) at l l at
  no-child t l at = rw t (put-none l at)

  -- there is room for the name and 4 bytes more
  room : is_child v d i ≡ true → (x : List ℕ) → x ≡ name_of (entry_at v i) → (at own : ℕ) → at + length (listed_at v d i) ≤ own → at + (4 + length x) ≤ own
  room t x q at own h = omega (arith, child-size t x q)

pub is_child-requires : goal.is_child-requires
is_child-requires c = record { lent = c.requires.lent; i_lt_n = c.requires.i_lt_n }

pub entry-e-requires : goal.entry-e-requires
entry-e-requires c = record { lent = c.requires.lent; i_lt_n = c.requires.i_lt_n }

pub name-text-requires : goal.name-text-requires
name-text-requires c = entry-long c.entry-e.ensures

pub put_two-p-requires : goal.put_two-p-requires
put_two-p-requires c =
    let a = c.args in
    let k = room (read_volume a.n a.b a.s.now) a.d a.i (settled c.is_child.ensures c.if-is_child.true)
    c.name-text.result.now (of_entry name_of c.entry-e.ensures c.name-text.ensures) a.at (length a.buf.now) c.requires.i_in_bounds in
    omega arith

pub kind-requires : goal.kind-requires
kind-requires c = entry-long c.entry-e.ensures

pub put_one-q-requires : goal.put_one-q-requires
put_one-q-requires c =
    let a = c.args in
    let k = room (read_volume a.n a.b a.s.now) a.d a.i (settled c.is_child.ensures c.if-is_child.true)
    c.name-text.result.now (of_entry name_of c.entry-e.ensures c.name-text.ensures) a.at (length a.buf.now) c.requires.i_in_bounds in
    let p : c.put_two-p.result ≡ a.at + 2 = omega (arith, put-end 2 c.put_two-p.ensures (length-bytes 2 _)) in
    omega arith

pub put_one-r-requires : goal.put_one-r-requires
put_one-r-requires c =
    let a = c.args in
    let k = room (read_volume a.n a.b a.s.now) a.d a.i (settled c.is_child.ensures c.if-is_child.true)
    c.name-text.result.now (of_entry name_of c.entry-e.ensures c.name-text.ensures) a.at (length a.buf.now) c.requires.i_in_bounds in
    let p : c.put_two-p.result ≡ a.at + 2 = omega (arith, put-end 2 c.put_two-p.ensures (length-bytes 2 _)) in
    let q : c.put_one-q.result ≡ a.at + 3 = omega (arith, put-end 1 c.put_one-q.ensures (length-bytes 1 _)) in
    omega arith

pub put_bytes-requires : goal.put_bytes-requires
put_bytes-requires c =
    let a = c.args in
    let k = room (read_volume a.n a.b a.s.now) a.d a.i (settled c.is_child.ensures c.if-is_child.true)
    c.name-text.result.now (of_entry name_of c.entry-e.ensures c.name-text.ensures) a.at (length a.buf.now) c.requires.i_in_bounds in
    let p : c.put_two-p.result ≡ a.at + 2 = omega (arith, put-end 2 c.put_two-p.ensures (length-bytes 2 _)) in
    let q : c.put_one-q.result ≡ a.at + 3 = omega (arith, put-end 1 c.put_one-q.ensures (length-bytes 1 _)) in
    let r : c.put_one-r.result ≡ a.at + 4 = omega (arith, put-end 1 c.put_one-r.ensures (length-bytes 1 _)) in
    omega arith

pub returns-then-is_child : goal.returns-then-is_child
returns-then-is_child c =
    let a = c.args in
    child (read_volume a.n a.b a.s.now) a.d a.i (settled c.is_child.ensures c.if-is_child.true)
    c.name-text.result.now (of_entry name_of c.entry-e.ensures c.name-text.ensures)
    c.kind.result (of_entry kind_number c.entry-e.ensures c.kind.ensures)
    (put_then c.put_two-p.ensures (put_then c.put_one-q.ensures (put_then c.put_one-r.ensures c.put_bytes.ensures)))

pub returns : goal.returns
returns c =
    let a = c.args in
    no-child (read_volume a.n a.b a.s.now) a.d a.i (settled c.is_child.ensures c.if-is_child.false) a.buf.now a.at
