-- `volume_questions::listing::listed_len` meets its contract: what is listed of a child has 4 bytes and its name, of no other entry none.
-- Assumes nothing.
use Rattle.volume_questions.specs.Listing.{listed_at}
use Prim.Native.Nat.{ℕ, ◌+◌, ◌*◌, ◌<◌}
use mathlib.Core.Bool.{true, false}
use mathlib.Core.List.{List}
use mathlib.Core.Path.{◌≡◌, ap, ◌∙◌}
use native.Mathlib.Omega.{arith}
use lib.ListN.{length, get_or, drop}
use lib.Seq.{get_or-take, get_or-drop}
use Rattle.volume_entry.specs.Entry.{name_of}
use Rattle.volume_entry.specs.Stored.{entry_bytes, read_entry}
use Rattle.volume_tree.specs.Volume.{is_child}
use Rattle.volume_tree.specs.Stored.{read_volume}
use Rattle.volume_tree.specs.Code.Lent.{IsEntry}
use Rattle.volume_tree.specs.Laws.Lent.{entry-long}
use Rattle.volume_tree.specs.Laws.Answer.{settled}
use Rattle.volume_questions.specs.Laws.Listing.{name_below, length-listed}
use Rattle.volume_questions.proofs.listing.listed_len.Goals as goal

module _ (n b : ℕ) (s : List ℕ) (d i : ℕ) where
  child : is_child (read_volume n b s) d i ≡ true → ((j : ℕ) → get_or s j 0 < 256) → (e : List ℕ) → IsEntry n b s i e
      → (x : List ℕ) → x ≡ name_of (read_entry e)
      → (4 + length x ≡ length (listed_at (read_volume n b s) d i)) × (4 + length x < 1024)
  child t bytes e p x q =
      let l : get_or e 1 0 ≡ get_or s (i * entry_bytes b + 1) 0 = rw p.part (get_or-take (entry_bytes b) (drop (i * entry_bytes b) s) 1 0 (omega arith) ∙ get_or-drop (i * entry_bytes b) s 1 0) in
      let m : length x ≡ length (name_of (read_entry e)) = ap length q in
      (rw (t, length-listed, q, p.tells), omega (arith, name_below e, bytes (i * entry_bytes b + 1)))

  no-child : is_child (read_volume n b s) d i ≡ false → (0 ≡ length (listed_at (read_volume n b s) d i)) × (0 < 1024)
  no-child t = (rw t, omega arith)

pub is_child-requires : goal.is_child-requires
is_child-requires c = c.requires

pub entry-requires : goal.entry-requires
entry-requires c = c.requires

pub name-requires : goal.name-requires
name-requires c = entry-long c.entry.ensures

pub returns-then-is_child : goal.returns-then-is_child
returns-then-is_child c =
    let a = c.args in
    child a.n a.b a.s.now a.d a.i (settled c.is_child.ensures c.if-is_child.true) (λ j. (c.type_inv.s j).fits)
    c.entry.result.now c.entry.ensures c.name.result.now c.name.ensures

pub returns : goal.returns
returns c = let a = c.args in no-child a.n a.b a.s.now a.d a.i (settled c.is_child.ensures c.if-is_child.false)
