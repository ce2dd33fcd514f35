-- The lengths of what is listed (document 01, "Calls"): of an entry, and of the listing of a directory up to an entry.
-- Assumes nothing.
use Prim.Native.Nat.{ℕ, zero, suc, ◌+◌, ◌≤◌, ◌<◌}
use Rattle.std.proofs.Math.Numerals.{add-one}
use Rattle.std.proofs.Common.{le_refl, length-append, length-take}
use native.Mathlib.Omega.{arith}
use Rattle.std.specs.Prelude.{Bool, List, ◌++◌, ◌≡◌, get_or}
use Rattle.std.proofs.Math.Bool.{true, false}
use Rattle.std.proofs.Math.Path.{refl}
use Rattle.std.proofs.Math.ListN.{length}
use Rattle.std.proofs.Math.Dec.{eqb}
use borrow.Author.Tests.{eqb-true, eqb-false}
use Rattle.buffer.specs.Laws.Numeral.{length-bytes}
use Rattle.volume_entry.specs.Entry.{Entry, name_of, has_name}
use Rattle.volume_entry.specs.Stored.{read_entry}
use Rattle.volume_entry.specs.Laws.Field.{named-fields, unnamed-fields}
use Rattle.volume_tree.specs.Volume.{Volume}
use Rattle.volume_questions.specs.Listing.{listed, listing, listed_at}

-- The name that an entry's bytes tell of is no longer than the byte of its length says.
pub name_below : (s : List ℕ) → length (name_of (read_entry s)) ≤ get_or s 1 0
name_below s = go (has_name (read_entry s)) refl
  where
    go : (t : Bool) → has_name (read_entry s) ≡ t → length (name_of (read_entry s)) ≤ get_or s 1 0
    go true e = rw (named-fields s e).0 (simp length-take (omega arith))
    go false e = rw (unnamed-fields (read_entry s) e).0 (omega arith)

-- What is listed of a child has 4 bytes and its name.
pub length-listed : (i : ℕ) (e : Entry) → length (listed i e) ≡ 4 + length (name_of e)
length-listed i e = simp (length-append, length-bytes) (omega arith)

module _ (v : Volume) (d : ℕ) where
  -- The listing up to the next entry is that up to an entry and what is listed of it.
  pub listing-next : (i : ℕ) → listing v d (i + 1) ≡ listing v d i ++ listed_at v d i
  unfolding listing
  listing-next i = rw add-one

  -- The listing up to an entry, with what is listed of that entry, is no longer than the listing up to a later one.
  pub listing-within : (i n : ℕ) → i < n → length (listing v d i) + length (listed_at v d i) ≤ length (listing v d n)
  unfolding listing
  listing-within i zero h = absurd (omega arith)
  listing-within i (suc n) h = rw (length-append (listing v d n) (listed_at v d n)) (go (eqb i n) refl (listing-within i n))
    where
      go : (t : Bool) → eqb i n ≡ t → (i < n → length (listing v d i) + length (listed_at v d i) ≤ length (listing v d n))
          → length (listing v d i) + length (listed_at v d i) ≤ length (listing v d n) + length (listed_at v d n)
      go true e earlier = rw (eqb-true i n e) (le_refl (length (listing v d n) + length (listed_at v d n)))
      go false e earlier = let z = eqb-false i n e in let ih = earlier (omega arith) in omega arith
