-- A file past the end of a volume has no bytes, and which ranges in a file are bad. Assumes nothing.
use Rattle.std.specs.Prelude.{ℕ, ◌+◌, ◌*◌, ◌-◌, ◌%◌, ◌≤◌, ◌<◌, ◌≡◌, refl, Bool, true, false, ◌||◌, length, ltb, eqb}
use Rattle.std.proofs.Common.{arith, sym, ap, ltb-true, ltb-false, lt-ltb, le-ltb, eq-eqb, ne_eqb}
use Rattle.std.proofs.Math.ListN.{get_or-eq_default}
use Rattle.buffer.specs.Laws.Test.{or_left, or_right}
use Rattle.volume_entry.specs.Entry.{Entry, free, contents_of}
use Rattle.volume_tree.specs.Volume.{Volume, entry_at}
use Rattle.session.specs.Edit.{bad_range}

-- Past the end of a volume there is no file, and so no bytes.
pub past-empty : (v : Volume) (o : ℕ) → length v ≤ o → length (contents_of (entry_at v o)) ≡ 0
past-empty v o h = ap (λ (e : Entry). length (contents_of e)) (get_or-eq_default v free h)

-- "write of 0 bytes, across blocks .., beyond length or b": each makes a range bad.
module _ (b len f n : ℕ) where
  pub empty-bad : n ≡ 0 → bad_range b len f n ≡ true
  empty-bad e = rw (eq-eqb n 0 e)

  pub across-bad : 1024 < f % 1024 + n → bad_range b len f n ≡ true
  across-bad h = or_left _ _ (or_right (eqb n 0) _ (lt-ltb 1024 (f % 1024 + n) h))

  pub beyond-bad : len < f → bad_range b len f n ≡ true
  beyond-bad h = or_right (eqb n 0 || ltb 1024 (f % 1024 + n)) _ (rw (lt-ltb len f h))

  -- Where none of these holds the last decides.
  pub last-bad : (n ≡ 0 → ⊥) → f % 1024 + n ≤ 1024 → f ≤ len → bad_range b len f n ≡ ltb (1024 * b) (f + n)
  last-bad z h k = rw (ne_eqb n 0 z, le-ltb 1024 (f % 1024 + n) h, le-ltb len f k)

-- What is left behind an offset is compared with a count as the whole with their sum.
pub room-left : (whole f n : ℕ) → f ≤ whole → ltb (whole - f) n ≡ ltb whole (f + n)
room-left whole f n h = go (ltb (whole - f) n) refl
  where
    go : (t : Bool) → ltb (whole - f) n ≡ t → t ≡ ltb whole (f + n)
    go true e = let k : whole - f < n = ltb-true _ _ e in sym (lt-ltb whole (f + n) (omega arith))
    go false e = let k : n ≤ whole - f = ltb-false _ _ e in sym (le-ltb whole (f + n) (omega arith))
