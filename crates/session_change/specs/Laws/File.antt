-- What a change asks of an object that must be a file, and of a range in it. Assumes nothing.
use Rattle.std.specs.Prelude.{ℕ, ◌≡◌, List, [], ◌∷◌, Bool, true, false}
use Rattle.std.proofs.Math.Path.{refl, sym}
use Rattle.std.proofs.Common.{◌∙◌}
use Rattle.returned.specs.Returned
use Rattle.volume_tree.specs.Volume.{Volume}
use Rattle.session.specs.Refusal.{Row, row}
use Rattle.session.specs.Edit.{file_rows}
use Rattle.session.specs.Code.Table.{first_number}
use Rattle.session.proofs.Laws.Table.{first-left, first-right}

module _ (v : Volume) (o : ℕ) where
  -- The object's own refusal is that of a table that asks more behind it, and where there is none a bad range refuses.
  pub file-refused : (l : List Row) (k : ℕ) → k ≡ first_number (file_rows v o []) → (k ≡ 0 → ⊥) → k ≡ first_number (file_rows v o l)
  file-refused l k e z = sym (first-left k (file_rows v o []) l (sym e) z)

  pub range-refused : (t : Bool) → 0 ≡ first_number (file_rows v o []) → t ≡ true → Returned.bad_range ≡ first_number (file_rows v o (row Returned.bad_range t ∷ []))
  unfolding first_number
  range-refused t e h = sym (first-right 0 (file_rows v o []) (row Returned.bad_range t ∷ []) refl (sym e) ∙ rw h)

  pub range-passed : (t : Bool) → 0 ≡ first_number (file_rows v o []) → t ≡ false → Returned.accepted ≡ first_number (file_rows v o (row Returned.bad_range t ∷ []))
  unfolding first_number
  range-passed t e h = sym (first-right 0 (file_rows v o []) (row Returned.bad_range t ∷ []) refl (sym e) ∙ rw h)
