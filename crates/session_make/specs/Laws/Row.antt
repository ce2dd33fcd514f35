-- The table of create and make directory behind the text of the name: the object, the directory, and what is taken. Assumes nothing.
use Rattle.std.specs.Prelude.{ℕ, ◌<◌, ◌≤◌, ◌≡◌, refl, List, [], ◌∷◌, ◌++◌, Bool, true, false, not, ◌||◌, length, eqb}
use Rattle.std.proofs.Common.{sym, ◌∙◌}
use Rattle.std.specs.Prelude.{None, Some}
use borrow.Author.Tests.{eq-eqb, ne_eqb, lt-ltb, le-ltb}
use Rattle.returned.specs.Returned
use Rattle.volume_entry.specs.Entry.{is_used, is_directory}
use Rattle.volume_tree.specs.Volume.{Volume, entry_at, search}
use Rattle.volume_apply.specs.Apply.{is_absent}
use Rattle.session.specs.Refusal.{Row, row}
use Rattle.session.specs.Model.{outside, is_free}
use Rattle.session.specs.Code.Table.{first_number}
use Rattle.session_admission.specs.Code.Objects.{directory_rows}
use Rattle.session_change.specs.Laws.Change.{stops_first, goes_on}

or-true : (a : Bool) → (a || true) ≡ true
or-true true = refl
or-true false = refl

or-false : (a : Bool) → (a || false) ≡ a
or-false true = refl
or-false false = refl

-- What is asked after the text of a new name.
abbrev pub new_rows : Volume → ℕ → List ℕ → ℕ → List Row
new_rows v d n o =
    row Returned.bad_number (outside v d || (outside v o || eqb o 0))
    ∷ row Returned.no_object (is_free v d)
    ∷ row Returned.wrong_kind (not (is_directory (entry_at v d)))
    ∷ row Returned.taken (not (is_absent (search v d n)) || is_used (entry_at v o))
    ∷ []

abbrev pub taken_rows : Volume → ℕ → List ℕ → ℕ → List Row
taken_rows v d n o = row Returned.taken (not (is_absent (search v d n)) || is_used (entry_at v o)) ∷ []

module _ (v : Volume) (d : ℕ) (n : List ℕ) (o : ℕ) where
  -- The new object's number is none.
  bad-object : (outside v o || eqb o 0) ≡ true → 7 ≡ first_number (new_rows v d n o)
  unfolding first_number
  bad-object h = rw (h, or-true (outside v d))

  pub object-past : length v ≤ o → 7 ≡ first_number (new_rows v d n o)
  object-past h = bad-object (rw (le-ltb o (length v) h))

  pub object-root : o ≡ 0 → 7 ≡ first_number (new_rows v d n o)
  object-root h = bad-object (rw (eq-eqb o 0 h) (or-true (outside v o)))

  module _ (below : o < length v) (other : o ≡ 0 → ⊥) where
    -- It is one, so the directory decides, and then what is taken.
    new-parts : first_number (new_rows v d n o) ≡ first_number (directory_rows v d ++ taken_rows v d n o)
    unfolding first_number
    new-parts = rw (lt-ltb o (length v) below, ne_eqb o 0 other, or-false (outside v d))

    module _ (k : ℕ) (e : k ≡ first_number (directory_rows v d)) where
      pub new-refused : (k ≡ 0 → ⊥) → k ≡ first_number (new_rows v d n o)
      new-refused z = stops_first (directory_rows v d) (taken_rows v d n o) k e z ∙ sym new-parts

      new-decided : k ≡ 0 → (j : ℕ) → j ≡ first_number (taken_rows v d n o) → j ≡ first_number (new_rows v d n o)
      new-decided z j f = goes_on 0 (directory_rows v d) (taken_rows v d n o) refl k j e z f ∙ sym new-parts

      pub object-taken : k ≡ 0 → is_used (entry_at v o) ≡ true → 10 ≡ first_number (new_rows v d n o)
      unfolding first_number
      object-taken z h = new-decided z 10 (rw (h, or-true (not (is_absent (search v d n)))))

      pub name-taken : k ≡ 0 → (i : ℕ) → search v d n ≡ Some i → 10 ≡ first_number (new_rows v d n o)
      unfolding first_number
      name-taken z i h = new-decided z 10 (rw h)

      pub none-taken : k ≡ 0 → is_used (entry_at v o) ≡ false → search v d n ≡ None → 0 ≡ first_number (new_rows v d n o)
      unfolding first_number
      none-taken z u h = new-decided z 0 (rw (h, u))
