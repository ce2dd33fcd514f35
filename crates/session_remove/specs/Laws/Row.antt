-- The table of either remove, part by part. Assumes nothing.
use Rattle.returned.specs.declared.Refusal.{Refusal}
use Rattle.returned.specs.Refusal.{number_of}
use Rattle.returned.specs.Laws.Refusal.{refused-number, refused-some, refused-none, accepted-number}
use Rattle.std.specs.Prelude.{ℕ, ◌≡◌, refl, List, [], ◌∷◌, Bool, true, false, not, ◌&&◌, ◌||◌, Result, Ok, Err, Some}
use Rattle.std.proofs.Common.{sym, ap, ◌∙◌}
use Rattle.std.specs.Prelude.{Option}
use Rattle.returned.specs.Returned
use Rattle.volume_entry.specs.Entry.{Entry, is_directory}
use Rattle.volume_tree.specs.Volume.{Volume, entry_at, search, has_children}
use Rattle.volume_apply.specs.Apply.{is_absent}
use Rattle.session.specs.Refusal.{Row, row}
use Rattle.session.specs.Model.{outside, is_free}
use Rattle.session.specs.Edit.{of_found, remove_rows}
use Rattle.session.specs.Code.Table.{first_number}
use Rattle.session_change.specs.Laws.Change.{stops_first, goes_on}
use Rattle.session_names.specs.Code.Rows.{text_rows, found_rows, Finds}
use Rattle.session_names.specs.Laws.Row.{place-refused, place-decided}
use Rattle.session_remove.specs.Code.Remove.{choice_rows}

-- What was found and is to be removed, test by test.
module _ (takes : Entry → Bool) (v : Volume) (o : ℕ) where
  pub choice-wrong : takes (entry_at v o) ≡ false → 9 ≡ first_number (choice_rows takes v o)
  unfolding first_number
  choice-wrong h = rw h

  pub choice-full : takes (entry_at v o) ≡ true → has_children v o ≡ true → 11 ≡ first_number (choice_rows takes v o)
  unfolding first_number
  choice-full h k = rw (h, k)

  pub choice-fine : takes (entry_at v o) ≡ true → has_children v o ≡ false → 0 ≡ first_number (choice_rows takes v o)
  unfolding first_number
  choice-fine h k = rw (h, k)

-- What is asked after the text of a name that is to be removed.
abbrev pub removal_rows : (Entry → Bool) → Volume → ℕ → List ℕ → List Row
removal_rows takes v d n =
    row Returned.bad_number (outside v d)
    ∷ row Returned.no_object (is_free v d || (is_directory (entry_at v d) && is_absent (search v d n)))
    ∷ row Returned.wrong_kind (not (is_directory (entry_at v d)) || of_found (search v d n) (λ o. not (takes (entry_at v o))))
    ∷ row Returned.not_empty (of_found (search v d n) (has_children v))
    ∷ []

-- Either remove, part by part: the text, the name, and what was found.
module _ (takes : Entry → Bool) (v : Volume) (d : ℕ) (n : List ℕ) (q : Result (Unit {0}) Refusal) (text : number_of q ≡ first_number (text_rows n)) where
  pub remove-text : (f : Refusal) → q ≡ Err f → Finds v d n (remove_rows takes v d n) (Err f)
  remove-text f e =
      record {
        number = sym (refused-number e) ∙ stops_first (text_rows n) (removal_rows takes v d n) (number_of q) text (refused-some e);
        found = λ o z. refused-none f o z;
      }

  module _ (z : number_of q ≡ 0) (k : Result ℕ Refusal) (f : Finds v d n (found_rows v d n) k) where
    behind : (j : ℕ) → j ≡ first_number (removal_rows takes v d n) → j ≡ first_number (remove_rows takes v d n)
    behind j e = goes_on 0 (text_rows n) (removal_rows takes v d n) refl (number_of q) j text z e

    pub remove-refused : (e : Refusal) → k ≡ Err e → Finds v d n (remove_rows takes v d n) (Err e)
    remove-refused e w =
        record {
          number = sym (refused-number w) ∙ behind (number_of k) (place-refused _ _ _ _ _ (number_of k) f.number (refused-some w));
          found = λ o z. refused-none e o z;
        }

    pub remove-found : (o : ℕ) → k ≡ Ok o → (r : Result ℕ Refusal) → number_of r ≡ first_number (choice_rows takes v o) → ((x : ℕ) → r ≡ Ok x → o ≡ x)
        → Finds v d n (remove_rows takes v d n) r
    remove-found o w r e same =
        let is = f.found o w in
        let asked = ap (λ (w : Option ℕ). first_number (row 9 (of_found w (λ i. not (takes (entry_at v i)))) ∷ row 11 (of_found w (has_children v)) ∷ [])) (sym is) in
        record { number = behind (number_of r) (e ∙ asked ∙ place-decided _ _ _ _ _ (number_of k) f.number (accepted-number w)); found = λ x h. is ∙ ap {B = Option ℕ} Some (same x h) }
