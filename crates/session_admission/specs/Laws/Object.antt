-- What an object's number names decides the rows that ask of it. Assumes nothing.
use Rattle.volume_questions.specs.declared.object.ObjectError.TheVariants.{BadNumber, NoObject}
use Rattle.std.specs.Prelude.{ℕ, ◌≡◌, List, [], ◌∷◌, ◌++◌, Bool, true, false, not, cond, length, ltb, Ok, Err}
use Rattle.std.proofs.Math.Path.{refl}
use Rattle.returned.specs.Returned
use Rattle.volume_entry.specs.Entry.{Entry, is_used, is_file, is_directory}
use Rattle.volume_entry.specs.Laws.Entry.{file-no-directory, other-directory}
use Rattle.volume_tree.specs.Volume.{Volume, entry_at}
use Rattle.volume_questions.specs.declared.object.ObjectKind.TheVariants.{File, Directory}
use Rattle.volume_questions.specs.Answer.{object_answer}
use Rattle.session.specs.Refusal.{Row, row}
use Rattle.session.specs.Model.{object_rows}
use Rattle.session.specs.Edit.{file_rows}
use Rattle.session.specs.Code.Table.{first_number}
use Rattle.session_admission.specs.Code.Objects.{named_number, directory_rows}

module _ (v : Volume) (o : ℕ) where
  -- Rows behind 7 and 8 that give one number for a file and one for a directory.
  named : (f d : ℕ) (rest : Entry → List Row) → ((e : Entry) → is_file e ≡ true → f ≡ first_number (rest e))
      → ((e : Entry) → is_directory e ≡ true → is_file e ≡ false → d ≡ first_number (rest e))
      → named_number f d (object_answer v o) ≡ first_number (object_rows v o ++ rest (entry_at v o))
  unfolding object_answer first_number
  named f d rest hf hd = go (ltb o (length v)) (is_used e) (is_file e) refl refl
    where
      e : Entry
      e = entry_at v o

      go : (t u k : Bool) → is_used e ≡ u → is_file e ≡ k → named_number f d (cond t (cond u (cond k (Ok File) (Ok Directory)) (Err NoObject)) (Err BadNumber))
          ≡ first_number (row Returned.bad_number (not t) ∷ row Returned.no_object (not u) ∷ rest e)
      go false u k eu ek = refl
      go true false k eu ek = refl
      go true true true eu ek = hf e ek
      go true true false eu ek = hd e (other-directory e eu ek) ek

  pub named-object : named_number Returned.accepted Returned.accepted (object_answer v o) ≡ first_number (object_rows v o)
  unfolding first_number
  named-object = named 0 0 (λ e. []) (λ e h. refl) (λ e h k. refl)

  pub named-file : named_number Returned.accepted Returned.wrong_kind (object_answer v o) ≡ first_number (file_rows v o [])
  unfolding first_number
  named-file = named 0 9 (λ e. row Returned.wrong_kind (not (is_file e)) ∷ []) (λ e h. rw h) (λ e h k. rw k)

  pub named-directory : named_number Returned.wrong_kind Returned.accepted (object_answer v o) ≡ first_number (directory_rows v o)
  unfolding first_number
  named-directory = named 9 0 (λ e. row Returned.wrong_kind (not (is_directory e)) ∷ []) (λ e h. rw (file-no-directory e h)) (λ e h k. rw h)
