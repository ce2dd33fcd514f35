-- The parts of the tables of the calls on names that these share: the text of a name, and the object that it leads to.
use Rattle.std.specs.Prelude.{ℕ, ◌≡◌, List, [], ◌∷◌, not, ◌&&◌, ◌||◌, Result, Ok}
use Rattle.std.specs.Prelude.{Some}
use Rattle.returned.specs.Returned
use Rattle.returned.specs.declared.Refusal.{Refusal}
use Rattle.returned.specs.Refusal.{number_of}
use Rattle.names.specs.Name.{name_text_of}
use Rattle.volume_entry.specs.Entry.{is_directory}
use Rattle.volume_tree.specs.Volume.{Volume, entry_at, search}
use Rattle.volume_apply.specs.Apply.{is_absent}
use Rattle.session.specs.Refusal.{Row, row}
use Rattle.session.specs.Model.{is_bad, is_long, outside, is_free}
use Rattle.session.specs.Code.Table.{first_number}

-- "5 Bad name", "6 Long name"
abbrev pub text_rows : List ℕ → List Row
text_rows n = row Returned.bad_name (is_bad (name_text_of n)) ∷ row Returned.long_name (is_long (name_text_of n)) ∷ []

-- "7 Bad number", "8 No object", "9 Wrong kind" of a directory by its number, with a name that is to be found in it
abbrev pub found_rows : Volume → ℕ → List ℕ → List Row
found_rows v d n =
    row Returned.bad_number (outside v d)
    ∷ row Returned.no_object (is_free v d || (is_directory (entry_at v d) && is_absent (search v d n)))
    ∷ row Returned.wrong_kind (not (is_directory (entry_at v d)))
    ∷ []

-- the refusal of a table, or the object that the name leads to
pub record Finds (v : Volume) (d : ℕ) (n : List ℕ) (rows : List Row) (q : Result ℕ Refusal) : Type 0 where
  pub number : number_of q ≡ first_number rows
  pub found : (o : ℕ) → q ≡ Ok o → search v d n ≡ Some o
