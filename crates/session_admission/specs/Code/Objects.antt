-- What an object's number names, as a number, and the rows that ask for a directory.
use Rattle.volume_questions.specs.declared.object.ObjectError.TheVariants.{BadNumber, NoObject}
use Rattle.std.specs.Prelude.{ℕ, List, [], ◌∷◌, ◌++◌, not, Result, Ok, Err}
use Rattle.returned.specs.Returned
use Rattle.volume_entry.specs.Entry.{is_directory}
use Rattle.volume_tree.specs.Volume.{Volume, entry_at}
use Rattle.volume_questions.specs.declared.object.ObjectKind.{ObjectKind}
use Rattle.volume_questions.specs.declared.object.ObjectError.{ObjectError}
use Rattle.volume_questions.specs.declared.object.ObjectKind.TheVariants.{File, Directory}
use Rattle.session.specs.Refusal.{Row, row}
use Rattle.session.specs.Model.{object_rows}

-- 7 and 8; else what is given for a file and for a directory
abbrev pub named_number : ℕ → ℕ → Result ObjectKind ObjectError → ℕ
named_number f d (Err BadNumber) = Returned.bad_number
named_number f d (Err NoObject) = Returned.no_object
named_number f d (Ok File) = f
named_number f d (Ok Directory) = d

-- a directory by its number: 7, 8, 9
abbrev pub directory_rows : Volume → ℕ → List Row
directory_rows v o = object_rows v o ++ (row Returned.wrong_kind (not (is_directory (entry_at v o))) ∷ [])
