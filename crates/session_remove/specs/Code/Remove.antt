-- Remove file and remove directory, by whether it is a directory that is removed: the call, the kind that it takes, and what is asked
-- of an object that was found.
use Rattle.std.specs.Prelude.{ℕ, List, [], ◌∷◌, Bool, true, false, not}
use Rattle.returned.specs.Returned
use Rattle.volume_entry.specs.Entry.{Entry, is_file, is_directory}
use Rattle.volume_tree.specs.Volume.{Volume, entry_at, has_children}
use Rattle.session.specs.Class.{Change, remove_file, remove_directory}
use Rattle.session.specs.Call.{Issuer, Call, change}
use Rattle.session.specs.Refusal.{Row, row}

-- the two changes that remove an entry, as calls, and the kind that each takes
abbrev pub remove_change : Bool → ℕ → List ℕ → Change
remove_change true d n = remove_directory d n
remove_change false d n = remove_file d n

abbrev pub remove_call : Bool → Issuer → ℕ → List ℕ → Call
remove_call dir i d n = change i (remove_change dir d n)

abbrev pub removed_kind : Bool → Entry → Bool
removed_kind true e = is_directory e
removed_kind false e = is_file e

-- an object that was found may be removed: it is of the kind that the call takes, and has no children
abbrev pub choice_rows : (Entry → Bool) → Volume → ℕ → List Row
choice_rows takes v o = row Returned.wrong_kind (not (takes (entry_at v o))) ∷ row Returned.not_empty (has_children v o) ∷ []
