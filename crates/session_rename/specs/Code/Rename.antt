-- What rename asks of an object that was found, and what it finds.
use Rattle.returned.specs.declared.Refusal.{Refusal}
use Rattle.returned.specs.Refusal.{number_of}
use Rattle.session_rename.specs.declared.Move.{Move}
use Rattle.std.specs.Prelude.{ℕ, ◌≡◌, List, [], ◌∷◌, not, ◌&&◌, ◌||◌, eqb, Result, Ok}
use Rattle.std.specs.Prelude.{Option, Some}
use Rattle.returned.specs.Returned
use Rattle.volume_entry.specs.Entry.{is_directory, kind_number}
use Rattle.volume_tree.specs.Volume.{Volume, entry_at, search, has_children}
use Rattle.session.specs.Issue.{displaced}
use Rattle.session.specs.Refusal.{Row, row}
use Rattle.session.specs.Edit.{of_found, rename_rows}
use Rattle.session.specs.Code.Table.{first_number}

-- an object that was found may take another name and place, and displace another object or none
abbrev pub move_rows : Volume → ℕ → ℕ → ℕ → Option ℕ → List Row
move_rows v d e o t =
    row Returned.wrong_kind
    ((is_directory (entry_at v o) && not (eqb d e)) || of_found t (λ i. not (eqb (kind_number (entry_at v i)) (kind_number (entry_at v o)))))
    ∷ row Returned.not_empty (of_found t (has_children v))
    ∷ []

abbrev pub move : ℕ → Option ℕ → Move
move o t = record { object = o; displaced = t }

-- the refusal of a rename's table, or the object that is renamed and the one that it displaces
pub record Moves (v : Volume) (d : ℕ) (n : List ℕ) (e : ℕ) (s : List ℕ) (q : Result Move Refusal) : Type 0 where
  pub number : number_of q ≡ first_number (rename_rows v d n e s)
  pub found : (w : Move) → q ≡ Ok w → search v d n ≡ Some w.object
  pub displaces : (w : Move) → q ≡ Ok w → w.displaced ≡ displaced w.object (search v e s)
