-- What a call that changes the view is to its table, and the number that the code gives for it.
use Rattle.std.specs.Prelude.{ℕ, ◌≡◌, List, ◌∷◌, ◌++◌, true, not, length, eqb}
use Rattle.returned.specs.Returned
use Rattle.returned.specs.Returned.{rank_of}
use Rattle.record.specs.Operation.{Operation}
use Rattle.volume_tree.specs.Stored.{read_volume}
use Rattle.log_rules.specs.Slot.{Log}
use Rattle.session.specs.Class.{Change}
use Rattle.session.specs.Call.{Geometry, Issuer, change, geometry}
use Rattle.session.specs.Refusal.{Row, row}
use Rattle.session.specs.Model.{program_rows, room_for, told_of}
use Rattle.session.specs.Issue.{operations_of}
use Rattle.session.specs.Edit.{room_rows, change_rows}
use Rattle.session.specs.Code.Table.{first_number, rising}
use Rattle.session.proofs.Laws.Issuing.{Issuing}
use Rattle.session_admission.specs.Code.Admitted.{model_in, Admitted}

-- a table that is known by the number that it gives
abbrev pub own_row : ℕ → Row
own_row k = row k (not (eqb k 0))

-- the number of a change that issues so many operations: program, own table, room
unfoldable pub change_number : Geometry → Log → ℕ → ℕ → ℕ → ℕ
change_number g l p own count = first_number (program_rows l p ++ (own_row own ∷ room_for g l count))

-- a change, on three buffers that passed: its own rows give the number `own`, and where they let it pass it issues `count`
-- operations
pub record ChangeBy (n b m : ℕ) (i : Issuer) (s v l : List ℕ) (c : Change) (own count : ℕ) : Type 0 where
  pub held : Admitted n b m s v l
  pub rise : rising (rank_of Returned.marked) (change_rows (geometry n b m) (read_volume n b v) c ++ room_rows (geometry n b m) (change i c) (model_in n b m s v l)) ≡ true
  pub number : own ≡ first_number (change_rows (geometry n b m) (read_volume n b v) c)
  pub many : own ≡ 0 → length (operations_of (told_of (model_in n b m s v l)) c) ≡ count

-- operations of a program that may be issued one after the other on a view and a log, whatever server volume is lent with them
pub record MayIssue (n b m p : ℕ) (v l : List ℕ) (os : List Operation) : Type 0 where
  pub server : List ℕ
  pub held : Admitted n b m server v l
  pub issuing : Issuing (geometry n b m) (model_in n b m server v l) p os
