-- Set length as a change: its table, and what it issues where its table lets it pass. Assumes nothing.
use Rattle.std.specs.Prelude.{ℕ, ◌≡◌, refl, List, [], ◌∷◌}
use Rattle.record.specs.Operation.{Operation}
use Rattle.volume_tree.specs.Stored.{read_volume}
use Rattle.log_rules.specs.Stored.{read_log}
use Rattle.session.specs.Class
use Rattle.session.specs.Call.{Issuer, geometry}
use Rattle.session.specs.Edit.{length_rows}
use Rattle.session.specs.Step.{answer_of}
use Rattle.session.specs.Code.Table.{first_number}
use Rattle.session.proofs.Laws.Issuing.{Issuing}
use Rattle.session.proofs.Laws.Edit.{length-accepted}
use Rattle.session_admission.specs.Code.Admitted.{model_in, Admitted}
use Rattle.session_change.specs.Code.Change.{change_number, ChangeBy}
use Rattle.session_change.specs.Laws.Change.{change-accepted}

module _ {n b m : ℕ} {s v l : List ℕ} (h : Admitted n b m s v l) (i : Issuer) where
  module _ (o f : ℕ) (own : ℕ) (number : own ≡ first_number (length_rows b (read_volume n b v) o f)) where
    pub length-change : ChangeBy n b m i s v l (Class.set_length o f) own 1
    unfolding answer_of
    length-change =
        record {
          held = h;
          rise = refl;
          number = number;
          many = λ z. refl;
        }

    pub length-issuing : (k : ℕ) → k ≡ change_number (geometry n b m) (read_log m l) i.program own 1 → k ≡ 0
        → Issuing (geometry n b m) (model_in n b m s v l) i.program (Operation.set_length o f ∷ [])
    unfolding answer_of
    length-issuing k e z = length-accepted (geometry n b m) (model_in n b m s v l) h.holds.sound i o f (change-accepted length-change k e z)
