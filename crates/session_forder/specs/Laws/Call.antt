-- Forder as a change: its table, and what it issues where its table lets it pass. Assumes nothing.
use Rattle.std.specs.Prelude.{ℕ, ◌%◌, ◌≡◌, refl, List, [], ◌∷◌, length}
use Rattle.std.proofs.Common.{sym, ap, ◌∙◌}
use Rattle.record.specs.Operation.{Operation}
use Rattle.record.specs.Fields.{objects_of}
use Rattle.record_writer.specs.Code.Writer.{forder_record}
use Rattle.volume_tree.specs.Stored.{encode_volume, read_volume}
use Rattle.volume_tree.specs.Code.Lent.{Formed}
use Rattle.volume_apply.proofs.Laws.Apply.{apply-forder}
use Rattle.log_rules.specs.Stored.{read_log}
use Rattle.log_draft.specs.Code.Issued.{Waits, Issued}
use Rattle.session.specs.Class
use Rattle.session.specs.Call.{Issuer, geometry}
use Rattle.session.specs.Edit.{forder_rows}
use Rattle.session.specs.Step.{answer_of}
use Rattle.session.specs.Code.Table.{first_number}
use Rattle.session.proofs.Laws.Issuing.{Issuing}
use Rattle.session.proofs.Laws.Edit.{forder-accepted}
use Rattle.session_admission.specs.Code.Admitted.{model_in, Admitted}
use Rattle.session_change.specs.Code.Change.{change_number, ChangeBy}
use Rattle.session_change.specs.Laws.Change.{change-accepted, change-own}
use Rattle.session_forder.specs.Laws.List.{list-even}

module _ {n b m : ℕ} {s v l : List ℕ} (h : Admitted n b m s v l) (i : Issuer) where
  module _ (d : List ℕ) (own : ℕ) (number : own ≡ first_number (forder_rows (read_volume n b v) d)) where
    pub forder-change : ChangeBy n b m i s v l (Class.forder d) own 1
    unfolding answer_of
    forder-change =
        record {
          held = h;
          rise = refl;
          number = number;
          many = λ z. refl;
        }

    module _ (k : ℕ) (e : k ≡ change_number (geometry n b m) (read_log m l) i.program own 1) (z : k ≡ 0) where
      pub forder-issuing : Issuing (geometry n b m) (model_in n b m s v l) i.program (Operation.forder (objects_of d) ∷ [])
      unfolding answer_of
      forder-issuing = forder-accepted (geometry n b m) (model_in n b m s v l) h.holds.sound i d (change-accepted forder-change k e z)

      -- The list of an accepted forder is of even length.
      pub forder-even : length d % 2 ≡ 0
      forder-even = list-even (read_volume n b v) d (sym (change-own forder-change k e z) ∙ number)

-- The log's part of an issued forder is all of it: the view tells of the same volume.
pub forder-issued : {n b m : ℕ} {v : List ℕ} → Formed n b v → (q p x : ℕ) (d log l : List ℕ)
    → Waits m x log (read_log m l) (forder_record q p d) → Issued n b m x log v (read_volume n b v) (read_log m l) (forder_record q p d)
unfolding forder_record
forder-issued {n} {b} {v = v} f q p x d log l w =
    record { gives = w.gives; log = w.log; view = sym f.stored ∙ ap (encode_volume b) (sym (apply-forder (read_volume n b v) (objects_of d))) }
