-- Rename as a change: its table, and the operation that it issues where it is accepted. Assumes nothing.
use Rattle.returned.specs.declared.Refusal.{Refusal}
use Rattle.returned.specs.Refusal.{number_of}
use Rattle.returned.specs.Laws.Refusal.{value-there}
use Rattle.session_rename.specs.declared.Move.{Move}
use Rattle.std.specs.Prelude.{ℕ, ◌≡◌, refl, List, [], ◌∷◌, Result}
use Rattle.std.proofs.Common.{sym, ◌∙◌}
use Rattle.std.proofs.Math.Path.{ap, subst}
use Rattle.std.specs.Prelude.{Option, Some}
use Rattle.std.proofs.Math.ListN.{length}
use Rattle.record.specs.Operation.{Operation, record_of}
use Rattle.volume_tree.specs.Volume.{search}
use Rattle.volume_tree.specs.Stored.{read_volume}
use Rattle.record_writer.specs.Code.Writer.{rename_record}
use Rattle.session.specs.Model.{told_of}
use Rattle.session.specs.Class
use Rattle.session.specs.Call
use Rattle.session.specs.Call.{Issuer, Call, geometry}
use Rattle.session.specs.Issue.{issues, on_found, displaced}
use Rattle.session.specs.Step.{answer_of}
use Rattle.session.proofs.Laws.Edit.{rename-accepted}
use Rattle.session.proofs.Laws.Issuing.{Issuing}
use Rattle.session_admission.specs.Code.Admitted.{model_in, Admitted}
use Rattle.session_change.specs.Code.Change.{ChangeBy}
use Rattle.session_rename.specs.Code.Rename.{Moves}

module _ (n b m : ℕ) (i : Issuer) (s v l : List ℕ) (h : Admitted n b m s v l) where
  pub rename-change : (d : ℕ) (name : List ℕ) (e : ℕ) (second : List ℕ) (own : Result Move Refusal) → Moves (read_volume n b v) d name e second own
      → ChangeBy n b m i s v l (Class.rename d name e second) (number_of own) 1
  unfolding answer_of
  rename-change d name e second own f =
      record {
        held = h;
        rise = refl;
        number = f.number;
        many = λ z. let w = value-there own z in ap (λ (w : Option ℕ). length (on_found w (λ i. Operation.rename i d e (displaced i (search (read_volume n b v) e second)) name second))) (f.found w.0 w.1);
      }

  module _ (d : ℕ) (name : List ℕ) (e : ℕ) (second : List ℕ) (o : ℕ) (t : Option ℕ) (is : search (read_volume n b v) d name ≡ Some o)
      (gone : t ≡ displaced o (search (read_volume n b v) e second)) where
    pub rename-issues : issues (told_of (model_in n b m s v l)) (Call.rename i d name e second) ≡ Operation.rename o d e t name second ∷ []
    rename-issues =
        ap (λ (w : Option ℕ). on_found w (λ i. Operation.rename i d e (displaced i (search (read_volume n b v) e second)) name second)) is
        ∙ ap (λ (w : Option ℕ). Operation.rename o d e w name second ∷ []) (sym gone)

    pub rename-issuing : (answer_of (geometry n b m) (Call.rename i d name e second) (model_in n b m s v l)).returned ≡ 0
        → Issuing (geometry n b m) (model_in n b m s v l) i.program (Operation.rename o d e t name second ∷ [])
    unfolding answer_of
    rename-issuing z =
        let a = rename-accepted (geometry n b m) (model_in n b m s v l) h.holds.sound i d name e second z in
        let other = a.1 in
        let same : a.0 ≡ o = cc in
        subst (λ (w : Option ℕ). Issuing (geometry n b m) (model_in n b m s v l) i.program (Operation.rename o d e w name second ∷ [])) (sym gone)
        (subst (λ (w : ℕ). Issuing (geometry n b m) (model_in n b m s v l) i.program (Operation.rename w d e (displaced w (search (read_volume n b v) e second)) name second ∷ [])) same a.2)

-- The record that is written is that of this operation.
pub rename-record : (q p o d e : ℕ) (t : Option ℕ) (name second : List ℕ) → rename_record q p o d e t name second ≡ record_of q p (Operation.rename o d e t name second)
unfolding rename_record
rename-record q p o d e t name second = refl
