-- Remove file and remove directory as changes: their tables, and the operation that each issues where it is accepted. Assumes nothing.
use Rattle.returned.specs.declared.Refusal.{Refusal}
use Rattle.returned.specs.Refusal.{number_of}
use Rattle.returned.specs.Laws.Refusal.{value-there}
use Rattle.std.specs.Prelude.{ℕ, ◌≡◌, refl, List, [], ◌∷◌, Bool, Result}
use Rattle.std.proofs.Math.Path.{ap, subst}
use Rattle.std.proofs.Common.{◌∙◌}
use Rattle.std.proofs.Math.Bool.{true, false}
use Rattle.std.specs.Prelude.{Option, Some}
use Rattle.std.proofs.Math.ListN.{length}
use Rattle.record.specs.Operation.{Operation, record_of}
use Rattle.record.specs.declared.kind.Kind.TheVariants.{Remove}
use Rattle.volume_tree.specs.Volume.{search}
use Rattle.volume_tree.specs.Stored.{read_volume}
use Rattle.record_writer.specs.Code.Writer.{entry_record}
use Rattle.session.specs.Told.{Told}
use Rattle.session.specs.Model.{told_of}
use Rattle.session.specs.Call.{Issuer, geometry}
use Rattle.session.specs.Issue.{issues, on_found, removes}
use Rattle.session.specs.Edit.{changed, remove_rows}
use Rattle.session.specs.Step.{answer_of}
use Rattle.session.proofs.Laws.Edit.{remove-accepted}
use Rattle.session.proofs.Laws.Issuing.{Issuing}
use Rattle.session_admission.specs.Code.Admitted.{model_in, Admitted}
use Rattle.session_change.specs.Code.Change.{ChangeBy}
use Rattle.session_names.specs.Code.Rows.{Finds}
use Rattle.session_remove.specs.Code.Remove.{remove_change, remove_call, removed_kind}

remove-removes : (dir : Bool) (t : Told) (i : Issuer) (d : ℕ) (name : List ℕ) → issues t (remove_call dir i d name) ≡ removes t.view d name
remove-removes true t i d name = refl
remove-removes false t i d name = refl

pub remove-issues : (dir : Bool) (t : Told) (i : Issuer) (d : ℕ) (name : List ℕ) (o : ℕ) → search t.view d name ≡ Some o → issues t (remove_call dir i d name) ≡ Operation.remove o d name ∷ []
remove-issues dir t i d name o e = remove-removes dir t i d name ∙ ap (λ (w : Option ℕ). on_found w (λ i. Operation.remove i d name)) e

module _ (n b m : ℕ) (i : Issuer) (s v l : List ℕ) (h : Admitted n b m s v l) where
  pub remove-change : (dir : Bool) (d : ℕ) (name : List ℕ) (own : Result ℕ Refusal) → Finds (read_volume n b v) d name (remove_rows (removed_kind dir) (read_volume n b v) d name) own
      → ChangeBy n b m i s v l (remove_change dir d name) (number_of own) 1
  unfolding answer_of
  remove-change true d name own f =
      let many : number_of own ≡ 0 → length (issues (told_of (model_in n b m s v l)) (remove_call true i d name)) ≡ 1 =
      λ z. let o = value-there own z in ap length (remove-issues true (told_of (model_in n b m s v l)) i d name o.0 (f.found o.0 o.1)) in
      record { held = h; rise = refl; number = f.number; many = many }
  remove-change false d name own f =
      let many : number_of own ≡ 0 → length (issues (told_of (model_in n b m s v l)) (remove_call false i d name)) ≡ 1 =
      λ z. let o = value-there own z in ap length (remove-issues false (told_of (model_in n b m s v l)) i d name o.0 (f.found o.0 o.1)) in
      record { held = h; rise = refl; number = f.number; many = many }

  pub remove-issuing : (dir : Bool) (d : ℕ) (name : List ℕ) (o : ℕ) → search (read_volume n b v) d name ≡ Some o
      → (answer_of (geometry n b m) (remove_call dir i d name) (model_in n b m s v l)).returned ≡ 0
      → Issuing (geometry n b m) (model_in n b m s v l) i.program (Operation.remove o d name ∷ [])
  unfolding answer_of
  remove-issuing dir d name o is e =
      let a = remove-accepted (geometry n b m) (model_in n b m s v l) h.holds.sound (removed_kind dir) i.program d name (remove_call dir i d name) (remove-removes dir (told_of (model_in n b m s v l)) i d name) (by dir e) in
      let other = a.1 in
      let same : a.0 ≡ o = cc in
      subst (λ (w : ℕ). Issuing (geometry n b m) (model_in n b m s v l) i.program (Operation.remove w d name ∷ [])) same a.2
    where
      by : (c : Bool) → (answer_of (geometry n b m) (remove_call c i d name) (model_in n b m s v l)).returned ≡ 0
          → (changed (geometry n b m) (remove_call c i d name) i.program (remove_rows (removed_kind c) (read_volume n b v) d name) (model_in n b m s v l)).returned ≡ 0
      by true r = r
      by false r = r

-- The record that is written is that of this operation.
pub remove-record : (q p o d : ℕ) (name : List ℕ) → entry_record Remove q p o d name ≡ record_of q p (Operation.remove o d name)
unfolding entry_record
remove-record q p o d name = refl
