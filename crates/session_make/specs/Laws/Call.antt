-- Create and make directory as changes: their table, and the operation that each issues where it is accepted. Assumes nothing.
use Rattle.std.specs.Prelude.{ℕ, ◌≡◌, List, [], ◌∷◌, Bool}
use Rattle.std.proofs.Math.Path.{refl}
use Rattle.std.proofs.Common.{ap}
use Rattle.std.proofs.Math.Bool.{true, false}
use Rattle.record.specs.Operation.{Operation, record_of}
use Rattle.record.specs.declared.kind.Kind.{Kind}
use Rattle.record.specs.Kind.{map_of_kind}
use Rattle.volume_tree.specs.Stored.{read_volume}
use Rattle.record_writer.specs.Code.Writer.{entry_record}
use Rattle.session.specs.Told.{Told}
use Rattle.session.specs.Call.{Issuer, geometry}
use Rattle.session.specs.Issue.{issues}
use Rattle.session.specs.Edit.{make_rows}
use Rattle.session.specs.Step.{answer_of}
use Rattle.session.specs.Code.Table.{first_number}
use Rattle.session.proofs.Laws.Edit.{create-accepted, make-accepted}
use Rattle.session.proofs.Laws.Issuing.{Issuing}
use Rattle.session_admission.specs.Code.Admitted.{model_in, Admitted}
use Rattle.session_change.specs.Code.Change.{ChangeBy}
use Rattle.session_make.specs.Code.Make.{make_change, make_call, make_kind}

-- the operation of either call that makes an entry
abbrev pub make_operation : Bool → ℕ → ℕ → List ℕ → Operation
make_operation true o d n = Operation.make_directory o d n
make_operation false o d n = Operation.create_file o d n

pub make-issues : (dir : Bool) (t : Told) (i : Issuer) (d : ℕ) (name : List ℕ) (o : ℕ) → issues t (make_call dir i d name o) ≡ make_operation dir o d name ∷ []
make-issues true t i d name o = refl
make-issues false t i d name o = refl

module _ (n b m : ℕ) (i : Issuer) (s v l : List ℕ) (h : Admitted n b m s v l) where
  pub make-change : (dir : Bool) (d : ℕ) (name : List ℕ) (o own : ℕ) → own ≡ first_number (make_rows (read_volume n b v) d name o) → ChangeBy n b m i s v l (make_change dir d name o) own 1
  unfolding answer_of
  make-change true d name o own e =
      record { held = h; rise = refl; number = e; many = λ z. refl }
  make-change false d name o own e =
      record { held = h; rise = refl; number = e; many = λ z. refl }

  pub make-issuing : (dir : Bool) (d : ℕ) (name : List ℕ) (o : ℕ) → (answer_of (geometry n b m) (make_call dir i d name o) (model_in n b m s v l)).returned ≡ 0
      → Issuing (geometry n b m) (model_in n b m s v l) i.program (make_operation dir o d name ∷ [])
  unfolding answer_of
  make-issuing true d name o e = make-accepted (geometry n b m) (model_in n b m s v l) h.holds.sound i d name o e
  make-issuing false d name o e = create-accepted (geometry n b m) (model_in n b m s v l) h.holds.sound i d name o e

-- The record that is written is that of this operation.
pub make-record : (dir : Bool) (kind : Kind) → kind ≡ make_kind dir → (q p o d : ℕ) (name : List ℕ)
    → (map_of_kind kind ≡ 19) × (entry_record kind q p o d name ≡ record_of q p (make_operation dir o d name))
unfolding entry_record
make-record true kind e q p o d name = (ap map_of_kind e, ap (λ (k : Kind). entry_record k q p o d name) e)
make-record false kind e q p o d name = (ap map_of_kind e, ap (λ (k : Kind). entry_record k q p o d name) e)
