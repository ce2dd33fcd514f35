-- Create and make directory, by whether it is a directory that is made: the call, and the kind of its operation.
use Rattle.std.specs.Prelude.{ℕ, List, Bool, true, false}
use Rattle.record.specs.declared.kind.Kind.{Kind}
use Rattle.record.specs.declared.kind.Kind.TheVariants.{CreateFile, MakeDirectory}
use Rattle.session.specs.Class.{Change, create_file, make_directory}
use Rattle.session.specs.Call.{Issuer, Call, change}

abbrev pub make_change : Bool → ℕ → List ℕ → ℕ → Change
make_change true d n o = make_directory d n o
make_change false d n o = create_file d n o

abbrev pub make_call : Bool → Issuer → ℕ → List ℕ → ℕ → Call
make_call dir i d n o = change i (make_change dir d n o)

abbrev pub make_kind : Bool → Kind
make_kind true = MakeDirectory
make_kind false = CreateFile
