-- Document 01, "Loss record" and "Order and dependence": an operation with just its fields, its record, its operands,
-- and where an overwrite writes.
use Rattle.std.specs.Prelude.{ℕ, List, [], ◌∷◌}
use Rattle.std.specs.Prelude.{Option, None, Some}
use Rattle.record.specs.declared.kind.Kind.{Kind}
use Rattle.record.specs.declared.kind.Kind.TheVariants.{CreateFile, MakeDirectory, Remove, Rename, Overwrite, Append, SetLength, Forder}
use Rattle.record.specs.Kind.{map_of_kind, displacing_map_of}

pub data Operation : Type 0 where
  -- object, parent, name
  create_file make_directory remove : ℕ → ℕ → List ℕ → Operation
  -- object, parent, second parent, displaced object if any, name, second name
  rename : ℕ → ℕ → ℕ → Option ℕ → List ℕ → List ℕ → Operation
  -- object, offset, data
  overwrite append : ℕ → ℕ → List ℕ → Operation
  -- object, new length
  set_length : ℕ → ℕ → Operation
  -- list of objects
  forder : List ℕ → Operation

-- what a slot of the log holds of an operation
pub record Record : Type 0 where
  pub sequence : ℕ
  pub program : ℕ
  pub operation : Operation

abbrev pub record_of : ℕ → ℕ → Operation → Record
record_of sequence program o = record { sequence = sequence; program = program; operation = o }

abbrev pub kind_of : Operation → Kind
kind_of (create_file o p n) = CreateFile
kind_of (make_directory o p n) = MakeDirectory
kind_of (remove o p n) = Remove
kind_of (rename o p q d n m) = Rename
kind_of (overwrite o f b) = Overwrite
kind_of (append o f b) = Append
kind_of (set_length o f) = SetLength
kind_of (forder l) = Forder

-- "4 rename: 55, or 63 with a displaced object"
abbrev pub map_with : Kind → Option ℕ → ℕ
map_with k None = map_of_kind k
map_with k (Some d) = displacing_map_of k

abbrev pub map_of : Operation → ℕ
map_of (create_file o p n) = map_of_kind CreateFile
map_of (make_directory o p n) = map_of_kind MakeDirectory
map_of (remove o p n) = map_of_kind Remove
map_of (rename o p q d n m) = map_with Rename d
map_of (overwrite o f b) = map_of_kind Overwrite
map_of (append o f b) = map_of_kind Append
map_of (set_length o f) = map_of_kind SetLength
map_of (forder l) = map_of_kind Forder

abbrev pub present : Option ℕ → List ℕ
present None = []
present (Some d) = d ∷ []

-- "Operands: the object and every parent, displaced or listed object."
unfoldable pub operands : Operation → List ℕ
operands (create_file o p n) = o ∷ p ∷ []
operands (make_directory o p n) = o ∷ p ∷ []
operands (remove o p n) = o ∷ p ∷ []
operands (rename o p q d n m) = o ∷ p ∷ q ∷ present d
operands (overwrite o f b) = o ∷ []
operands (append o f b) = o ∷ []
operands (set_length o f) = o ∷ []
operands (forder l) = l

-- what an overwrite writes and where, for "two overwrites with a common byte"; none of any other operation
pub record Stretch : Type 0 where
  pub offset : ℕ
  pub content : List ℕ

abbrev pub overwrite_of : Operation → Option Stretch
overwrite_of (create_file o p n) = None
overwrite_of (make_directory o p n) = None
overwrite_of (remove o p n) = None
overwrite_of (rename o p q d n m) = None
overwrite_of (overwrite o f b) = Some (record { offset = f; content = b })
overwrite_of (append o f b) = None
overwrite_of (set_length o f) = None
overwrite_of (forder l) = None
