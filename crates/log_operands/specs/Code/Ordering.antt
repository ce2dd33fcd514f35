-- What is told of an operation: its operands and, of an overwrite, where it writes.
use Rattle.std.specs.Prelude.{ℕ, ◌+◌, ◌≤◌, ◌<◌, ◌≡◌, List, [], ◌∷◌, ◌++◌, Bool, true, false, length, get_or, take}
use Rattle.std.specs.Prelude.{Option, None, Some}
use Rattle.log_operands.specs.declared.Order.{Order}
use Rattle.record_reader.specs.declared.Objects.{Objects}
use Rattle.buffer.specs.Code.Span.{stretch}
use Rattle.record.specs.Operation.{Operation, Record, operands, Stretch, overwrite_of}
use Rattle.record.specs.Fields.{encode, valid, objects_of}

-- what is told of an overwrite's stretch; of any other operation that there is none
abbrev pub Stretched : Option Stretch → Bool → ℕ → ℕ → Type 0
Stretched None w f n = w ≡ false
Stretched (Some t) w f n = (w ≡ true) × (f ≡ t.offset) × (n ≡ length t.content)

-- fields 0 to 3
abbrev pub fields_of : Objects → List ℕ
fields_of f = f.object ∷ f.parent ∷ f.second ∷ f.displaced ∷ []

-- those of them that are operands
abbrev pub fields_in : Order → List ℕ
fields_in o = take o.count (fields_of o.objects)

-- the operands that are told: those fields, and the objects of the part of the record that lists some
abbrev pub operands_in : List ℕ → Order → List ℕ
operands_in s o = fields_in o ++ objects_of (stretch s o.listed)

-- what is told of an operation whose record a slice begins with
pub record Ordering (s : List ℕ) (p : Operation) (o : Order) : Type 0 where
  pub objects : operands_in s o ≡ operands p
  pub stretch : Stretched (overwrite_of p) o.overwrite o.offset o.len

-- each number of a list is below 256
abbrev pub Small : List ℕ → Type 0
Small l = (i : ℕ) → get_or l i 0 < 256

-- limits that hold of whatever is told, so that it may be used with no further test
pub record Sized (s : List ℕ) (o : Order) : Type 0 where
  pub few : o.count ≤ 4
  pub small : Small (fields_of o.objects)
  pub listed : Small (objects_of (stretch s o.listed))
  pub near : o.offset + o.len ≤ 8589934592

-- what stands in a slice is told: if it begins with the bytes of a valid record, that record's operation
abbrev pub Told : List ℕ → Order → Type 0
Told s o = (r : Record) (rest : List ℕ) → valid r ≡ true → s ≡ encode r ++ rest → Ordering s r.operation o
