-- Document 01, "Loss record": the nine fields of a record in the order of their bits, the record's bytes, and what makes
-- a record valid.
use Rattle.std.specs.Prelude.{ℕ, ◌+◌, ◌*◌, ◌/◌, ◌%◌, List, [], ◌∷◌, ◌++◌, Bool, true, false, not, ◌&&◌, ◌||◌, length, leb, ltb, eqb}
use Rattle.std.specs.Prelude.{Option, None, Some}
use Rattle.buffer.specs.Geometry.{block_bytes}
use Rattle.names.specs.Name.{valid_name}
use Rattle.buffer.specs.Numeral.{bytes}
use Rattle.record.specs.declared.kind.Kind.{Kind}
use Rattle.record.specs.declared.kind.Kind.TheVariants.{CreateFile, MakeDirectory, Remove, Rename, Overwrite, Append, SetLength, Forder}
use Rattle.record.specs.Kind.{code_of}
use Rattle.record.specs.Operation.{Operation, create_file, make_directory, remove, rename, overwrite, append, set_length, forder, Record, kind_of, map_of, operands}

-- "0 object (2), 1 parent (2), 2 second parent (2), 3 displaced object (2), 4 name .., 5 second name .., 6 offset (4),
-- 7 data .., 8 list": each field that an operation lacks is 0 or empty
pub record Parts : Type 0 where
  pub object : ℕ
  pub parent : ℕ
  pub second : ℕ
  pub displaced : ℕ
  pub name : List ℕ
  pub second_name : List ℕ
  pub offset : ℕ
  pub block : List ℕ
  pub list : List ℕ

abbrev pub parted : ℕ → ℕ → ℕ → ℕ → List ℕ → List ℕ → ℕ → List ℕ → List ℕ → Parts
parted o p q d n m f b l = record { object = o; parent = p; second = q; displaced = d; name = n; second_name = m; offset = f; block = b; list = l }

abbrev pub displaced_or0 : Option ℕ → ℕ
displaced_or0 None = 0
displaced_or0 (Some d) = d

abbrev pub parts : Operation → Parts
parts (create_file o p n) = parted o p 0 0 n [] 0 [] []
parts (make_directory o p n) = parted o p 0 0 n [] 0 [] []
parts (remove o p n) = parted o p 0 0 n [] 0 [] []
parts (rename o p q d n m) = parted o p q (displaced_or0 d) n m 0 [] []
parts (overwrite o f b) = parted o 0 0 0 [] [] f b []
parts (append o f b) = parted o 0 0 0 [] [] f b []
-- "7 set length: 65, offset being the new length"
parts (set_length o f) = parted o 0 0 0 [] [] f [] []
parts (forder l) = parted 0 0 0 0 [] [] 0 [] l

-- whether the bit of a weight (1, 2, 4, ..) stands in a map
abbrev pub stands_in : ℕ → ℕ → Bool
stands_in map weight = eqb (map / weight % 2) 1

-- a number where its bit stands, else 0
abbrev pub number_if : Bool → ℕ → ℕ
number_if true v = v
number_if false v = 0

-- a field's bytes where its bit stands, else none
abbrev pub field : Bool → List ℕ → List ℕ
field true s = s
field false s = []

-- "length 1, bytes"
abbrev pub text : List ℕ → List ℕ
text n = bytes 1 (length n) ++ n

-- objects of 2 bytes each
unfoldable pub pairs : List ℕ → List ℕ
pairs [] = []
pairs (o ∷ l) = bytes 2 o ++ pairs l

-- the objects that a list of 2 bytes each holds
unfoldable pub objects_of : List ℕ → List ℕ
objects_of [] = []
objects_of (a ∷ []) = []
objects_of (a ∷ b ∷ s) = (a + 256 * b) ∷ objects_of s

-- fields 0 to 3
unfoldable pub object_fields : ℕ → Parts → List ℕ
object_fields m x =
    field (stands_in m 1) (bytes 2 x.object) ++ (field (stands_in m 2) (bytes 2 x.parent)
    ++ (field (stands_in m 4) (bytes 2 x.second) ++ field (stands_in m 8) (bytes 2 x.displaced)))

-- fields 4 and 5
unfoldable pub name_fields : ℕ → Parts → List ℕ
name_fields m x = field (stands_in m 16) (text x.name) ++ field (stands_in m 32) (text x.second_name)

-- fields 6 to 8: "offset (4), 7 data (length 2, bytes), 8 list (count 1, objects 2 each)"
unfoldable pub range_fields : ℕ → Parts → List ℕ
range_fields m x =
    field (stands_in m 64) (bytes 4 x.offset) ++ (field (stands_in m 128) (bytes 2 (length x.block) ++ x.block)
    ++ field (stands_in m 256) (bytes 1 (length x.list) ++ pairs x.list))

-- "then only the fields whose bit stands, in bit order"
unfoldable pub fields : ℕ → Parts → List ℕ
fields m x = object_fields m x ++ (name_fields m x ++ range_fields m x)

-- "A bit map of 2 bytes, sequence (4), program (1), kind (1)"
unfoldable pub head_bytes : ℕ → ℕ → ℕ → ℕ → List ℕ
head_bytes map sequence program code = bytes 2 map ++ (bytes 4 sequence ++ (bytes 1 program ++ bytes 1 code))

unfoldable pub encode : Record → List ℕ
encode r =
    head_bytes (map_of r.operation) r.sequence r.program (code_of (kind_of r.operation))
    ++ fields (map_of r.operation) (parts r.operation)

-- the displaced object, if its bit stands
abbrev pub displaced_if : Bool → ℕ → Option ℕ
displaced_if true d = Some d
displaced_if false d = None

-- the operation of a kind with its fields taken from the nine
abbrev pub operation_of : Kind → ℕ → Parts → Operation
operation_of CreateFile m x = create_file x.object x.parent x.name
operation_of MakeDirectory m x = make_directory x.object x.parent x.name
operation_of Remove m x = remove x.object x.parent x.name
operation_of Rename m x = rename x.object x.parent x.second (displaced_if (stands_in m 8) x.displaced) x.name x.second_name
operation_of Overwrite m x = overwrite x.object x.offset x.block
operation_of Append m x = append x.object x.offset x.block
operation_of SetLength m x = set_length x.object x.offset
operation_of Forder m x = forder x.list

-- a condition on a field, asked only where its bit stands
abbrev pub if_stands : Bool → Bool → Bool
if_stands true t = t
if_stands false t = true

abbrev pub between : ℕ → ℕ → ℕ → Bool
between lo hi v = leb lo v && leb v hi

unfoldable pub member : ℕ → List ℕ → Bool
member o [] = false
member o (x ∷ l) = eqb o x || member o l

unfoldable pub different : List ℕ → Bool
different [] = true
different (o ∷ l) = not (member o l) && different l

-- each at most a number
unfoldable pub all_up_to : ℕ → List ℕ → Bool
all_up_to hi [] = true
all_up_to hi (o ∷ l) = leb o hi && all_up_to hi l

-- "list of 1..8 different objects", each 0..255
unfoldable pub valid_list : List ℕ → Bool
valid_list l = between 1 8 (length l) && (all_up_to 255 l && different l)

-- "object and displaced 1..255 and different; parents .. 0..255"
unfoldable pub valid_objects : ℕ → Parts → Bool
valid_objects m x =
    if_stands (stands_in m 1) (between 1 255 x.object) && (if_stands (stands_in m 2) (between 0 255 x.parent)
    && (if_stands (stands_in m 4) (between 0 255 x.second) && if_stands (stands_in m 8) (between 1 255 x.displaced)))

-- "names as below"
unfoldable pub valid_names : ℕ → Parts → Bool
valid_names m x = if_stands (stands_in m 16) (valid_name x.name) && if_stands (stands_in m 32) (valid_name x.second_name)

-- "list of 1..8 different objects; data 1..1,024 bytes"
unfoldable pub valid_range : ℕ → Parts → Bool
valid_range m x = if_stands (stands_in m 128) (between 1 block_bytes (length x.block)) && if_stands (stands_in m 256) (valid_list x.list)

-- "object and displaced .. different"
unfoldable pub differing : ℕ → ℕ → ℕ → Bool
differing m object displaced = if_stands (stands_in m 8) (not (eqb object displaced))

-- "data .. in one block; offset plus data, or new length, at most 65,536"
unfoldable pub in_block : ℕ → ℕ → ℕ → Bool
in_block m offset n = if_stands (stands_in m 64) (leb (offset % block_bytes + n) block_bytes && leb (offset + n) 65536)

-- what ties two fields; where there is no data, the offset is the new length
unfoldable pub tied : ℕ → Parts → Bool
tied m x = differing m x.object x.displaced && in_block m x.offset (length (field (stands_in m 128) x.block))

unfoldable pub valid_parts : ℕ → Parts → Bool
valid_parts m x = valid_objects m x && (valid_names m x && (valid_range m x && tied m x))

-- "sequence 1..4,294,967,294; program 0..31"
unfoldable pub valid_head : ℕ → ℕ → Bool
valid_head sequence program = between 1 4294967294 sequence && between 0 31 program

unfoldable pub valid : Record → Bool
valid r = valid_head r.sequence r.program && valid_parts (map_of r.operation) (parts r.operation)

-- "Records fit n and b": every operand below n; offset plus data, and a new length, at most 1,024 × b
unfoldable pub all_below : ℕ → List ℕ → Bool
all_below n [] = true
all_below n (o ∷ l) = ltb o n && all_below n l

-- the data end, and a new length lies, within b blocks
unfoldable pub within_blocks : ℕ → ℕ → ℕ → Bool
within_blocks b offset len = leb (offset + len) (block_bytes * b)

unfoldable pub fits : ℕ → ℕ → Record → Bool
fits n b r =
    all_below n (operands r.operation)
    && leb ((parts r.operation).offset + length (parts r.operation).block) (block_bytes * b)
