-- Document 01, "Loss record": the codes of the kinds and their maps. The numbers stand here and nowhere else in the
-- definitions.
use Rattle.std.specs.Prelude.{ℕ, Bool, ◌||◌, cond, eqb, Option, None, Some}
use Rattle.record.specs.declared.kind.Kind.{Kind}
use Rattle.record.specs.declared.kind.Kind.TheVariants.{CreateFile, MakeDirectory, Remove, Rename, Overwrite, Append, SetLength, Forder}

-- "1 create file, 2 make directory, 3 remove .. 4 rename .. 5 overwrite, 6 append .. 7 set length .. 8 forder"
abbrev pub code_of : Kind → ℕ
code_of CreateFile = 1
code_of MakeDirectory = 2
code_of Remove = 3
code_of Rename = 4
code_of Overwrite = 5
code_of Append = 6
code_of SetLength = 7
code_of Forder = 8

-- "1 .., 2 .., 3 remove: 19. 4 rename: 55 .. 5 overwrite, 6 append: 193. 7 set length: 65 .. 8 forder: 256."
abbrev pub map_of_kind : Kind → ℕ
map_of_kind CreateFile = 19
map_of_kind MakeDirectory = 19
map_of_kind Remove = 19
map_of_kind Rename = 55
map_of_kind Overwrite = 193
map_of_kind Append = 193
map_of_kind SetLength = 65
map_of_kind Forder = 256

-- "4 rename: 55, or 63 with a displaced object"
abbrev pub displacing_map_of : Kind → ℕ
displacing_map_of CreateFile = map_of_kind CreateFile
displacing_map_of MakeDirectory = map_of_kind MakeDirectory
displacing_map_of Remove = map_of_kind Remove
displacing_map_of Rename = 63
displacing_map_of Overwrite = map_of_kind Overwrite
displacing_map_of Append = map_of_kind Append
displacing_map_of SetLength = map_of_kind SetLength
displacing_map_of Forder = map_of_kind Forder

-- "Valid: the map of its kind"
unfoldable pub has_map : Kind → ℕ → Bool
has_map k m = eqb m (map_of_kind k) || eqb m (displacing_map_of k)

-- the kind whose code a number is, sought among all kinds in the order of their codes
abbrev pub code_is : ℕ → Kind → Option Kind → Option Kind
code_is c k other = cond (eqb c (code_of k)) (Some k) other

unfoldable pub kind_of_code : ℕ → Option Kind
kind_of_code c =
    code_is c CreateFile (code_is c MakeDirectory (code_is c Remove (code_is c Rename
    (code_is c Overwrite (code_is c Append (code_is c SetLength (code_is c Forder None)))))))
