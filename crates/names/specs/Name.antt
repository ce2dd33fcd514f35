-- Document 01, "Names and paths", and document 02, K2: what a name is, and when two texts are the same name.
use Rattle.std.specs.Prelude.{ℕ, ◌+◌, List, [], ◌∷◌, Bool, true, false, not, ◌&&◌, ◌||◌, cond, length, get_or, leb, eqb, Result, Ok, Err}
use Rattle.returned.specs.Returned
use Rattle.names.specs.declared.NameError.{NameError}
use Rattle.names.specs.declared.NameError.TheVariants.{Bad, Long}

-- "none 0 or 47 (slash)"
unfoldable pub permitted_byte : ℕ → Bool
permitted_byte v = not (eqb v 0) && not (eqb v 47)

unfoldable pub all_permitted : List ℕ → Bool
all_permitted [] = true
all_permitted (b ∷ bs) = permitted_byte b && all_permitted bs

-- "neither "." nor "..""
unfoldable pub is_dots : List ℕ → Bool
is_dots s =
    (eqb (length s) 1 && eqb (get_or s 0 0) 46)
    || (eqb (length s) 2 && (eqb (get_or s 0 0) 46 && eqb (get_or s 1 0) 46))

-- "A name has 1..60 bytes"
abbrev pub longest_name : ℕ
longest_name = 60

-- the text is a name's, whatever its length over 60
unfoldable pub good_text : List ℕ → Bool
good_text s = leb 1 (length s) && (not (is_dots s) && all_permitted s)

-- "A name has 1..60 bytes, none 0 or 47 (slash), and is neither "." nor "..""
unfoldable pub valid_name : List ℕ → Bool
valid_name s = good_text s && leb (length s) longest_name

-- "5 Bad name: name or path text, other than length over 60"; "6 Long name: over 60 bytes"; the lower number wins
unfoldable pub name_text_of : List ℕ → Result (Unit {0}) NameError
name_text_of s = cond (good_text s) (cond (leb (length s) longest_name) (Ok tt) (Err Long)) (Err Bad)

-- the returned number of each error, and of each answer
abbrev pub error_number : NameError → ℕ
error_number Bad = Returned.bad_name
error_number Long = Returned.long_name

abbrev pub name_number : Result (Unit {0}) NameError → ℕ
name_number (Ok x) = Returned.accepted
name_number (Err e) = error_number e

-- document 02, K2, "Letter case in names": "A to Z against a to z"; no other byte changes
unfoldable pub lower_case : ℕ → ℕ
lower_case v = cond (leb 65 v && leb v 90) (v + 32) v

-- "Names that differ only in A to Z against a to z are now the same name": byte for byte, to the end of both
unfoldable pub same_name : List ℕ → List ℕ → Bool
same_name [] [] = true
same_name [] (b ∷ t) = false
same_name (a ∷ s) [] = false
same_name (a ∷ s) (b ∷ t) = eqb (lower_case a) (lower_case b) && same_name s t
