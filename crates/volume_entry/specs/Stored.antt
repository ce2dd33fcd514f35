-- Document 01, "Geometry and stored form": the bytes of an entry, and the entry of some bytes.
use Rattle.std.specs.Prelude.{ℕ, zero, suc, ◌+◌, ◌*◌, ◌-◌, List, [], ◌∷◌, ◌++◌, Bool, true, false, ◌&&◌, length, get_or, take, drop, replicate, eqb}
use Rattle.buffer.specs.Geometry.{block_bytes}
use Rattle.names.specs.Name.{longest_name}
use Rattle.buffer.specs.Numeral.{bytes, numeral}
use Rattle.volume_entry.specs.Entry.{Entry, free, file, directory, kind_number, name_of, parent_of, contents_of}

-- "Bytes not in use are zero": some bytes and zeros up to a width
abbrev pub padded : ℕ → List ℕ → List ℕ
padded w s = s ++ replicate (w - length s) 0

-- where the file length begins, behind "kind (1 byte ..), name length (1), parent (2), name (60)"
abbrev pub length_at : ℕ
length_at = 64

-- where the data begin, behind "file length (4)"
abbrev pub data_at : ℕ
data_at = 68

-- "n entries of 68 + 1,024 × b bytes"
abbrev pub entry_bytes : ℕ → ℕ
entry_bytes b = data_at + block_bytes * b

-- "kind (1 byte ..), name length (1), parent (2), name (60), file length (4), then data"
unfoldable pub encode_entry : ℕ → Entry → List ℕ
encode_entry b e =
    bytes 1 (kind_number e) ++ (bytes 1 (length (name_of e)) ++ (bytes 2 (parent_of e) ++ (padded longest_name (name_of e)
    ++ (bytes 4 (length (contents_of e)) ++ padded (block_bytes * b) (contents_of e)))))

-- the same bytes, to the end of both
unfoldable pub same_bytes : List ℕ → List ℕ → Bool
same_bytes [] [] = true
same_bytes [] (b ∷ t) = false
same_bytes (a ∷ s) [] = false
same_bytes (a ∷ s) (b ∷ t) = eqb a b && same_bytes s t

-- two entries are the same: kind, name, parent and contents
abbrev pub same_entry : Entry → Entry → Bool
same_entry d e =
    eqb (kind_number d) (kind_number e)
    && (same_bytes (name_of d) (name_of e) && (eqb (parent_of d) (parent_of e) && same_bytes (contents_of d) (contents_of e)))

-- what the fields of an entry's bytes say, whatever else stands in them; the kind is the one with that number, `kind_number`
abbrev pub entry_of : ℕ → List ℕ → ℕ → List ℕ → Entry
entry_of zero n p c = free
entry_of (suc zero) n p c = file n p c
entry_of (suc (suc k)) n p c = directory n p

unfoldable pub read_entry : List ℕ → Entry
read_entry s =
    entry_of (get_or s 0 0) (take (get_or s 1 0) (drop 4 s)) (numeral (take 2 (drop 2 s)))
    (take (numeral (take 4 (drop length_at s))) (drop data_at s))
