-- The form of one entry as the tests that are run on its bytes, each field for itself; `Laws/Check` ties them to the entries that are
-- sound (document 01, "Geometry and stored form").
use Rattle.std.specs.Prelude.{ℕ, ◌+◌, ◌*◌, List, Bool, not, ◌&&◌, ◌||◌, length, get_or, take, drop, leb, eqb}
use Rattle.buffer.specs.Geometry.{block_bytes}
use Rattle.names.specs.Name.{longest_name, valid_name}
use Rattle.buffer.specs.Numeral.{numeral}
use Rattle.volume_entry.specs.Entry.{Entry, free, file, directory, root, kind_number, name_of, contents_of, has_name}
use Rattle.volume_entry.specs.Stored.{length_at, data_at, read_entry}
use Rattle.buffer.specs.Code.Zero.{zeros}

-- "a valid name" of at most 60 bytes, and zeros behind it up to the file length
unfoldable pub name_formed : List ℕ → Bool
name_formed s =
    leb (get_or s 1 0) longest_name
    && (valid_name (take (get_or s 1 0) (drop 4 s)) && zeros (drop (4 + get_or s 1 0) (take length_at s)))

-- the file length, "file length (4)" behind the name
abbrev pub length_field : List ℕ → ℕ
length_field s = numeral (take 4 (drop length_at s))

-- a file length of at most 1,024 × b, and zeros behind so many bytes of data
unfoldable pub data_formed : ℕ → List ℕ → Bool
data_formed b s = leb (length_field s) (block_bytes * b) && zeros (drop (data_at + length_field s) s)

-- "a free entry is all zero"; "Directories have length 0"
abbrev pub formed_as : ℕ → Entry → List ℕ → Bool
formed_as b free s = zeros s
formed_as b (file n p c) s = name_formed s && data_formed b s
formed_as b (directory n p) s = name_formed s && zeros (drop length_at s)

-- the first byte is the number of a kind, and the other bytes are as that kind has them
unfoldable pub entry_formed : ℕ → List ℕ → Bool
entry_formed b s = eqb (get_or s 0 0) (kind_number (read_entry s)) && formed_as b (read_entry s) s

-- the root: its kind, and zeros behind it
unfoldable pub root_formed : List ℕ → Bool
root_formed s = eqb (get_or s 0 0) (kind_number root) && zeros (drop 1 s)

-- what the form asks of an entry other than the root, whatever the other entries are
abbrev pub sound : ℕ → Entry → Bool
sound b e = leb (length (contents_of e)) (block_bytes * b) && (not (has_name e) || valid_name (name_of e))
