-- Document 01, "Geometry and stored form": an entry of a volume. "kind (1 byte: 0 free, 1 file, 2 directory), name length
-- (1), parent (2), name (60), file length (4), then data".
use Rattle.std.specs.Prelude.{ℕ, ◌+◌, ◌/◌, List, [], Bool, true, false}

pub data Entry : Type 0 where
  free : Entry
  -- name, parent, contents
  file : List ℕ → ℕ → List ℕ → Entry
  -- name, parent
  directory : List ℕ → ℕ → Entry

-- "Entry 0 is the root: a directory, empty name, parent 0."
abbrev pub root : Entry
root = directory [] 0

-- "0 free, 1 file, 2 directory"
abbrev pub kind_number : Entry → ℕ
kind_number free = 0
kind_number (file n p c) = 1
kind_number (directory n p) = 2

-- "Bytes not in use are zero": what a field of an entry without it holds
abbrev pub name_of : Entry → List ℕ
name_of free = []
name_of (file n p c) = n
name_of (directory n p) = n

abbrev pub parent_of : Entry → ℕ
parent_of free = 0
parent_of (file n p c) = p
parent_of (directory n p) = p

-- "Directories have length 0."
abbrev pub contents_of : Entry → List ℕ
contents_of free = []
contents_of (file n p c) = c
contents_of (directory n p) = []

abbrev pub is_used : Entry → Bool
is_used free = false
is_used (file n p c) = true
is_used (directory n p) = true

abbrev pub is_file : Entry → Bool
is_file free = false
is_file (file n p c) = true
is_file (directory n p) = false

abbrev pub is_directory : Entry → Bool
is_directory free = false
is_directory (file n p c) = false
is_directory (directory n p) = true

-- whether an entry has a name to be found by: "Every other used entry has a valid name"; entry 0 is asked apart
abbrev pub has_name : Entry → Bool
has_name free = false
has_name (file n p c) = true
has_name (directory n p) = true

-- the entry under another name and parent
abbrev pub renamed : Entry → List ℕ → ℕ → Entry
renamed free n p = free
renamed (file m q c) n p = file n p c
renamed (directory m q) n p = directory n p

-- the file with other contents
abbrev pub refilled : Entry → List ℕ → Entry
refilled free c = free
refilled (file n p b) c = file n p c
refilled (directory n p) c = directory n p

-- "Usage is length / 1,024 to the nearest whole number, half upwards."
unfoldable pub usage : ℕ → ℕ
usage len = (len + 512) / 1024
