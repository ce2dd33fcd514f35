-- Document 01, "Calls": the bytes of an entry after a change, as changes of some of its bytes.
use Rattle.std.specs.Prelude.{ℕ, ◌-◌, List, ◌++◌, length, take, replicate}
use Rattle.names.specs.Name.{longest_name}
use Rattle.buffer.specs.Numeral.{bytes}
use Rattle.volume_entry.specs.Stored.{padded}

-- the head of an entry: "kind (1 byte ..), name length (1), parent (2), name (60)"
unfoldable pub head_field : ℕ → ℕ → List ℕ → List ℕ
head_field kind parent name = bytes 1 kind ++ (bytes 1 (length name) ++ (bytes 2 parent ++ padded longest_name name))

-- "Set length zeroes what it cuts off or adds."
abbrev pub resized : List ℕ → ℕ → List ℕ
resized c f = take f c ++ replicate (f - length c) 0
