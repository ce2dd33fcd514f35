-- What the code is given as a volume, and the parts of it that it lends on.
use Rattle.std.specs.Prelude.{ℕ, ◌*◌, ◌≤◌, ◌≡◌, List, true, length, set, take, drop}
use Rattle.volume_entry.specs.Entry.{Entry}
use Rattle.volume_entry.specs.Stored.{entry_bytes, read_entry}
use Rattle.volume_tree.specs.Volume.{entry_at}
use Rattle.volume_tree.specs.Form.{well_formed}
use Rattle.volume_tree.specs.Stored.{volume_bytes, encode_volume, read_volume}

-- `lent` with no test in it
pub record Lent (n b : ℕ) (s : List ℕ) : Type 0 where
  pub fewest : 2 ≤ n
  pub most : n ≤ 256
  pub least : 1 ≤ b
  pub blocks : b ≤ 64
  pub whole : length s ≡ volume_bytes n b

-- the bytes of the entry of an object's number
abbrev pub entry_part : ℕ → List ℕ → ℕ → List ℕ
entry_part b s i = take (entry_bytes b) (drop (i * entry_bytes b) s)

-- a part of the bytes is the entry of an object's number: it has an entry's length and tells of that entry
pub record IsEntry (n b : ℕ) (s : List ℕ) (i : ℕ) (e : List ℕ) : Type 0 where
  pub part : e ≡ entry_part b s i
  pub size : length e ≡ entry_bytes b
  pub tells : read_entry e ≡ entry_at (read_volume n b s) i

-- `formed` with no test in it: the volume that the bytes tell of is well formed, and they are its bytes
pub record Formed (n b : ℕ) (s : List ℕ) : Type 0 where
  pub lent : Lent n b s
  pub form : well_formed n b (read_volume n b s) ≡ true
  pub stored : encode_volume b (read_volume n b s) ≡ s

-- the entry of an object's number in a volume's bytes
abbrev pub entry_in : ℕ → ℕ → List ℕ → ℕ → Entry
entry_in n b s i = entry_at (read_volume n b s) i

-- the bytes of a volume with another entry in one place
abbrev pub with_entry : ℕ → ℕ → List ℕ → ℕ → Entry → List ℕ
with_entry n b s i e = encode_volume b (set (read_volume n b s) i e)
