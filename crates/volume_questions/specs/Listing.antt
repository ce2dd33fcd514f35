-- Document 01, "Calls": what list writes.
use Rattle.std.specs.Prelude.{ℕ, zero, suc, List, [], ◌++◌, cond, length}
use Rattle.buffer.specs.Numeral.{bytes}
use Rattle.volume_entry.specs.Entry.{Entry, kind_number, name_of}
use Rattle.volume_tree.specs.Volume.{Volume, entry_at, is_child}

-- "per child number 2, kind 1, name length 1, name; rising numbers"
abbrev pub listed : ℕ → Entry → List ℕ
listed i e = bytes 2 i ++ (bytes 1 (kind_number e) ++ (bytes 1 (length (name_of e)) ++ name_of e))

-- what is listed of an entry: nothing, if it is no child
abbrev pub listed_at : Volume → ℕ → ℕ → List ℕ
listed_at v d i = cond (is_child v d i) (listed i (entry_at v i)) []

unfoldable pub listing : Volume → ℕ → ℕ → List ℕ
listing v d zero = []
listing v d (suc k) = listing v d k ++ listed_at v d k
