-- Document 01, "Geometry and stored form": a volume is its entries; children, and the search of a name in a directory.
use Rattle.std.specs.Prelude.{ℕ, zero, suc, List, [], ◌∷◌, Bool, true, not, ◌&&◌, cond, length, get_or, replicate, eqb}
use Rattle.std.specs.Prelude.{Option, None, Some}
use Rattle.names.specs.Name.{same_name}
use Rattle.volume_entry.specs.Entry.{Entry, free, root, has_name, name_of, parent_of}

abbrev pub Volume : Type 0
Volume = List Entry

-- the entry of an object's number; past the end, as a free one
abbrev pub entry_at : Volume → ℕ → Entry
entry_at v i = get_or v i free

-- every number below a bound passes a test
unfoldable pub every : ℕ → (ℕ → Bool) → Bool
every zero f = true
every (suc k) f = every k f && f k

-- the lowest number below a bound that passes a test
unfoldable pub lowest : ℕ → (ℕ → Bool) → Option ℕ
lowest zero f = None
lowest (suc k) f = after (lowest k f)
  where
    after : Option ℕ → Option ℕ
    after (Some i) = Some i
    after None = cond (f k) (Some k) None

-- what has a name is a child of its parent: "Entry 0 is nobody's child."
abbrev pub is_child : Volume → ℕ → ℕ → Bool
is_child v d i = not (eqb i 0) && (has_name (entry_at v i) && eqb (parent_of (entry_at v i)) d)

-- the child of a directory with a name
abbrev pub is_named : Volume → ℕ → List ℕ → ℕ → Bool
is_named v d n i = is_child v d i && same_name (name_of (entry_at v i)) n

-- the object that a name leads to in a directory
unfoldable pub search : Volume → ℕ → List ℕ → Option ℕ
search v d n = lowest (length v) (is_named v d n)

unfoldable pub has_children : Volume → ℕ → Bool
has_children v d = not (every (length v) (λ i. not (is_child v d i)))

-- "Format makes a server volume with only a root."
unfoldable pub formatted : ℕ → Volume
formatted zero = []
formatted (suc n) = root ∷ replicate n free
