-- Document 01, "Geometry and stored form": a well-formed volume.
use Rattle.std.specs.Prelude.{ℕ, zero, suc, ◌*◌, Bool, not, ◌&&◌, ◌||◌, length, leb, eqb}
use Rattle.buffer.specs.Geometry.{block_bytes}
use Rattle.names.specs.Name.{valid_name, same_name}
use Rattle.volume_entry.specs.Entry.{Entry, root, is_directory, has_name, name_of, parent_of, contents_of}
use Rattle.volume_entry.specs.Stored.{same_entry}
use Rattle.volume_tree.specs.Volume.{Volume, entry_at, every, is_child}

-- entry 0 is reached from an entry in so many steps from child to parent
unfoldable pub climbs : ℕ → Volume → ℕ → Bool
climbs zero v i = eqb i 0
climbs (suc k) v i = eqb i 0 || climbs k v (parent_of (entry_at v i))

-- "Entry 0 is the root: a directory, empty name, parent 0."
abbrev pub is_root : Entry → Bool
is_root e = same_entry e root

-- "Every other used entry has a valid name and a used directory as parent, the parents lead to 0"
abbrev pub in_tree : Volume → ℕ → Entry → Bool
in_tree v i e = valid_name (name_of e) && (is_directory (entry_at v (parent_of e)) && climbs (length v) v i)

-- an entry other than the root: a length of at most 1,024 × b, and where it has a name, its place among the others
unfoldable pub placed : ℕ → Volume → ℕ → Entry → Bool
placed b v i e = leb (length (contents_of e)) (block_bytes * b) && (not (has_name e) || in_tree v i e)

-- two entries that share parent and name
abbrev pub twins : Volume → ℕ → ℕ → Bool
twins v i j =
    (is_child v (parent_of (entry_at v i)) i && is_child v (parent_of (entry_at v i)) j)
    && same_name (name_of (entry_at v i)) (name_of (entry_at v j))

-- "no two share parent and name"
unfoldable pub apart : Volume → Bool
apart v = every (length v) (λ i. every (length v) (λ j. eqb i j || not (twins v i j)))

unfoldable pub well_formed : ℕ → ℕ → Volume → Bool
well_formed n b v =
    eqb (length v) n
    && (is_root (entry_at v 0) && (every (length v) (λ i. eqb i 0 || placed b v i (entry_at v i)) && apart v))
