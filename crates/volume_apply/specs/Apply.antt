-- Document 01, "Returned numbers" (its last paragraph) and "Calls": when an operation applies to a volume, and what it leaves.
use Rattle.std.specs.Prelude.{ℕ, ◌+◌, List, [], ◌++◌, Bool, true, false, not, ◌&&◌, ◌||◌, length, set, leb, ltb, eqb}
use Rattle.std.specs.Prelude.{Option, None, Some}
use Rattle.buffer.specs.Patch.{patch}
use Rattle.record.specs.Operation.{Operation, create_file, make_directory, remove, rename, overwrite, append, set_length, forder}
use Rattle.volume_entry.specs.Entry.{free, file, directory, is_used, is_file, is_directory, contents_of, renamed, refilled, kind_number}
use Rattle.volume_entry.specs.Write.{resized}
use Rattle.volume_tree.specs.Volume.{Volume, entry_at, search, has_children}

abbrev pub is_absent : Option ℕ → Bool
is_absent None = true
is_absent (Some i) = false

abbrev pub is_at : ℕ → Option ℕ → Bool
is_at o None = false
is_at o (Some i) = eqb i o

-- "names lead to the recorded objects": a name is sought only in a directory
abbrev pub leads : Volume → ℕ → List ℕ → ℕ → Bool
leads v d n o = is_directory (entry_at v d) && is_at o (search v d n)

-- a new entry: the parent a used directory, the name absent, the number free
abbrev pub has_room : Volume → ℕ → ℕ → List ℕ → Bool
has_room v o p n =
    is_directory (entry_at v p) && (is_absent (search v p n) && (ltb o (length v) && not (is_used (entry_at v o))))

-- "A directory stays in its parent."
abbrev pub stays : Volume → ℕ → ℕ → ℕ → Bool
stays v o p q = not (is_directory (entry_at v o)) || eqb p q

-- "a file by a file or an empty directory by a directory"
abbrev pub displaceable : Volume → ℕ → ℕ → Bool
displaceable v o d = eqb (kind_number (entry_at v d)) (kind_number (entry_at v o)) && not (has_children v d)

-- "a rename with map 55 needs its second name absent or leading to the object"; with map 63 the second name leads to the
-- displaced object
abbrev pub yields : Volume → ℕ → ℕ → Option ℕ → List ℕ → Bool
yields v o q None m = is_absent (search v q m) || is_at o (search v q m)
yields v o q (Some d) m = is_at d (search v q m) && displaceable v o d

-- a removed object is named and without children
abbrev pub removable : Volume → ℕ → ℕ → List ℕ → Bool
removable v o p n = leads v p n o && not (has_children v o)

abbrev pub renamable : Volume → ℕ → ℕ → ℕ → Option ℕ → List ℕ → List ℕ → Bool
renamable v o p q d n m = leads v p n o && (is_directory (entry_at v q) && (stays v o p q && yields v o q d m))

-- a write over bytes of a file, and one at its end
abbrev pub overwritable : Volume → ℕ → ℕ → ℕ → Bool
overwritable v o f k = is_file (entry_at v o) && leb (f + k) (length (contents_of (entry_at v o)))

abbrev pub appendable : Volume → ℕ → ℕ → Bool
appendable v o f = is_file (entry_at v o) && eqb f (length (contents_of (entry_at v o)))

-- "An operation applies if its own conditions hold there and names lead to the recorded objects; an append must begin at
-- the length .. Forder always applies."
unfoldable pub applies : Volume → Operation → Bool
applies v (create_file o p n) = has_room v o p n
applies v (make_directory o p n) = has_room v o p n
applies v (remove o p n) = removable v o p n
applies v (rename o p q d n m) = renamable v o p q d n m
applies v (overwrite o f c) = overwritable v o f (length c)
applies v (append o f c) = appendable v o f
applies v (set_length o f) = is_file (entry_at v o)
applies v (forder l) = true

-- a displaced object is gone
abbrev pub without_displaced : Volume → Option ℕ → Volume
without_displaced v None = v
without_displaced v (Some d) = set v d free

-- what an operation leaves of a volume
unfoldable pub apply : Volume → Operation → Volume
apply v (create_file o p n) = set v o (file n p [])
apply v (make_directory o p n) = set v o (directory n p)
apply v (remove o p n) = set v o free
apply v (rename o p q d n m) = set (without_displaced v d) o (renamed (entry_at v o) m q)
apply v (overwrite o f c) = set v o (refilled (entry_at v o) (patch (contents_of (entry_at v o)) f c))
apply v (append o f c) = set v o (refilled (entry_at v o) (contents_of (entry_at v o) ++ c))
apply v (set_length o f) = set v o (refilled (entry_at v o) (resized (contents_of (entry_at v o)) f))
apply v (forder l) = v
