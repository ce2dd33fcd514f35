-- "no two share parent and name" as the tests that are run on a volume's bytes, one after the other.
use Rattle.std.specs.Prelude.{ℕ, ◌+◌, ◌*◌, ◌%◌, ◌≡◌, List, [], ◌∷◌, map, Bool, not, ◌||◌, length, get_or, leb}
use Rattle.volume_entry.specs.Entry.{parent_of, name_of}
use Rattle.volume_tree.specs.Volume.{Volume, entry_at, every}
use Rattle.volume_tree.specs.Form.{twins}

-- a list of every entry's parent
abbrev pub Gathered : Volume → List ℕ → Type 0
Gathered v l = (i : ℕ) → get_or l i 0 ≡ parent_of (entry_at v i)

-- a number for each name, and a list of those of every entry's name. Of a byte only its remainder by 32 counts, which is one for a letter's
-- two cases (document 02, K2)
unfoldable pub digest_from : ℕ → List ℕ → ℕ
digest_from m [] = m
digest_from m (x ∷ xs) = digest_from (m % 4294967296 * 31 + x) xs

abbrev pub digest : List ℕ → ℕ
digest s = digest_from 0 (map (λ v. v % 32) s)

abbrev pub Digested : Volume → List ℕ → Type 0
Digested v l = (i : ℕ) → get_or l i 0 ≡ digest (name_of (entry_at v i))

-- no entry behind an entry shares parent and name with it
unfoldable pub alone_from : Volume → ℕ → Bool
alone_from v i = every (length v) (λ j. leb j i || not (twins v i j))

unfoldable pub all_alone : Volume → Bool
all_alone v = every (length v) (alone_from v)
