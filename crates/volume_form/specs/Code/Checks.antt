-- Document 01, "Geometry and stored form": the form of a volume as the tests that are run on its bytes, one after the other.
use Rattle.std.specs.Prelude.{ℕ, zero, suc, ◌<◌, List, Bool, not, ◌&&◌, ◌||◌, length, get_or, eqb}
use Rattle.volume_entry.specs.Entry.{is_directory, has_name, parent_of}
use Rattle.volume_entry_form.specs.Code.Check.{entry_formed, root_formed}
use Rattle.volume_tree.specs.Volume.{Volume, entry_at, every}
use Rattle.volume_tree.specs.Code.Lent.{entry_part}

-- each entry by itself
unfoldable pub entries_formed : ℕ → ℕ → List ℕ → Bool
entries_formed n b s = root_formed (entry_part b s 0) && every n (λ i. eqb i 0 || entry_formed b (entry_part b s i))

-- "Every other used entry has .. a used directory as parent"
abbrev pub parented : Volume → ℕ → Bool
parented v i = eqb i 0 || (not (has_name (entry_at v i)) || is_directory (entry_at v (parent_of (entry_at v i))))

unfoldable pub parents_formed : Volume → Bool
parents_formed v = every (length v) (parented v)

-- a list of numbers below 256
abbrev pub Numbers : List ℕ → Type 0
Numbers l = (i : ℕ) → get_or l i 0 < 256

-- "the parents lead to 0", by a list of every entry's parent
unfoldable pub climbs_by : ℕ → List ℕ → ℕ → Bool
climbs_by zero l i = eqb i 0
climbs_by (suc k) l i = eqb i 0 || climbs_by k l (get_or l i 0)

unfoldable pub all_lead : ℕ → List ℕ → Bool
all_lead n l = every n (climbs_by n l)
