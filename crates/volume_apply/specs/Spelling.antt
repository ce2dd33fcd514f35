-- Document 02, K2, "Letter case in names": what changes of a volume where an object only gets another spelling of its name.
use Rattle.std.specs.Prelude.{ℕ, ◌≡◌, ◌↔◌, List}
use Rattle.volume_entry.specs.Entry.{kind_number, name_of, parent_of, contents_of}
use Rattle.volume_tree.specs.Volume.{Volume, entry_at}

-- the volume w is v with another spelling k of the name of the object o
pub record Respelled (v w : Volume) (o : ℕ) (k : List ℕ) : Type 0 where
  -- "A rename stores its second name as typed, so one that only changes the case of the stored name .. changes the stored spelling"
  pub spelling : name_of (entry_at w o) ≡ k
  pub kind : kind_number (entry_at w o) ≡ kind_number (entry_at v o)
  pub parent : parent_of (entry_at w o) ≡ parent_of (entry_at v o)
  pub contents : contents_of (entry_at w o) ≡ contents_of (entry_at v o)
  -- "displaces nothing"
  pub others : (i : ℕ) → (i ≡ o → ⊥) → entry_at w i ≡ entry_at v i
  -- "in the same parent, only the stored spelling itself changes nothing"
  pub nothing : (w ≡ v) ↔ (name_of (entry_at v o) ≡ k)
