-- A rename in two steps: the displaced object is freed, and then the object is renamed.
-- Assumes nothing.
use Rattle.std.specs.Prelude.{ℕ, ◌<◌, ◌≡◌, Bool, true, false, List, set}
use Rattle.std.proofs.Common.{sym, ap, ap₂, ◌∙◌, subst}
use Rattle.record.specs.Fields.{displaced_if}
use Rattle.volume_entry.specs.Entry.{Entry, free, renamed}
use Rattle.volume_tree.specs.Volume.{Volume, entry_at}
use Rattle.volume_tree.specs.Form.{well_formed}
use Rattle.volume_apply.specs.Apply.{without_displaced}
use Rattle.volume_tree.specs.Stored.{encode_volume, read_volume}
use Rattle.volume_tree.specs.Laws.Stored.{read-good}
use Rattle.volume_tree.specs.Code.Lent.{Formed, entry_in, with_entry}
use Rattle.volume_tree.specs.Laws.Lent.{encoded-formed}
use Rattle.volume_tree.specs.Laws.Search.{entry_set_other}
use Rattle.volume_applies.specs.Code.Held.{Displaces}

-- What is known of a displaced object, where there is one.
pub displaces : (n b : ℕ) (v : Volume) (o : ℕ) (x : Bool) (d : ℕ) → Displaces n b v o (displaced_if x d) → x ≡ true
    → (d < n) × (o ≡ d → ⊥) × (well_formed n b (set v d free) ≡ true)
displaces n b v o x d h e = subst (λ (y : Bool). Displaces n b v o (displaced_if y d)) e h

-- what the first step leaves
module _ (n b : ℕ) (s : List ℕ) (f : Formed n b s) (d : ℕ) (w : well_formed n b (set (read_volume n b s) d free) ≡ true) (u : List ℕ)
    (e : u ≡ with_entry n b s d free) where
  pub freed-formed : Formed n b u
  freed-formed =
      subst (Formed n b) (sym e)
      (encoded-formed n b (set (read_volume n b s) d free) f.lent.fewest f.lent.most f.lent.least f.lent.blocks w)

  pub freed-read : read_volume n b u ≡ set (read_volume n b s) d free
  freed-read = ap (read_volume n b) e ∙ read-good n b (set (read_volume n b s) d free) f.lent.most f.lent.blocks w

  pub freed-entry : (o : ℕ) → (o ≡ d → ⊥) → entry_in n b u o ≡ entry_in n b s o
  freed-entry o z = ap (λ (v : Volume). entry_at v o) freed-read ∙ entry_set_other (read_volume n b s) d free o z

  -- The second step after the first leaves the object renamed and the displaced one gone.
  pub renamed-after : (o : ℕ) → (o ≡ d → ⊥) → (m : List ℕ) (q : ℕ) (x : Bool) → x ≡ true
      → with_entry n b u o (renamed (entry_in n b u o) m q)
      ≡ encode_volume b (set (without_displaced (read_volume n b s) (displaced_if x d)) o (renamed (entry_in n b s o) m q))
  renamed-after o z m q x t =
      ap₂ (λ (v : Volume) (y : Entry). encode_volume b (set v o (renamed y m q))) freed-read (freed-entry o z)
      ∙ ap (λ (y : Bool). encode_volume b (set (without_displaced (read_volume n b s) (displaced_if y d)) o (renamed (entry_in n b s o) m q))) (sym t)

-- Without a displaced object the second step is all.
pub renamed-alone : (n b : ℕ) (s : List ℕ) (o d : ℕ) (m : List ℕ) (q : ℕ) (x : Bool) → x ≡ false
    → with_entry n b s o (renamed (entry_in n b s o) m q)
    ≡ encode_volume b (set (without_displaced (read_volume n b s) (displaced_if x d)) o (renamed (entry_in n b s o) m q))
renamed-alone n b s o d m q x t =
    ap (λ (y : Bool). encode_volume b (set (without_displaced (read_volume n b s) (displaced_if y d)) o (renamed (entry_in n b s o) m q))) (sym t)
