-- The object that an accepted question names is below 256. Assumes nothing.
use Rattle.volume_questions.specs.declared.object.ObjectError.TheVariants.{BadNumber}
use Rattle.std.specs.Prelude.{ℕ, ◌<◌, ◌≡◌, refl, List, Bool, true, false, cond, length, ltb, Err}
use Rattle.std.proofs.Common.{arith, ltb-true}
use Rattle.volume_tree.specs.Volume.{Volume, entry_at}
use Rattle.volume_tree.specs.Stored.{read_volume}
use Rattle.volume_tree.specs.Laws.Lent.{length-read}
use Rattle.volume_questions.specs.Answer.{object_of, object_answer}
use Rattle.session_questions.specs.Code.Asked.{MayAsk}

-- a number that names a file or a directory is below the volume's length
named-below : (v : Volume) (o : ℕ) → (object_answer v o ≡ Err BadNumber → ⊥) → o < length v
unfolding object_answer
named-below v o = go (ltb o (length v)) refl
  where
    go : (t : Bool) → ltb o (length v) ≡ t → (cond t (object_of (entry_at v o)) (Err BadNumber) ≡ Err BadNumber → ⊥) → o < length v
    go true e h = ltb-true o (length v) e
    go false e h = absurd (h refl)

-- A volume that a question may be asked of has at most 256 objects.
pub named-few : {n b m p : ℕ} {s v l : List ℕ} → MayAsk n b m p s v l → (o : ℕ) → (object_answer (read_volume n b v) o ≡ Err BadNumber → ⊥) → o < 256
named-few {n} {b} {v = v} h o f = let z = named-below (read_volume n b v) o f in let e = length-read n b v in let most = h.admitted.view.lent.most in omega arith
