-- What the loops over operands come to, and what a byte that is set to 1 does to a set of objects.
use Rattle.std.specs.Prelude.{ℕ, suc, ◌+◌, ◌<◌, ◌≡◌, refl, List, [], ◌∷◌, ◌++◌, Bool, true, false, ◌||◌, length, get_or, set, take, drop, replicate, eqb}
use Rattle.std.proofs.Math.Numerals.{add-one}
use Rattle.std.proofs.Common.{sym, drop-cons, get_or-set_same, get_or-set_other, eqb-true}
use Rattle.std.proofs.Math.Bool.{or_assoc, or-false}
use Rattle.std.proofs.Math.Seq.{drop-length}
use Rattle.std.proofs.lemmas.Bool.{eqb-false}
use Rattle.buffer.specs.Laws.Zero.{zeros-at}
use Rattle.record.specs.Fields.{member}
use Rattle.log_rules.specs.Order.{shares}
use Rattle.log_rules.specs.Code.Flags.{Holds}

-- of so many numbers of a list the first is asked, then the others
module _ (n : ℕ) (k l : List ℕ) where
  pub none_of : n ≡ 0 → shares (take n k) l ≡ false
  unfolding shares
  none_of e = rw e

  pub first_of : (m a : ℕ) (t : Bool) → n ≡ suc m → t ≡ member a l → t ≡ true → shares (take n (a ∷ k)) l ≡ true
  unfolding shares
  first_of m a t e f g = rw (e, ← f, g)

  pub others-of : (m a : ℕ) (t : Bool) → n ≡ suc m → t ≡ member a l → t ≡ false → shares (take n (a ∷ k)) l ≡ shares (take m k) l
  unfolding shares
  others-of m a t e f g = rw (e, ← f, g)

  pub last_of : (a : ℕ) → n ≡ 1 → shares (take n (a ∷ k)) l ≡ member a l
  unfolding shares
  last_of a e = rw (e, or-false)

-- one step of a loop that looks for a common object
module _ (k l : List ℕ) (i : ℕ) where
  pub shares-here : i < length k → member (get_or k i 0) l ≡ true → shares (drop i k) l ≡ true
  unfolding shares
  shares-here h e = rw (drop-cons k i 0 h, e)

  pub shares-on : i < length k → member (get_or k i 0) l ≡ false → shares (drop i k) l ≡ shares (drop (i + 1) k) l
  unfolding shares
  shares-on h e = rw (drop-cons k i 0 h, add-one, e)

  pub shares-end : i ≡ length k → shares (drop i k) l ≡ false
  unfolding shares
  shares-end e = rw (e, drop-length k)

-- objects in front of others share one if they do, or the others
pub shares-front : (k m l : List ℕ) → shares (k ++ m) l ≡ (shares k l || shares m l)
unfolding shares
shares-front [] m l = refl
shares-front (o ∷ k) m l = rw (shares-front k m l) (sym (or_assoc (member o l) (shares k l) (shares m l)))

-- a set of zeros holds nothing
pub holds-none : (k : ℕ) → Holds (replicate k 0) []
unfolding member
holds-none k = record { same = λ x. rw (zeros-at k x) }

-- a byte that is set to 1 puts its object into the set
pub holds_more : (s : List ℕ) (object : ℕ) (ops : List ℕ) → object < length s → Holds s ops → Holds (set s object 1) (object ∷ ops)
unfolding member
holds_more s object ops h held = record { same = λ x. at x (eqb x object) refl }
  where
    at : (x : ℕ) (t : Bool) → eqb x object ≡ t → eqb (get_or (set s object 1) x 0) 1 ≡ (eqb x object || member x ops)
    at x true e = let z = eqb-true x object e in rw (e, z, get_or-set_same s object 1 0 h)
    at x false e = rw (e, get_or-set_other s object x 1 0 (eqb-false x object e)) (held.same x)

-- one number more, in front of those of a list that are in a set
pub holds-from : (l : List ℕ) (k i v : ℕ) (ops s : List ℕ) → i ≡ suc k → v ≡ get_or l k 0 → k < length l → Holds s (v ∷ (drop i l ++ ops)) → Holds s (drop k l ++ ops)
holds-from l k i v ops s e f h held = rw (drop-cons l k 0 h) (rw (e, f) at held)
