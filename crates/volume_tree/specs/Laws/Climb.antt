-- The parents lead to 0 in any number of steps exactly if they do in as many as there are entries: no path is longer.
-- Assumes nothing.
use Rattle.std.specs.Prelude.{ℕ, zero, suc, ◌+◌, ◌≤◌, ◌<◌, ◌≡◌, refl, Bool, true, false, not, ◌&&◌, ◌||◌, cond, length, ltb, eqb}
use Rattle.std.proofs.Common.{not-suc-le-zero, arith, sym, ap, ◌∙◌, ltb-true, ltb-false, eqb-true}
use Rattle.std.proofs.lemmas.Bool.{false≢true}
use Rattle.buffer.specs.Laws.Test.{either, or_left, or_right, or-other}
use Rattle.volume_entry.specs.Entry.{parent_of}
use Rattle.volume_tree.specs.Volume.{Volume, entry_at, every}
use Rattle.volume_tree.specs.Form.{climbs}
use Rattle.volume_tree.specs.Laws.Form.{implies, every-inv, every-intro}

neither : (a b : Bool) → not a || b ≡ false → (a ≡ true) × (b ≡ false)
neither true b e = (refl, e)
neither false b e = absurd (false≢true (sym e))

-- where not every number below a bound passes, one fails
pub every-fails : (k : ℕ) (f : ℕ → Bool) → every k f ≡ false → (i : ℕ) × ((i < k) × (f i ≡ false))
unfolding every
every-fails zero f e = absurd (false≢true (sym e))
every-fails (suc k) f e = go (every k f) (f k) refl refl e (every-fails k f)
  where
    go : (x y : Bool) → every k f ≡ x → f k ≡ y → x && y ≡ false → (every k f ≡ false → (i : ℕ) × ((i < k) × (f i ≡ false))) → (i : ℕ) × ((i < suc k) × (f i ≡ false))
    go true y p q e r = (k, (omega arith, q ∙ e))
    go false y p q e r = let w = r p in (w.0, (omega (arith, w.1.0), w.1.1))

-- 1 for a test that passes
abbrev unit : Bool → ℕ
unit b = cond b 1 0

-- how many numbers below a bound pass a test
count : ℕ → (ℕ → Bool) → ℕ
count zero f = 0
count (suc k) f = unit (f k) + count k f

one_at_most : (b : Bool) → unit b ≤ 1
one_at_most true = omega arith
one_at_most false = omega arith

rises : (a b : Bool) → (a ≡ true → b ≡ true) → unit a ≤ unit b
rises true b h = rw (h refl) (omega arith)
rises false b h = omega arith

count-le : (k : ℕ) (f : ℕ → Bool) → count k f ≤ k
unfolding count
count-le zero f = omega arith
count-le (suc k) f = omega (arith, count-le k f, one_at_most (f k))

count-up : (k : ℕ) (f g : ℕ → Bool) → ((i : ℕ) → f i ≡ true → g i ≡ true) → count k f ≤ count k g
unfolding count
count-up zero f g h = omega arith
count-up (suc k) f g h = omega (arith, count-up k f g h, rises (f k) (g k) (h k))

-- a test that passes all of another's and one more passes more
count-more : (k : ℕ) (f g : ℕ → Bool) → ((i : ℕ) → f i ≡ true → g i ≡ true) → (j : ℕ) → j < k → f j ≡ false → g j ≡ true → count k f < count k g
unfolding count
count-more zero f g h j l x y = absurd (not-suc-le-zero l)
count-more (suc k) f g h j l x y = go (ltb j k) refl (λ b. count-more k f g h j b x y)
  where
    go : (b : Bool) → ltb j k ≡ b → (j < k → count k f < count k g) → unit (f k) + count k f < unit (g k) + count k g
    go true e r = omega (arith, r (ltb-true j k e), rises (f k) (g k) (h k))
    go false e r =
        let s : j ≡ k = omega (arith, ltb-false j k e) in
        let x' : unit (f k) ≡ 0 = ap unit (ap f (sym s) ∙ x) in
        let y' : unit (g k) ≡ 1 = ap unit (ap g (sym s) ∙ y) in
        omega (arith, count-up k f g h)

-- the parents of an entry lead to 0
pub data Climb (v : Volume) : ℕ → Type 0 where
  here : (i : ℕ) → i ≡ 0 → Climb v i
  step : (i : ℕ) → Climb v (parent_of (entry_at v i)) → Climb v i

-- an entry that climbs in so many steps climbs
pub climbs-climb : (k : ℕ) (v : Volume) (i : ℕ) → climbs k v i ≡ true → Climb v i
unfolding climbs
climbs-climb zero v i e = here i (eqb-true i 0 e)
climbs-climb (suc k) v i e =
    either (eqb i 0) (climbs k v (parent_of (entry_at v i))) e (λ t. here i (eqb-true i 0 t)) (λ t. step i (climbs-climb k v (parent_of (entry_at v i)) t))

-- a step more does no harm
pub climbs-more : (k : ℕ) (v : Volume) (i : ℕ) → climbs k v i ≡ true → climbs (suc k) v i ≡ true
unfolding climbs
climbs-more zero v i e = or_left (eqb i 0) _ e
climbs-more (suc k) v i e =
    either (eqb i 0) (climbs k v (parent_of (entry_at v i))) e (or_left (eqb i 0) _) (λ t. or_right (eqb i 0) _ (climbs-more k v (parent_of (entry_at v i)) t))

-- the root has climbed
pub climbs-root : (k : ℕ) (v : Volume) → climbs k v 0 ≡ true
unfolding climbs
climbs-root zero v = refl
climbs-root (suc k) v = refl

-- an entry climbs in a step more than its parent
pub climbs-step : (k : ℕ) (v : Volume) (i : ℕ) → climbs k v (parent_of (entry_at v i)) ≡ true → climbs (suc k) v i ≡ true
unfolding climbs
climbs-step k v i t = or_right (eqb i 0) _ t

-- whether a step more reaches nothing more
abbrev settled : Volume → ℕ → Bool
settled v k = every (length v) (λ j. not (climbs (suc k) v j) || climbs k v j)

module _ (v : Volume) (below : (j : ℕ) → parent_of (entry_at v j) < length v) where
  settled_at : (k : ℕ) → settled v k ≡ true → (j : ℕ) → j < length v → climbs (suc k) v j ≡ true → climbs k v j ≡ true
  settled_at k s j l t =
      or-other (not (climbs (suc k) v j)) (climbs k v j) (ap not t) (every-inv (length v) (λ j. not (climbs (suc k) v j) || climbs k v j) s j l)

  settled-past : (k : ℕ) → settled v k ≡ true → (j : ℕ) → climbs (suc (suc k)) v j ≡ true → climbs (suc k) v j ≡ true
  unfolding climbs
  settled-past k s j t =
      either (eqb j 0) (climbs (suc k) v (parent_of (entry_at v j))) t (or_left (eqb j 0) _)
      (λ u. or_right (eqb j 0) _ (settled_at k s (parent_of (entry_at v j)) (below j) u))

  -- once settled, always settled
  settled_on : (k : ℕ) → settled v k ≡ true → settled v (suc k) ≡ true
  settled_on k s =
      every-intro (length v) (λ j. not (climbs (suc (suc k)) v j) || climbs (suc k) v j)
      (λ j l. implies (climbs (suc (suc k)) v j) (climbs (suc k) v j) (settled-past k s j))

  -- as long as it is not settled, each step more reaches an entry more
  unsettled : (k : ℕ) → settled v k ≡ false → k < count (length v) (climbs k v)
  unsettled zero s = omega (arith, count-more (length v) (λ j. false) (climbs 0 v) (λ i t. absurd (false≢true t)) 0 (omega (arith, below 0)) refl (climbs-root 0 v))
  unsettled (suc k) s =
      let s' : settled v k ≡ false = go (settled v k) refl in
      let w = every-fails (length v) (λ j. not (climbs (suc k) v j) || climbs k v j) s' in
      let f = neither (climbs (suc k) v w.0) (climbs k v w.0) w.1.1 in
      omega (arith, unsettled k s', count-more (length v) (climbs k v) (climbs (suc k) v) (climbs-more k v) w.0 w.1.0 f.1 f.0)
    where
      go : (b : Bool) → settled v k ≡ b → settled v k ≡ false
      go true e = absurd (false≢true (sym s ∙ settled_on k e))
      go false e = e

  settled-all : settled v (length v) ≡ true
  settled-all = go (settled v (length v)) refl
    where
      go : (b : Bool) → settled v (length v) ≡ b → settled v (length v) ≡ true
      go true e = e
      go false e = absurd (omega (arith, unsettled (length v) e, count-le (length v) (climbs (length v) v)))

  -- an entry whose parents lead to 0 is led there in as many steps as there are entries
  pub climb-climbs : (i : ℕ) → i < length v → Climb v i → climbs (length v) v i ≡ true
  climb-climbs i l (here _ e) = ap (climbs (length v) v) e ∙ climbs-root (length v) v
  climb-climbs i l (step _ c) =
      settled_at (length v) settled-all i l (climbs-step (length v) v i (climb-climbs (parent_of (entry_at v i)) (below i) c))
