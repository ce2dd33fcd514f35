-- What the loops and tests of the form come to: a walk that stops at the first number that fails a test, numbers that are gathered of
-- every entry, and two entries that share parent and name. Assumes nothing.
use Rattle.std.specs.Prelude.{ℕ, ◌+◌, ◌%◌, ◌≤◌, ◌<◌, ◌≡◌, refl, List, [], ◌∷◌, map, Bool, true, false, ◌||◌, length, get_or, set, ltb}
use Rattle.std.proofs.Common.{arith, ap, ap₂, ◌∙◌, get_or-set_same, get_or-set_other, ltb-true, ltb-false, ne_eqb}
use Rattle.std.proofs.Math.Path.{sym}
use Rattle.std.proofs.Math.Bool.{not, and-false}
use Rattle.std.proofs.Math.ListN.{get_or-eq_default}
use Rattle.std.proofs.Math.Dec.{leb}
use Rattle.buffer.specs.Laws.Test.{or_right}
use Rattle.names.specs.Name.{lower_case, same_name}
use Rattle.volume_entry.specs.Entry.{Entry, free, parent_of, name_of}
use Rattle.volume_tree.specs.Volume.{Volume, entry_at, every, is_child}
use Rattle.volume_tree.specs.Form.{twins}
use Rattle.volume_tree.specs.Laws.Form.{every-intro, every-not}
use Rattle.names.proofs.Laws.Name.{lower-rest, same-lower}
use Rattle.volume_unique.specs.Code.Checks.{digest_from, digest, alone_from}

module _ (k n : ℕ) (f : ℕ → Bool) (size : k ≡ n) where
  -- One number below a bound that fails a test fails the test of all.
  pub stopped : (i : ℕ) → i < n → f i ≡ false → false ≡ every k f
  stopped i h t = sym (every-not k f i (omega arith) t)

  -- If each number up to a bound passes a test, so do all.
  pub passed : (i : ℕ) → n ≤ i → ((j : ℕ) → j < i → f j ≡ true) → true ≡ every k f
  passed i h all = sym (every-intro k f (λ j l. all j (omega arith)))

-- numbers of the first i entries, and 0 behind them
abbrev pub Passed : (Entry → ℕ) → Volume → ℕ → List ℕ → Type 0
Passed f v i l = ((j : ℕ) → j < i → get_or l j 0 ≡ f (entry_at v j)) × ((j : ℕ) → i ≤ j → get_or l j 0 ≡ 0)

module _ (f : Entry → ℕ) (v : Volume) (i : ℕ) (l : List ℕ) (inv : Passed f v i l) where
  -- One more number is gathered by storing it.
  pub gather-next : i < length l → (p : ℕ) → p ≡ f (entry_at v i) → Passed f v (i + 1) (set l i p)
  gather-next h p e = (λ j m. below j m (ltb j i) refl, λ j m. get_or-set_other l i j p 0 (λ z. omega arith) ∙ inv.1 j (omega arith))
    where
      below : (j : ℕ) → j < i + 1 → (t : Bool) → ltb j i ≡ t → get_or (set l i p) j 0 ≡ f (entry_at v j)
      below j m true t =
          let o = ltb-true j i t in
          get_or-set_other l i j p 0 (λ z. omega arith) ∙ inv.0 j o
      below j m false t =
          let z : j ≡ i = omega (arith, ltb-false j i t) in
          rw z (get_or-set_same l i p 0 h ∙ e)

  -- Past the last entry all numbers are gathered, where a free entry's is 0.
  pub gather-ended : f free ≡ 0 → length v ≤ i → (j : ℕ) → get_or l j 0 ≡ f (entry_at v j)
  gather-ended z h j = go (ltb j i) refl
    where
      go : (t : Bool) → ltb j i ≡ t → get_or l j 0 ≡ f (entry_at v j)
      go true t = inv.0 j (ltb-true j i t)
      go false t =
          let m = ltb-false j i t in
          let k : length v ≤ j = omega arith in
          inv.1 j m ∙ sym z ∙ ap f (sym (get_or-eq_default v free k))

-- A name's bytes have the remainders by 32 that they have in lower case.
rests-lower : (s : List ℕ) → map (λ (v : ℕ). v % 32) (map lower_case s) ≡ map (λ (v : ℕ). v % 32) s
rests-lower [] = refl
rests-lower (a ∷ s) = ap₂ (λ (v : ℕ) (r : List ℕ). v ∷ r) (lower-rest a) (rests-lower s)

-- Names that are the same have one list of remainders by 32.
same-rests : (s t : List ℕ) → same_name s t ≡ true → map (λ (v : ℕ). v % 32) s ≡ map (λ (v : ℕ). v % 32) t
same-rests s t e = sym (rests-lower s) ∙ ap (map (λ (v : ℕ). v % 32)) (same-lower s t e) ∙ rests-lower t

-- Names that are the same have one digest.
pub same-digest : (s t : List ℕ) → same_name s t ≡ true → digest s ≡ digest t
same-digest s t e = ap (digest_from 0) (same-rests s t e)

-- An entry does not share parent and name with one whose name has another digest.
pub other_name : (v : Volume) (i j : ℕ) → (digest (name_of (entry_at v i)) ≡ digest (name_of (entry_at v j)) → ⊥) → false ≡ twins v i j
other_name v i j z = rw (go (same_name (name_of (entry_at v i)) (name_of (entry_at v j))) refl, and-false)
  where
    go : (t : Bool) → same_name (name_of (entry_at v i)) (name_of (entry_at v j)) ≡ t → same_name (name_of (entry_at v i)) (name_of (entry_at v j)) ≡ false
    go true e = absurd (z (ap (digest_from 0) (same-rests (name_of (entry_at v i)) (name_of (entry_at v j)) e)))
    go false e = e

module _ (v : Volume) (i d : ℕ) (p : d ≡ parent_of (entry_at v i)) where
  -- An entry does not share parent and name with one of another parent.
  pub other-parent : (j : ℕ) → (parent_of (entry_at v j) ≡ d → ⊥) → false ≡ twins v i j
  other-parent j z = rw (← p, ne_eqb (parent_of (entry_at v j)) d z, and-false, and-false, and-false)

  -- An entry that is no child of its parent shares parent and name with none.
  pub no-child : (j : ℕ) → is_child v d i ≡ false → false ≡ twins v i j
  no-child j t = rw (rw p at t)

  -- An entry does not share parent and name with one that is no child of its parent.
  pub other-no-child : (j : ℕ) → is_child v d j ≡ false → false ≡ twins v i j
  other-no-child j t = rw (rw p at t, and-false)

  -- Two children of a directory share parent and name if they share the name.
  pub both-children : (j : ℕ) → is_child v d i ≡ true → is_child v d j ≡ true → (r : Bool) (x y : List ℕ) → r ≡ same_name x y
      → x ≡ name_of (entry_at v i) → y ≡ name_of (entry_at v j) → r ≡ twins v i j
  both-children j t u r x y e f g = rw (rw p at t, rw p at u, ← f, ← g) e

  -- An entry that is no child of its parent is alone.
  pub no-child-alone : is_child v d i ≡ false → true ≡ alone_from v i
  unfolding alone_from
  no-child-alone t =
      sym (every-intro (length v) (λ j. leb j i || not (twins v i j)) (λ j h. or_right (leb j i) _ (ap not (sym (no-child j t)))))
