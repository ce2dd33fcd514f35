-- Laws of the form of one entry's bytes (document 01, "Geometry and stored form"): what it asks, with the fields at hand that decide it.
-- Assumes nothing.
use Rattle.std.specs.Prelude.{ℕ, zero, suc, ◌+◌, ◌*◌, ◌≤◌, ◌<◌, ◌-◌, Bool, true, false, ◌&&◌, List, ◌≡◌, refl, length, get_or, take, drop, eqb}
use Rattle.std.proofs.Math.Bool.{and-false}
use Rattle.std.proofs.Common.{sym, ◌∙◌, arith, take-add, drop_at, length-take-le}
use Rattle.std.proofs.Math.Path.{ap}
use borrow.Author.Tests.{le-leb, lt-leb, eq-eqb, ne_eqb}
use Rattle.names.specs.Name.{valid_name}
use Rattle.buffer.specs.Numeral.{numeral}
use Rattle.volume_entry.specs.Entry.{Entry, kind_number}
use Rattle.volume_entry.specs.Stored.{data_at, entry_of, read_entry}
use Rattle.buffer.specs.Code.Zero.{zeros}
use Rattle.volume_entry_form.specs.Code.Check.{name_formed, length_field, data_formed, formed_as, entry_formed, root_formed}

-- The bytes from a place up to another are those from the place on, of those up to the other.
pub take_part : (n m : ℕ) (s : List ℕ) → n ≤ m → m ≤ length s → take (m - n) (drop n s) ≡ drop n (take m s)
take_part n m s h k =
    let e : n + (m - n) ≡ m = omega arith in
    sym (drop_at (take n s) (take (m - n) (drop n s)) n (length-take-le n s (omega arith)))
    ∙ ap (drop n) (sym (take-add n (m - n) s) ∙ ap (λ (j : ℕ). take j s) e)

module _ (s : List ℕ) (len : ℕ) (e : len ≡ get_or s 1 0) where
  -- A name of more than 60 bytes is not well formed.
  pub name-long : 60 < len → name_formed s ≡ false
  unfolding name_formed
  name-long h = rw (← e, lt-leb len 60 h)

  -- A name that is not valid is not well formed.
  pub name-invalid : valid_name (take len (drop 4 s)) ≡ false → name_formed s ≡ false
  unfolding name_formed
  name-invalid v = rw (← e, v, and-false)

  -- A valid name is well formed where zeros stand behind it.
  pub name-zeros : len ≤ 60 → valid_name (take len (drop 4 s)) ≡ true → name_formed s ≡ zeros (drop (4 + len) (take 64 s))
  unfolding name_formed
  name-zeros h v = rw (← e, le-leb len 60 h, v)

module _ (b : ℕ) (s : List ℕ) (len : ℕ) (e : len ≡ length_field s) where
  -- A file that is too long is not well formed.
  pub data-long : 1024 * b < len → data_formed b s ≡ false
  unfolding data_formed
  data-long h = rw (← e, lt-leb len (1024 * b) h)

  -- A file that is not too long is well formed where zeros stand behind its data.
  pub data-short : len ≤ 1024 * b → data_formed b s ≡ zeros (drop (68 + len) s)
  unfolding data_formed
  data-short h = rw (← e, le-leb len (1024 * b) h)

-- the test of a kind's byte with the entry that it tells of, and what it asks of the other bytes
abbrev told : ℕ → List ℕ → Entry
told k s = entry_of k (take (get_or s 1 0) (drop 4 s)) (numeral (take 2 (drop 2 s))) (take (length_field s) (drop data_at s))

abbrev by_kind : ℕ → ℕ → List ℕ → Bool
by_kind b k s = eqb k (kind_number (told k s)) && formed_as b (told k s) s

above : (b k : ℕ) (s : List ℕ) → 2 < k → by_kind b k s ≡ false
above b zero s h = absurd (omega arith)
above b (suc zero) s h = absurd (omega arith)
above b (suc (suc k)) s h = rw (ne_eqb (suc (suc k)) 2 (λ e. omega arith))

unnamed : (b k : ℕ) (s : List ℕ) → (k ≡ 0 → ⊥) → name_formed s ≡ false → by_kind b k s ≡ false
unnamed b zero s h n = absurd (h refl)
unnamed b (suc zero) s h n = rw n
unnamed b (suc (suc k)) s h n = rw (n, and-false)

module _ (b : ℕ) (s : List ℕ) (k : ℕ) (e : k ≡ get_or s 0 0) where
  as-kind : (j : ℕ) → k ≡ j → entry_formed b s ≡ by_kind b j s
  unfolding entry_formed read_entry
  as-kind j q = ap (λ (i : ℕ). by_kind b i s) (sym e ∙ q)

  -- A free entry is well formed where all its bytes are zero.
  pub free-formed : k ≡ 0 → entry_formed b s ≡ zeros s
  free-formed = as-kind 0

  -- An entry of a kind that there is not is not well formed.
  pub kind-unknown : 2 < k → entry_formed b s ≡ false
  kind-unknown h = as-kind k refl ∙ above b k s h

  -- An entry that is not free is not well formed where its name is not.
  pub name-unformed : (k ≡ 0 → ⊥) → name_formed s ≡ false → entry_formed b s ≡ false
  name-unformed h n = as-kind k refl ∙ unnamed b k s h n

  -- A file with a well formed name is well formed where its data is.
  pub file-formed : k ≡ 1 → name_formed s ≡ true → entry_formed b s ≡ data_formed b s
  file-formed q n = as-kind 1 q ∙ ap (λ (t : Bool). t && data_formed b s) n

  -- A directory with a well formed name is well formed where zeros stand behind the name.
  pub directory-formed : (k ≡ 0 → ⊥) → (k ≡ 1 → ⊥) → k ≤ 2 → name_formed s ≡ true → entry_formed b s ≡ zeros (drop 64 s)
  directory-formed z o l n = as-kind 2 (omega (arith, z, o)) ∙ ap (λ (t : Bool). t && zeros (drop 64 s)) n

module _ (s : List ℕ) where
  -- A root's kind is a directory's.
  pub root-other : (get_or s 0 0 ≡ 2 → ⊥) → root_formed s ≡ false
  unfolding root_formed
  root-other h = rw (ne_eqb (get_or s 0 0) 2 h)

  -- A directory is the root where zeros stand behind the kind.
  pub root-zeros : get_or s 0 0 ≡ 2 → root_formed s ≡ zeros (drop 1 s)
  unfolding root_formed
  root-zeros h = rw (eq-eqb (get_or s 0 0) 2 h)
