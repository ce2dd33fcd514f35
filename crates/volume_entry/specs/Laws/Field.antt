-- Laws of the fields of an entry's bytes (document 01, "Geometry and stored form"): the kind's number, and which fields there are.
-- Assumes nothing.
use Rattle.std.specs.Prelude.{ℕ, zero, suc, ◌≤◌, ◌<◌, true, false, not, List, [], ◌≡◌, refl, eqb, get_or, take, drop}
use Rattle.std.proofs.lemmas.Bool.{false≢true}
use Rattle.std.proofs.Common.{sym, ap, ◌∙◌, arith}
use Rattle.buffer.specs.Numeral.{numeral}
use Rattle.volume_entry.specs.Entry.{Entry, free, file, directory, kind_number, name_of, parent_of, contents_of, is_used, is_file, is_directory, has_name}
use Rattle.volume_entry.specs.Stored.{entry_of, read_entry}

-- An entry is used where its kind's number is not 0.
pub used-kind : (e : Entry) → not (eqb (kind_number e) 0) ≡ is_used e
used-kind free = refl
used-kind (file n p c) = refl
used-kind (directory n p) = refl

-- An entry is a file where its kind's number is 1.
pub file-kind : (e : Entry) → eqb (kind_number e) 1 ≡ is_file e
file-kind free = refl
file-kind (file n p c) = refl
file-kind (directory n p) = refl

-- An entry is a directory where its kind's number is 2.
pub directory-kind : (e : Entry) → eqb (kind_number e) 2 ≡ is_directory e
directory-kind free = refl
directory-kind (file n p c) = refl
directory-kind (directory n p) = refl

-- An entry has a name where its kind's number is not 0.
pub named-kind : (e : Entry) → not (eqb (kind_number e) 0) ≡ has_name e
named-kind free = refl
named-kind (file n p c) = refl
named-kind (directory n p) = refl

-- Entries of one kind are alike a file, a directory, or with a name.
module _ (d e : Entry) (same : kind_number d ≡ kind_number e) where
  pub alike-file : is_file d ≡ is_file e
  alike-file = sym (file-kind d) ∙ ap (λ (k : ℕ). eqb k 1) same ∙ file-kind e

  pub alike-directory : is_directory d ≡ is_directory e
  alike-directory = sym (directory-kind d) ∙ ap (λ (k : ℕ). eqb k 2) same ∙ directory-kind e

  pub alike-name : has_name d ≡ has_name e
  alike-name = sym (named-kind d) ∙ ap (λ (k : ℕ). not (eqb k 0)) same ∙ named-kind e

-- The name of an entry without one is empty, and its parent 0.
pub unnamed-fields : (e : Entry) → has_name e ≡ false → (name_of e ≡ []) × (parent_of e ≡ 0)
unnamed-fields free h = (refl, refl)
unnamed-fields (file n p c) h = absurd (false≢true (sym h))
unnamed-fields (directory n p) h = absurd (false≢true (sym h))

-- An entry that is no file has no contents.
pub other-contents : (e : Entry) → is_file e ≡ false → contents_of e ≡ []
other-contents free h = refl
other-contents (file n p c) h = absurd (false≢true (sym h))
other-contents (directory n p) h = refl

-- A new entry, of the number of a file or a directory, has that number, its name and parent, and no contents.
pub new-fields : (k : ℕ) (n : List ℕ) (p : ℕ) → 1 ≤ k → k ≤ 2
    → (kind_number (entry_of k n p []) ≡ k) × (name_of (entry_of k n p []) ≡ n) × (parent_of (entry_of k n p []) ≡ p) × (contents_of (entry_of k n p []) ≡ [])
new-fields zero n p h l = absurd (omega arith)
new-fields (suc zero) n p h l = (refl, refl, refl, refl)
new-fields (suc (suc zero)) n p h l = (refl, refl, refl, refl)
new-fields (suc (suc (suc k))) n p h l = absurd (omega arith)

-- the kind's number and the fields, by the byte that stores the kind
module _ (n : List ℕ) (p : ℕ) (c : List ℕ) where
  below : (k : ℕ) → k < 2 → kind_number (entry_of k n p c) ≡ k
  below zero h = refl
  below (suc zero) h = refl
  below (suc (suc k)) h = absurd (omega arith)

  above : (k : ℕ) → 2 ≤ k → kind_number (entry_of k n p c) ≡ 2
  above zero h = absurd (omega arith)
  above (suc zero) h = absurd (omega arith)
  above (suc (suc k)) h = refl

  fields : (k : ℕ) → has_name (entry_of k n p c) ≡ true → (name_of (entry_of k n p c) ≡ n) × (parent_of (entry_of k n p c) ≡ p)
  fields zero h = absurd (false≢true h)
  fields (suc zero) h = (refl, refl)
  fields (suc (suc k)) h = (refl, refl)

  filled : (k : ℕ) → is_file (entry_of k n p c) ≡ true → contents_of (entry_of k n p c) ≡ c
  filled zero h = absurd (false≢true h)
  filled (suc zero) h = refl
  filled (suc (suc k)) h = absurd (false≢true h)

module _ (s : List ℕ) where
  -- A kind's number below 2 is the byte that stores it.
  pub kind-below : get_or s 0 0 < 2 → kind_number (read_entry s) ≡ get_or s 0 0
  unfolding read_entry
  kind-below = below _ _ _ (get_or s 0 0)

  -- Any byte from 2 on is read as a directory's.
  pub kind-above : 2 ≤ get_or s 0 0 → kind_number (read_entry s) ≡ 2
  unfolding read_entry
  kind-above = above _ _ _ (get_or s 0 0)

  -- An entry with a name has the name and the parent that stand in its bytes.
  pub named-fields : has_name (read_entry s) ≡ true
      → (name_of (read_entry s) ≡ take (get_or s 1 0) (drop 4 s)) × (parent_of (read_entry s) ≡ numeral (take 2 (drop 2 s)))
  unfolding read_entry
  named-fields = fields _ _ _ (get_or s 0 0)

  -- A file has the contents that stand in its bytes.
  pub file-contents : is_file (read_entry s) ≡ true → contents_of (read_entry s) ≡ take (numeral (take 4 (drop 64 s))) (drop 68 s)
  unfolding read_entry
  file-contents = filled _ _ _ (get_or s 0 0)
