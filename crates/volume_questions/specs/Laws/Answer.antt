-- What the questions answer and leave, by what the object's number names (document 01, "Calls").
-- Assumes nothing.
use Rattle.volume_questions.specs.declared.object.ObjectError.TheVariants.{BadNumber, NoObject}
use Rattle.std.specs.Prelude.{ℕ, ◌≤◌, ◌<◌, Bool, List, take, drop, Result, Ok, Err}
use Rattle.std.proofs.Common.{zero-add, arith, ap, ◌∙◌}
use Rattle.std.proofs.Math.Bool.{true, false, cond}
use Rattle.std.proofs.Math.Path.{◌≡◌, refl}
use Rattle.std.proofs.Math.ListN.{length}
use Rattle.std.proofs.Math.Dec.{ltb}
use borrow.Author.Tests.{lt-ltb, le-ltb, ltb-true}
use Rattle.buffer.specs.Patch.{Put}
use Rattle.volume_entry.specs.Entry.{Entry, is_used, is_file, kind_number, contents_of, usage}
use Rattle.volume_tree.specs.Volume.{Volume, entry_at}
use Rattle.volume_questions.specs.Listing.{listing}
use Rattle.volume_questions.specs.declared.object.ObjectKind.{ObjectKind}
use Rattle.volume_questions.specs.declared.object.ObjectError.{ObjectError}
use Rattle.volume_questions.specs.declared.object.ObjectKind.TheVariants.{File, Directory}
use Rattle.volume_questions.specs.declared.reading.ReadError.{ReadError}
use Rattle.volume_questions.specs.declared.reading.ReadError.TheVariants.{BadRange}
use Rattle.volume_questions.specs.declared.listing.ListError.{ListError}
use Rattle.volume_questions.specs.declared.listing.ListError.TheVariants.{Short}
use Rattle.volume_questions.specs.Answer.{stat, object_of, object_answer, stat_of, stat_answer, read_of, read_answer, read_left, read_leaves, list_of, list_answer, list_left, list_leaves}

-- What stat tells of an entry that is used, be it a file or a directory.
used-stat : (e : Entry) (file : Bool) → stat_of (cond file (Ok File) (Ok Directory)) e ≡ (Ok (stat (kind_number e) (length (contents_of e)) (usage (length (contents_of e)))))
used-stat e true = refl
used-stat e false = refl

module _ (v : Volume) (o : ℕ) where
  -- A number from the volume's length on names nothing.
  pub object-past : length v ≤ o → object_answer v o ≡ Err BadNumber
  unfolding object_answer
  object-past h = rw (le-ltb o (length v) h)

  -- A number below the volume's length names what its entry is.
  pub object-in : o < length v → object_answer v o ≡ object_of (entry_at v o)
  unfolding object_answer
  object-in h = rw (lt-ltb o (length v) h)

  -- A number that names a file is below the volume's length.
  pub file-below : object_answer v o ≡ Ok File → o < length v
  unfolding object_answer
  file-below = go (ltb o (length v)) refl
    where
      go : (t : Bool) → ltb o (length v) ≡ t → cond t (object_of (entry_at v o)) (Err BadNumber) ≡ Ok File → o < length v
      go true e h = ltb-true o (length v) e
      go false e h = let z : ◌≡◌ {A = ℕ} 0 1 = cc in absurd (omega arith)

  -- Stat refuses a number from the volume's length on.
  pub stat-past : length v ≤ o → stat_answer v o ≡ Err BadNumber
  unfolding stat_answer
  stat-past h = rw (object-past h)

  -- Stat refuses a free entry.
  pub stat-free : o < length v → is_used (entry_at v o) ≡ false → stat_answer v o ≡ Err NoObject
  unfolding stat_answer
  stat-free h u = rw (object-in h, u)

  -- Stat tells kind, length and usage of any other.
  pub stat-used : o < length v → is_used (entry_at v o) ≡ true
      → stat_answer v o ≡ (Ok (stat (kind_number (entry_at v o)) (length (contents_of (entry_at v o))) (usage (length (contents_of (entry_at v o))))))
  unfolding stat_answer
  stat-used h u = rw (object-in h, u) (used-stat (entry_at v o) (is_file (entry_at v o)))

-- Some bytes put at the start of a buffer: the place after them is their count.
pub put_count : {s own left : List ℕ} {r : ℕ} → Put s 0 own left r → r ≡ length s
put_count {s} p = p.ends ∙ zero-add (length s)

module _ (v : Volume) (o f : ℕ) (own : List ℕ) where
  -- An answer and what is left in the buffer are those of read.
  abbrev pub Reads : Result ℕ ReadError → List ℕ → Type 0
  Reads r left = (r ≡ read_answer v o f own) × (left ≡ read_leaves v o f own)

  -- They follow from what the object's number names.
  pub read-object : (x : Result ObjectKind ObjectError) → object_answer v o ≡ x
      → Reads (read_of x (contents_of (entry_at v o)) f own)
      (read_left (read_of x (contents_of (entry_at v o)) f own) (take (length own) (drop f (contents_of (entry_at v o)))) own)
  unfolding read_answer read_leaves
  read-object x e = (rw e, rw e)

  module _ (e : object_answer v o ≡ Ok File) (c : List ℕ) (q : c ≡ contents_of (entry_at v o)) where
    -- An offset beyond a file's length is refused.
    pub read-beyond : length c < f → Reads (Err BadRange) own
    unfolding read_answer read_leaves
    read-beyond h = let t = lt-ltb (length c) f h in (rw (e, ← q, t), rw (e, ← q, t))

    -- What follows an offset within a file's length fills the buffer, as far as it fits.
    pub read-bytes : f ≤ length c → (s : List ℕ) → s ≡ take (length own) (drop f c) → {left : List ℕ} {r : ℕ} → Put s 0 own left r → Reads (Ok r) left
    unfolding read_answer read_leaves
    read-bytes h s y p =
        let t = le-ltb (length c) f h in
        (rw (e, ← q, t, ← y) (ap Ok (put_count p)), rw (e, ← q, t, ← y) p.placed)

-- the same of list, in a volume of n entries
module _ (v : Volume) (n : ℕ) (z : length v ≡ n) (o : ℕ) (own : List ℕ) where
  -- An answer and what is left in the buffer are those of list.
  abbrev pub Lists : Result ℕ ListError → List ℕ → Type 0
  Lists r left = (r ≡ list_answer v o own) × (left ≡ list_leaves v o own)

  -- They follow from what the object's number names.
  pub list-object : (x : Result ObjectKind ObjectError) → object_answer v o ≡ x
      → Lists (list_of x (listing v o n) own) (list_left (list_of x (listing v o n) own) (listing v o n) own)
  unfolding list_answer list_leaves
  list-object x e = (rw (e, z), rw (e, z))

  module _ (e : object_answer v o ≡ Ok Directory) where
    -- A listing that does not fit is refused.
    pub list-short : length own < length (listing v o n) → Lists (Err Short) own
    unfolding list_answer list_leaves
    list-short h = let t = lt-ltb (length own) (length (listing v o n)) h in (rw (e, z, t), rw (e, z, t))

    -- A listing that fits fills the buffer.
    pub list-bytes : length (listing v o n) ≤ length own → {left : List ℕ} {r : ℕ} → Put (listing v o n) 0 own left r → Lists (Ok r) left
    unfolding list_answer list_leaves
    list-bytes h p =
        let t = le-ltb (length own) (length (listing v o n)) h in
        (rw (e, z, t) (ap Ok (put_count p)), rw (e, z, t) p.placed)
