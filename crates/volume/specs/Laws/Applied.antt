-- What may be relied on where the operation of a valid record that fits applies to a well-formed volume, kind by kind.
-- Assumes nothing.
use Rattle.std.specs.Prelude.{ℕ, ◌+◌, ◌*◌, ◌%◌, ◌≤◌, ◌<◌, ◌≡◌, not, ◌&&◌, List, leb, ltb, eqb}
use Rattle.std.proofs.Common.{arith}
use Rattle.std.proofs.Math.Bool.{true, and-eq-true_iff}
use Rattle.std.specs.Prelude.{Option, None, Some}
use Rattle.std.proofs.Math.ListN.{length}
use borrow.Author.Tests.{leb-true, ltb-true, eqb-true, eqb-false, not-true}
use Rattle.buffer.specs.Geometry.{block_bytes}
use Rattle.names.specs.Name.{valid_name}
use Rattle.names.proofs.Laws.Name.{valid-length}
use Rattle.record.specs.declared.kind.Kind.TheVariants.{Overwrite, Append}
use Rattle.record.specs.Kind.{map_of_kind}
use Rattle.record.specs.Operation.{create_file, make_directory, remove, rename, overwrite, append, set_length, Record, map_of, operands}
use Rattle.record.specs.Fields.{parts, stands_in, if_stands, differing, tied, between, in_block, valid, all_below, fits}
use Rattle.record.proofs.Laws.Record.{valid-inv}
use Rattle.volume_entry.specs.Entry.{free, is_used, is_file, is_directory, has_name, contents_of}
use Rattle.volume_tree.specs.Volume.{Volume, entry_at, search, has_children}
use Rattle.volume_tree.specs.Form.{well_formed}
use Rattle.volume_apply.specs.Apply.{is_absent, leads, has_room, stays, yields, applies}
use Rattle.volume_tree.specs.Laws.Form.{well-formed-inv}
use Rattle.volume_tree.specs.Laws.Search.{file-below, named-below}
use Rattle.volume_entry.specs.Laws.Entry.{unused-free}
use Rattle.volume_apply.proofs.Laws.Apply.{leads-named, displaced-good}
use Rattle.volume_applies.specs.Code.Held.{Displaces}

-- a number with room for a new entry
room-free : (v : Volume) (o p : ℕ) (m : List ℕ) → has_room v o p m ≡ true → (o < length v) × (entry_at v o ≡ free)
room-free v o p m t =
    let a = (and-eq-true_iff (is_directory (entry_at v p)) (is_absent (search v p m) && (ltb o (length v) && not (is_used (entry_at v o))))).0 t in
    let c = (and-eq-true_iff (is_absent (search v p m)) (ltb o (length v) && not (is_used (entry_at v o)))).0 a.1 in
    let d = (and-eq-true_iff (ltb o (length v)) (not (is_used (entry_at v o)))).0 c.1 in
    (ltb-true o (length v) d.0, unused-free (entry_at v o) (not-true (is_used (entry_at v o)) d.1))

-- the second name of a rename is valid, displaced object or not
second-valid : (o p q : ℕ) (d : Option ℕ) (k m : List ℕ)
    → if_stands (stands_in (map_of (rename o p q d k m)) 32) (valid_name m) ≡ true → valid_name m ≡ true
second-valid o p q None k m t = t
second-valid o p q (Some d) k m t = t

-- the displaced object is another one
differ : (o p q d : ℕ) (k m : List ℕ) → tied (map_of (rename o p q (Some d) k m)) (parts (rename o p q (Some d) k m)) ≡ true → o ≡ d → ⊥
unfolding tied differing
differ o p q d k m t = eqb-false o d (not-true (eqb o d) ((and-eq-true_iff (not (eqb o d)) _).0 t).0)

-- data of 1..1,024 bytes in one block
one_block : (k : ℕ) (c : List ℕ) → between 1 block_bytes (length c) ≡ true → in_block (map_of_kind Overwrite) k (length c) ≡ true → (1 ≤ length c) × (k % 1024 + length c ≤ 1024)
unfolding in_block
one_block k c t u = (
  leb-true 1 (length c) ((and-eq-true_iff (leb 1 (length c)) (leb (length c) 1024)).0 t).0,
  leb-true (k % 1024 + length c) 1024 ((and-eq-true_iff (leb (k % 1024 + length c) 1024) (leb (k + length c) 65536)).0 u).0,
)

module _ (n b : ℕ) (v : Volume) (r : Record) (w : well_formed n b v ≡ true) (h : valid r ≡ true) (f : fits n b r ≡ true)
    (a : applies v r.operation ≡ true) where
  -- the offset and the data, or the new length, end within b blocks
  pub within : (parts r.operation).offset + length (parts r.operation).block ≤ 1024 * b
  unfolding fits
  within = leb-true _ _ ((and-eq-true_iff (all_below n (operands r.operation)) (leb ((parts r.operation).offset + length (parts r.operation).block) (1024 * b))).0 f).1

  -- a new entry's number is free and its name short, if there is room
  made-ready : (o p : ℕ) (m : List ℕ) → has_room v o p m ≡ true → valid_name m ≡ true → (o < length v) × (entry_at v o ≡ free) × (length m ≤ 60)
  made-ready o p m t k = let y = room-free v o p m t in (y.0, y.1, (valid-length m k).1)

  pub file-made : (o p : ℕ) (m : List ℕ) → r.operation ≡ create_file o p m → (o < length v) × (entry_at v o ≡ free) × (length m ≤ 60)
  unfolding applies
  file-made o p m e = made-ready o p m (rw e at a) (rw e at (valid-inv r h).name)

  pub directory-made : (o p : ℕ) (m : List ℕ) → r.operation ≡ make_directory o p m → (o < length v) × (entry_at v o ≡ free) × (length m ≤ 60)
  unfolding applies
  directory-made o p m e = made-ready o p m (rw e at a) (rw e at (valid-inv r h).name)

  pub removed : (o p : ℕ) (m : List ℕ) → r.operation ≡ remove o p m → o < length v
  unfolding applies
  removed o p m e =
      let t = (and-eq-true_iff (leads v p m o) (not (has_children v o))).0 (rw e at a) in
      named-below v o (leads-named v p m o t.0).1.named

  -- an object that is renamed has a name, and what it displaces may go
  pub renamed-ready : (o p q : ℕ) (d : Option ℕ) (k m : List ℕ) → r.operation ≡ rename o p q d k m
      → (o < length v) × (has_name (entry_at v o) ≡ true) × (length m ≤ 60) × Displaces n b v o d
  unfolding applies
  renamed-ready o p q d k m e =
      let t = (and-eq-true_iff (leads v p k o) (is_directory (entry_at v q) && (stays v o p q && yields v o q d m))).0 (rw e at a) in
      let u = (and-eq-true_iff (is_directory (entry_at v q)) (stays v o p q && yields v o q d m)).0 t.1 in
      let y = (and-eq-true_iff (stays v o p q) (yields v o q d m)).0 u.1 in
      let x = (leads-named v p k o t.0).1 in
      (named-below v o x.named, x.named, (valid-length m (second-valid o p q d k m (rw e at (valid-inv r h).second_name))).1, go d e y.1)
    where
      go : (d : Option ℕ) → r.operation ≡ rename o p q d k m → yields v o q d m ≡ true → Displaces n b v o d
      go None e y = tt
      go (Some d) e y =
          let x = displaced-good n b v w o q d m y in
          let size = (well-formed-inv n b v w).size in
          (omega (arith, x.0, size), differ o p q d k m (rw e at (valid-inv r h).tie), x.1)

  -- what is written over bytes of a file
  pub overwrite-ready : (o k : ℕ) (c : List ℕ) → r.operation ≡ overwrite o k c
      → (o < length v) × (is_file (entry_at v o) ≡ true) × (1 ≤ length c) × (k % 1024 + length c ≤ 1024) × (k + length c ≤ length (contents_of (entry_at v o)))
  unfolding applies tied
  overwrite-ready o k c e =
      let t = (and-eq-true_iff (is_file (entry_at v o)) (leb (k + length c) (length (contents_of (entry_at v o))))).0 (rw e at a) in
      let x = one_block k c (rw e at (valid-inv r h).block) ((and-eq-true_iff (differing (map_of_kind Overwrite) o 0) (in_block (map_of_kind Overwrite) k (length c))).0 (rw e at (valid-inv r h).tie)).1 in
      (file-below v o t.0, t.0, x.0, x.1, leb-true (k + length c) (length (contents_of (entry_at v o))) t.1)

  -- what is added at the end of a file
  pub append-ready : (o k : ℕ) (c : List ℕ) → r.operation ≡ append o k c
      → (o < length v) × (is_file (entry_at v o) ≡ true) × (k ≡ length (contents_of (entry_at v o))) × (1 ≤ length c) × (k % 1024 + length c ≤ 1024) × (k + length c ≤ 1024 * b)
  unfolding applies tied
  append-ready o k c e =
      let t = (and-eq-true_iff (is_file (entry_at v o)) (eqb k (length (contents_of (entry_at v o))))).0 (rw e at a) in
      let x = one_block k c (rw e at (valid-inv r h).block) ((and-eq-true_iff (differing (map_of_kind Append) o 0) (in_block (map_of_kind Append) k (length c))).0 (rw e at (valid-inv r h).tie)).1 in
      (file-below v o t.0, t.0, eqb-true k (length (contents_of (entry_at v o))) t.1, x.0, x.1, rw e at within)

  -- a file whose length is set
  pub length-ready : (o k : ℕ) → r.operation ≡ set_length o k → (o < length v) × (is_file (entry_at v o) ≡ true) × (k ≤ 1024 * b)
  unfolding applies
  length-ready o k e =
      let t : is_file (entry_at v o) ≡ true = rw e at a in
      let x : k + 0 ≤ 1024 * b = rw e at within in
      (file-below v o t, t, omega arith)
