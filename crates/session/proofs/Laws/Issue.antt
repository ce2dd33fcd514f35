-- When the record of an operation is valid and fits n and b, by kind.
use Rattle.std.specs.Prelude.{ℕ, ◌+◌, ◌*◌, ◌%◌, ◌≤◌, ◌<◌, ◌≡◌, List, [], ◌∷◌, true, ◌&&◌, leb}
use Rattle.std.proofs.Common.{arith}
use Rattle.std.specs.Prelude.{None, Some}
use Rattle.std.proofs.Math.ListN.{length}
use Rattle.std.proofs.Math.Dec.{leb-zero}
use borrow.Author.Tests.{le-leb, lt-ltb, ne_eqb}
use Rattle.names.specs.Name.{valid_name}
use Rattle.record.specs.Operation.{Operation, create_file, make_directory, remove, rename, overwrite, append, set_length, forder, map_of, operands, record_of}
use Rattle.record.specs.Fields.{parts, valid, valid_head, valid_parts, valid_objects, valid_names, valid_range, valid_list, tied, differing, in_block, fits, all_below}

-- an operation's own fields are valid, and fit n and b
pub record Recordable (n b : ℕ) (o : Operation) : Type 0 where
  pub good : valid_parts (map_of o) (parts o) ≡ true
  pub within : (q p : ℕ) → fits n b (record_of q p o) ≡ true

pub head-good : (q p : ℕ) → 1 ≤ q → q < 4294967295 → p < 32 → valid_head q p ≡ true
unfolding valid_head
head-good q p a b c = rw (le-leb 1 q a, le-leb q 4294967294 (omega arith), leb-zero p, le-leb p 31 (omega arith))

pub record-good : (q p : ℕ) (o : Operation) → 1 ≤ q → q < 4294967295 → p < 32 → valid_parts (map_of o) (parts o) ≡ true → valid (record_of q p o) ≡ true
unfolding valid
record-good q p o a b c h = rw (head-good q p a b c) h

-- kinds 1 to 3: an object, its parent and its name
pub record EntryFields (n o d : ℕ) (name : List ℕ) : Type 0 where
  pub low : 1 ≤ o
  pub object : o < n
  pub parent : d < n
  pub text : valid_name name ≡ true

module _ (n b : ℕ) (small : n ≤ 256) where
  entry-parts : (o d : ℕ) (name : List ℕ) → EntryFields n o d name → valid_parts (map_of (create_file o d name)) (parts (create_file o d name)) ≡ true
  unfolding valid_parts valid_objects valid_names valid_range tied differing in_block
  entry-parts o d name f = rw (le-leb 1 o f.low, le-leb o 255 (omega (arith, f.object)), leb-zero d, le-leb d 255 (omega (arith, f.parent)), f.text)

  entry-fits : (o d : ℕ) → o < n → d < n → all_below n (o ∷ d ∷ []) && leb (0 + 0) (1024 * b) ≡ true
  unfolding all_below
  entry-fits o d h k = rw (lt-ltb o n h, lt-ltb d n k, leb-zero (1024 * b))

  pub create-recordable : (o d : ℕ) (name : List ℕ) → EntryFields n o d name → Recordable n b (create_file o d name)
  unfolding fits operands
  create-recordable o d name f = record { good = entry-parts o d name f; within = λ q p. entry-fits o d f.object f.parent }

  pub make-recordable : (o d : ℕ) (name : List ℕ) → EntryFields n o d name → Recordable n b (make_directory o d name)
  unfolding fits operands
  make-recordable o d name f = record { good = entry-parts o d name f; within = λ q p. entry-fits o d f.object f.parent }

  pub remove-recordable : (o d : ℕ) (name : List ℕ) → EntryFields n o d name → Recordable n b (remove o d name)
  unfolding fits operands
  remove-recordable o d name f = record { good = entry-parts o d name f; within = λ q p. entry-fits o d f.object f.parent }

  -- kind 4, with nothing displaced and with a displaced object
  pub rename-recordable : (o d e : ℕ) (name second : List ℕ) → EntryFields n o d name → e < n → valid_name second ≡ true → Recordable n b (rename o d e None name second)
  unfolding fits operands valid_parts valid_objects valid_names valid_range tied differing in_block all_below
  rename-recordable o d e name second f h k =
      record {
        good = rw (le-leb 1 o f.low, le-leb o 255 (omega (arith, f.object)), leb-zero d, le-leb d 255 (omega (arith, f.parent)), leb-zero e, le-leb e 255 (omega arith), f.text, k);
        within = λ q p. rw (lt-ltb o n f.object, lt-ltb d n f.parent, lt-ltb e n h, leb-zero (1024 * b));
      }

  pub replace-recordable : (o d e t : ℕ) (name second : List ℕ) → EntryFields n o d name → e < n → valid_name second ≡ true → 1 ≤ t → t < n → (o ≡ t → ⊥)
      → Recordable n b (rename o d e (Some t) name second)
  unfolding fits operands valid_parts valid_objects valid_names valid_range tied differing in_block all_below
  replace-recordable o d e t name second f h k low below other =
      record {
        good =
            rw (
              le-leb 1 o f.low,
              le-leb o 255 (omega (arith, f.object)),
              leb-zero d,
              le-leb d 255 (omega (arith, f.parent)),
              leb-zero e,
              le-leb e 255 (omega arith),
              le-leb 1 t low,
              le-leb t 255 (omega arith),
              f.text,
              k,
              ne_eqb o t other,
            );
        within = λ q p. rw (lt-ltb o n f.object, lt-ltb d n f.parent, lt-ltb e n h, lt-ltb t n below, leb-zero (1024 * b));
      }

  -- kinds 5 and 6: data of 1..1,024 bytes in one block
  pub record RangeFields (o f : ℕ) (s : List ℕ) : Type 0 where
    pub low : 1 ≤ o
    pub object : o < n
    pub some : 1 ≤ length s
    pub one_block : f % 1024 + length s ≤ 1024
    pub within : f + length s ≤ 1024 * b

  range-parts : b ≤ 64 → (o f : ℕ) (s : List ℕ) → RangeFields o f s → valid_parts (map_of (overwrite o f s)) (parts (overwrite o f s)) ≡ true
  unfolding valid_parts valid_objects valid_names valid_range tied differing in_block
  range-parts few o f s r =
      rw (
        le-leb 1 o r.low,
        le-leb o 255 (omega (arith, r.object)),
        le-leb 1 (length s) r.some,
        le-leb (length s) 1024 (omega (arith, r.one_block)),
        le-leb (f % 1024 + length s) 1024 r.one_block,
        le-leb (f + length s) 65536 (omega (arith, r.within)),
      )

  range-fits : (o k : ℕ) → o < n → k ≤ 1024 * b → all_below n (o ∷ []) && leb k (1024 * b) ≡ true
  unfolding all_below
  range-fits o k h e = rw (lt-ltb o n h, le-leb k (1024 * b) e)

  pub overwrite-recordable : b ≤ 64 → (o f : ℕ) (s : List ℕ) → RangeFields o f s → Recordable n b (overwrite o f s)
  unfolding fits operands
  overwrite-recordable few o f s r = record { good = range-parts few o f s r; within = λ q p. range-fits o (f + length s) r.object r.within }

  pub append-recordable : b ≤ 64 → (o f : ℕ) (s : List ℕ) → RangeFields o f s → Recordable n b (append o f s)
  unfolding fits operands
  append-recordable few o f s r = record { good = range-parts few o f s r; within = λ q p. range-fits o (f + length s) r.object r.within }

  -- kind 7
  pub length-recordable : b ≤ 64 → (o f : ℕ) → 1 ≤ o → o < n → f ≤ 1024 * b → Recordable n b (set_length o f)
  unfolding fits operands valid_parts valid_objects valid_names valid_range tied differing in_block
  length-recordable few o f low h k =
      record {
        good = rw (le-leb 1 o low, le-leb o 255 (omega arith), le-leb (f % 1024 + 0) 1024 (omega arith), le-leb (f + 0) 65536 (omega arith));
        within = λ q p. range-fits o (f + 0) h (omega arith);
      }

  -- kind 8
  pub forder-recordable : (l : List ℕ) → valid_list l ≡ true → all_below n l ≡ true → Recordable n b (forder l)
  unfolding fits operands valid_parts valid_objects valid_names valid_range tied differing in_block
  forder-recordable l h k = record { good = rw h; within = λ q p. rw (k, leb-zero (1024 * b)) }
