-- Lists of objects of 2 bytes each: their count, what stands at a position, and what a loop over them may use.
use Rattle.std.specs.Prelude.{ℕ, zero, suc, ◌+◌, ◌*◌, ◌/◌, ◌%◌, ◌≤◌, ◌<◌, ◌≡◌, refl, Bool, true, false, not, ◌&&◌, List, [], ◌∷◌, length, get_or, take, drop, leb}
use Rattle.std.proofs.Common.{add-one, arith, sym, ◌∙◌, drop-cons, le-leb, eq-eqb, ne_eqb, leb-true, lt-ltb, le-ltb}
use Rattle.std.proofs.Math.Bool.{and-eq-true_iff}
use Rattle.std.proofs.Math.Seq.{drop-length}
use Rattle.std.proofs.lemmas.Bool.{lt-leb}
use Rattle.buffer.specs.Numeral.{numeral, bytes, Bytes}
use Rattle.buffer.specs.Laws.Numeral.{numeral-two, two_bytes}
use Rattle.record.specs.Fields.{all_below, member, different, all_up_to, valid_list, pairs, objects_of}

pub count-objects : (s : List ℕ) → length (objects_of s) ≡ length s / 2
unfolding objects_of
count-objects [] = refl
count-objects (a ∷ []) = refl
count-objects (a ∷ b ∷ s) = let e = count-objects s in omega arith

objects-at : (s : List ℕ) (i : ℕ) → i + i + 2 ≤ length s → get_or (objects_of s) i 0 ≡ get_or s (i + i) 0 + 256 * get_or s (i + i + 1) 0
unfolding objects_of
objects-at [] i h = absurd (omega arith)
objects-at (a ∷ []) i h = absurd (omega arith)
objects-at (a ∷ b ∷ s) zero h = refl
objects-at (a ∷ b ∷ s) (suc i) h =
    let e : suc i + suc i ≡ suc (suc (i + i)) = omega arith in
    let f : suc i + suc i + 1 ≡ suc (suc (i + i + 1)) = omega arith in
    rw (f, e) (objects-at s i (omega arith))

-- the object at a position is the number of the two bytes there
pub object-at : (s : List ℕ) (i : ℕ) → i + i + 2 ≤ length s → numeral (take 2 (drop (i + i) s)) ≡ get_or (objects_of s) i 0
object-at s i h = numeral-two s (i + i) h ∙ sym (objects-at s i h)

-- one step of a search
pub member-here : (o : ℕ) (l : List ℕ) (i : ℕ) → i < length l → get_or l i 0 ≡ o → member o (drop i l) ≡ true
unfolding member
member-here o l i h e = rw (drop-cons l i 0 h, eq-eqb _ _ (sym e))

pub member-on : (o : ℕ) (l : List ℕ) (i : ℕ) → i < length l → (get_or l i 0 ≡ o → ⊥) → member o (drop i l) ≡ member o (drop (i + 1) l)
unfolding member
member-on o l i h n = rw (drop-cons l i 0 h, add-one, ne_eqb o (get_or l i 0) (λ e. n (sym e)))

pub member-end : (o : ℕ) (l : List ℕ) (i : ℕ) → i ≡ length l → member o (drop i l) ≡ false
unfolding member
member-end o l i e = rw (e, drop-length l)

-- what is asked of each object of a list, from a position on
unfoldable pub good_from : List ℕ → Bool
good_from l = all_up_to 255 l && different l

pub good-high : (l : List ℕ) (i : ℕ) → i < length l → 255 < get_or l i 0 → good_from (drop i l) ≡ false
unfolding good_from all_up_to
good-high l i h k = rw (drop-cons l i 0 h, lt-leb _ _ k)

and-false-right : (a b c : Bool) → c ≡ true → a && (not c && b) ≡ false
and-false-right true b c e = rw e
and-false-right false b c e = refl

pub good-twice : (l : List ℕ) (i : ℕ) → i < length l → member (get_or l i 0) (drop (i + 1) l) ≡ true → good_from (drop i l) ≡ false
unfolding good_from different
good-twice l i h k =
    rw (drop-cons l i 0 h)
    (and-false-right (all_up_to 255 (get_or l i 0 ∷ drop (suc i) l)) (different (drop (suc i) l)) (member (get_or l i 0) (drop (suc i) l)) (rw add-one at k))

pub good-on : (l : List ℕ) (i : ℕ) → i < length l → get_or l i 0 ≤ 255 → member (get_or l i 0) (drop (i + 1) l) ≡ false → good_from (drop i l) ≡ good_from (drop (i + 1) l)
unfolding good_from all_up_to different
good-on l i h k m = rw (drop-cons l i 0 h, le-leb _ _ k, add-one) (rw (rw add-one at m))

pub good-end : (l : List ℕ) (i : ℕ) → i ≡ length l → good_from (drop i l) ≡ true
unfolding good_from all_up_to different
good-end l i e = rw (e, drop-length l)

-- a list is valid by its count and what is asked of each object
pub valid-few : (l : List ℕ) → length l < 1 → valid_list l ≡ false
unfolding valid_list
valid-few l h = rw (lt-leb 1 (length l) h)

pub valid-many : (l : List ℕ) → 8 < length l → valid_list l ≡ false
unfolding valid_list
valid-many l h = rw (le-leb 1 (length l) (omega arith), lt-leb (length l) 8 h)

pub valid-by-each : (l : List ℕ) → 1 ≤ length l → length l ≤ 8 → valid_list l ≡ good_from l
unfolding valid_list good_from
valid-by-each l h k = rw (le-leb 1 (length l) h, le-leb (length l) 8 k)

-- a list of bytes of even length is the 2 bytes each of its objects
pub pairs-objects : (s : List ℕ) (n : ℕ) → Bytes s → length s ≡ n + n → pairs (objects_of s) ≡ s
unfolding pairs objects_of
pairs-objects [] n byte e = refl
pairs-objects (a ∷ []) n byte e = absurd (odd n e)
  where
    odd : (k : ℕ) → 1 ≡ k + k → ⊥
    odd k h = omega arith
pairs-objects (a ∷ b ∷ s) zero byte e = absurd (omega arith)
pairs-objects (a ∷ b ∷ s) (suc n) byte e =
    let ih : pairs (objects_of s) ≡ s = pairs-objects s n (λ i. byte (suc (suc i))) (omega arith) in
    let two : bytes 2 (a + 256 * b) ≡ a ∷ b ∷ [] = two_bytes a b (byte 0) (byte 1) in
    rw (two, ih)

-- the objects of a list's 2 bytes each are the list
pub objects-pairs : (l : List ℕ) → all_up_to 255 l ≡ true → objects_of (pairs l) ≡ l
unfolding pairs objects_of all_up_to bytes
objects-pairs [] h = refl
objects-pairs (o ∷ l) h =
    let k = (and-eq-true_iff (leb o 255) (all_up_to 255 l)).0 h in
    let b : o ≤ 255 = leb-true o 255 k.0 in
    let e : o % 256 + 256 * (o / 256 % 256) ≡ o = omega arith in
    rw (e, objects-pairs l k.1)

-- a list takes 2 bytes an object
pub length_pairs : (l : List ℕ) → length l + length l ≡ length (pairs l)
unfolding pairs bytes
length_pairs [] = refl
length_pairs (o ∷ l) = let k = length_pairs l in omega arith

-- one step of a test of every object of a list
pub below_on : (n : ℕ) (l : List ℕ) (i : ℕ) → i < length l → get_or l i 0 < n → all_below n (drop i l) ≡ all_below n (drop (i + 1) l)
unfolding all_below
below_on n l i h k = rw (drop-cons l i 0 h, add-one, lt-ltb _ _ k)

pub below-not : (n : ℕ) (l : List ℕ) (i : ℕ) → i < length l → n ≤ get_or l i 0 → all_below n (drop i l) ≡ false
unfolding all_below
below-not n l i h k = rw (drop-cons l i 0 h, le-ltb _ _ k)

pub below_end : (n : ℕ) (l : List ℕ) (i : ℕ) → i ≡ length l → all_below n (drop i l) ≡ true
unfolding all_below
below_end n l i e = rw (e, drop-length l)
