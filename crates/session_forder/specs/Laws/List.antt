-- A list of objects as forder asks of it: what the shared tests of a list say of a bad one, and the search for a free entry.
-- Assumes nothing.
use Prim.Native.Nat.{ℕ, ◌+◌, ◌%◌, ◌≤◌, ◌<◌}
use Rattle.std.proofs.Math.Numerals.{add-one}
use native.Mathlib.Omega.{arith}
use Rattle.std.specs.Prelude.{◌≡◌, Bool, ◌&&◌, ◌||◌, get_or, drop, eqb}
use Rattle.std.proofs.Math.Path.{refl, ap}
use Rattle.std.proofs.Common.{sym, ◌∙◌, drop-cons}
use mathlib.Core.List.{List, [], ◌∷◌}
use Rattle.std.proofs.Math.Bool.{true, false, not, cond, and-eq-true_iff}
use Rattle.std.proofs.lemmas.Bool.{false≢true}
use Rattle.std.proofs.Math.ListN.{length, get_or-eq_default}
use Rattle.std.proofs.Math.Seq.{drop-length}
use Rattle.std.proofs.Math.Dec.{leb, ltb}
use borrow.Author.Tests.{leb-true, leb-false, ltb-true, le-leb, lt-ltb, le-ltb, eq-eqb, ne_eqb, eqb-false}
use Rattle.buffer.specs.Laws.Test.{or_left, or_right}
use Rattle.returned.specs.Returned
use Rattle.record.specs.Fields.{valid_list, different, all_up_to, all_below, objects_of}
use Rattle.record.proofs.Laws.List.{count-objects}
use Rattle.volume_entry.specs.Entry.{Entry, free, is_used}
use Rattle.volume_tree.specs.Volume.{Volume}
use Rattle.log_rules.specs.Order.{any}
use Rattle.session.specs.Model.{outside, is_free}
use Rattle.session.specs.Edit.{bad_list, forder_rows}
use Rattle.session.specs.Code.Table.{first_number}
use Rattle.session.proofs.Laws.Refusal.{neither}

-- past the end of a volume nothing is used
pub past-free : (v : Volume) (o : ℕ) → length v ≤ o → is_free v o ≡ true
past-free v o h = ap (λ (e : Entry). not (is_used e)) (get_or-eq_default v free h)

-- one step of a search for an object that passes a test
module _ (f : ℕ → Bool) (l : List ℕ) (i : ℕ) where
  pub any_here : i < length l → f (get_or l i 0) ≡ true → any f (drop i l) ≡ true
  unfolding any
  any_here h e = rw (drop-cons l i 0 h, e)

  pub any-on : i < length l → f (get_or l i 0) ≡ false → any f (drop i l) ≡ any f (drop (i + 1) l)
  unfolding any
  any-on h e = rw (drop-cons l i 0 h, add-one, e)

  pub any-end : i ≡ length l → any f (drop i l) ≡ false
  unfolding any
  any-end e = rw (e, drop-length l)

module _ (v : Volume) where
  -- An object outside is one that is not below n.
  outside-some : (l : List ℕ) → any (outside v) l ≡ not (all_below (length v) l)
  unfolding any all_below
  outside-some [] = refl
  outside-some (o ∷ l) = go (ltb o (length v)) (outside-some l)
    where
      go : (t : Bool) → any (outside v) l ≡ not (all_below (length v) l) → not t || any (outside v) l ≡ not (t && all_below (length v) l)
      go true e = e
      go false e = refl

  -- Each below n is at most 255.
  below-small : length v ≤ 256 → (l : List ℕ) → all_below (length v) l ≡ true → all_up_to 255 l ≡ true
  unfolding all_up_to all_below
  below-small few [] h = refl
  below-small few (o ∷ l) h =
      let a = (and-eq-true_iff (ltb o (length v)) (all_below (length v) l)).0 h in
      let k : o < length v = ltb-true _ _ a.0 in
      rw (le-leb o 255 (omega arith)) (below-small few l a.1)

  module _ (s : List ℕ) where
    -- A list of odd length is bad.
    pub odd-bad : (length s % 2 ≡ 0 → ⊥) → bad_list v s ≡ true
    odd-bad h =
        let e : length s % 2 ≡ 1 = omega arith in
        or_left _ _ (or_right (eqb (length s) 0) _ (or_left _ (ltb 16 (length s)) (eq-eqb (length s % 2) 1 e)))

    -- A list with an object n or more is bad.
    pub high-bad : all_below (length v) (objects_of s) ≡ false → bad_list v s ≡ true
    high-bad h =
        or_right (eqb (length s) 0 || (eqb (length s % 2) 1 || ltb 16 (length s))) _
        (or_right (not (different (objects_of s))) _ (outside-some (objects_of s) ∙ ap not h))

    -- A list with fewer than two bytes is empty or odd.
    short : length s < 2 → bad_list v s ≡ true
    short h = go (eqb (length s) 0) refl
      where
        go : (t : Bool) → eqb (length s) 0 ≡ t → bad_list v s ≡ true
        go true e = or_left _ _ (or_left _ (eqb (length s % 2) 1 || ltb 16 (length s)) e)
        go false e = let z : length s ≡ 0 → ⊥ = eqb-false (length s) 0 e in odd-bad (λ y. omega arith)

    -- A list that no record can hold is bad.
    pub invalid-bad : length v ≤ 256 → valid_list (objects_of s) ≡ false → bad_list v s ≡ true
    unfolding valid_list
    invalid-bad few h = go (leb 1 (length l)) (leb (length l) 8) (all_up_to 255 l) (different l) (all_below (length v) l) refl refl refl refl refl h
      where
        l : List ℕ
        l = objects_of s

        go : (a b c d e : Bool) → leb 1 (length l) ≡ a → leb (length l) 8 ≡ b → all_up_to 255 l ≡ c → different l ≡ d → all_below (length v) l ≡ e
            → (a && b) && (c && d) ≡ false → bad_list v s ≡ true
        go a b c d false ea eb ec ed ee z = high-bad ee
        go false b c d true ea eb ec ed ee z =
            let n = count-objects s in
            let k : length l < 1 = leb-false 1 (length l) ea in
            short (omega arith)
        go true false c d true ea eb ec ed ee z =
            let n = count-objects s in
            let k : 8 < length l = leb-false (length l) 8 eb in
            or_left _ _ (or_right (eqb (length s) 0) _ (or_right (eqb (length s % 2) 1) _ (lt-ltb 16 (length s) (omega arith))))
        go true true false d true ea eb ec ed ee z = absurd (false≢true (sym ec ∙ below-small few l ee))
        go true true true false true ea eb ec ed ee z =
            or_right (eqb (length s) 0 || (eqb (length s % 2) 1 || ltb 16 (length s))) _ (or_left _ (any (outside v) l) (ap not ed))
        go true true true true true ea eb ec ed ee z = absurd (false≢true (sym z))

    -- Any other is good.
    pub fine-list : length s % 2 ≡ 0 → valid_list (objects_of s) ≡ true → all_below (length v) (objects_of s) ≡ true → bad_list v s ≡ false
    unfolding valid_list
    fine-list h k e =
        let l = objects_of s in
        let n = count-objects s in
        let a = (and-eq-true_iff (leb 1 (length l) && leb (length l) 8) (all_up_to 255 l && different l)).0 k in
        let c = (and-eq-true_iff (leb 1 (length l)) (leb (length l) 8)).0 a.0 in
        let d = (and-eq-true_iff (all_up_to 255 l) (different l)).0 a.1 in
        let low : 1 ≤ length l = leb-true _ _ c.0 in
        let high : length l ≤ 8 = leb-true _ _ c.1 in
        rw (
          ne_eqb (length s) 0 (λ z. omega arith),
          ne_eqb (length s % 2) 1 (λ z. omega arith),
          le-ltb 16 (length s) (omega arith),
          d.1,
          outside-some l ∙ ap not e,
        )

    -- The refusals of forder: a bad list, then a free entry.
    pub list-refused : bad_list v s ≡ true → Returned.bad_number ≡ first_number (forder_rows v s)
    unfolding first_number
    list-refused h = rw h

    pub list-free : bad_list v s ≡ false → any (is_free v) (objects_of s) ≡ true → Returned.no_object ≡ first_number (forder_rows v s)
    unfolding first_number
    list-free h k = rw (h, k)

    pub list-passed : bad_list v s ≡ false → any (is_free v) (objects_of s) ≡ false → Returned.accepted ≡ first_number (forder_rows v s)
    unfolding first_number
    list-passed h k = rw (h, k)

    -- A list that is not refused is of even length.
    pub list-even : 0 ≡ first_number (forder_rows v s) → length s % 2 ≡ 0
    unfolding first_number
    list-even e = go (bad_list v s) refl e
      where
        go : (t : Bool) → bad_list v s ≡ t → 0 ≡ cond t Returned.bad_number (cond (any (is_free v) (objects_of s)) Returned.no_object 0) → length s % 2 ≡ 0
        go true z h = absurd (omega arith)
        go false z h =
            let a = neither (eqb (length s) 0 || (eqb (length s % 2) 1 || ltb 16 (length s))) (not (different (objects_of s)) || any (outside v) (objects_of s)) z in
            let b = neither (eqb (length s) 0) (eqb (length s % 2) 1 || ltb 16 (length s)) a.0 in
            let c : length s % 2 ≡ 1 → ⊥ = eqb-false _ _ (neither (eqb (length s % 2) 1) (ltb 16 (length s)) b.1).0 in
            omega arith
