-- What the reader gives at a place, said of the buffer's bytes.
use Rattle.buffer.specs.Code.Span.{span}
use Rattle.buffer.specs.declared.span.Span.{Span}
use Rattle.std.proofs.lemmas.Option.{some_pair_parts}
use Rattle.std.specs.Prelude.{ℕ, ◌+◌, ◌-◌, ◌^◌, ◌≤◌, ◌<◌, ◌≡◌, refl, Bool, true, false, ◌&&◌, cond, List, length, take, drop, leb, None, Some}
use Rattle.std.proofs.Common.{arith, sym, ap, length-take, length-drop, le-leb, leb-true}
use Rattle.std.proofs.lemmas.Bool.{lt-leb}
use Rattle.record_reader.specs.declared.Place.{Place}
use Rattle.buffer.specs.Numeral.{numeral, Bytes}
use Rattle.buffer.specs.Laws.Numeral.{numeral-below, bytes-part}
use Rattle.record_reader.specs.Code.Reader.{with_next, place, number_at, part_at}

-- too few bytes are left
pub number_short : (w : ℕ) (s : List ℕ) (at : ℕ) → length s - at < w → number_at w s at ≡ None
unfolding number_at
number_short w s at h = rw (lt-leb w (length s - at) h)

-- enough are left
pub number-there : (w : ℕ) (s : List ℕ) (at v : ℕ) → w ≤ length s - at → numeral (take w (drop at s)) ≡ v → number_at w s at ≡ with_next v (place (at + w))
unfolding number_at
number-there w s at v h e = rw (le-leb w (length s - at) h, e)

pub part-past : (n : ℕ) (s : List ℕ) (at : ℕ) → length s < at → part_at n s at ≡ None
unfolding part_at
part-past n s at h = rw (lt-leb at (length s) h)

pub part-short : (n : ℕ) (s : List ℕ) (at : ℕ) → at ≤ length s → length s - at < n → part_at n s at ≡ None
unfolding part_at
part-short n s at h k = rw (le-leb at (length s) h, lt-leb n (length s - at) k)

pub part-there : (n : ℕ) (s : List ℕ) (at : ℕ) → at ≤ length s → n ≤ length s - at → part_at n s at ≡ with_next (span at n) (place (at + n))
unfolding part_at
part-there n s at h k = rw (le-leb at (length s) h, le-leb n (length s - at) k)

-- What was read and the place after it are told apart.
pub same-next : {A : Type 0} {x y : A} {p q : Place} → with_next x p ≡ with_next y q → (x ≡ y) × (p ≡ q)
same-next {A} {x} {y} {p} {q} e = some_pair_parts x y p q e

pub same-part : {a k b j : ℕ} {p q : Place} → with_next (span a k) p ≡ with_next (span b j) q → (a ≡ b) × (k ≡ j) × (p ≡ q)
same-part e = let h = same-next e in (ap (λ (x : Span). x.start) h.0, ap (λ (x : Span). x.len) h.0, h.1)

-- a number was there: what it is, and where the next place lies
pub record Numbered (w : ℕ) (s : List ℕ) (at v : ℕ) (p : Place) : Type 0 where
  pub left : w ≤ length s - at
  pub value : v ≡ numeral (take w (drop at s))
  pub next : p ≡ place (at + w)

pub number-inv : (w : ℕ) (s : List ℕ) (at v : ℕ) (p : Place) → number_at w s at ≡ with_next v p → Numbered w s at v p
unfolding number_at
number-inv w s at v p e = go (leb w (length s - at)) refl e
  where
    go : (b : Bool) → leb w (length s - at) ≡ b → cond b (with_next (numeral (take w (drop at s))) (place (at + w))) None ≡ with_next v p → Numbered w s at v p
    go true t e = let h = same-next e in record { left = leb-true _ _ t; value = sym h.0; next = sym h.1 }
    go false t e = let z : ◌≡◌ {A = ℕ} 0 1 = cc in absurd (omega arith)

pub record Parted (n : ℕ) (s : List ℕ) (at start k : ℕ) (p : Place) : Type 0 where
  pub within : at ≤ length s
  pub left : n ≤ length s - at
  pub starts : start ≡ at
  pub long : k ≡ n
  pub next : p ≡ place (at + n)

pub part-inv : (n : ℕ) (s : List ℕ) (at start k : ℕ) (p : Place) → part_at n s at ≡ with_next (span start k) p → Parted n s at start k p
unfolding part_at
part-inv n s at start k p e = go (leb at (length s)) (leb n (length s - at)) refl refl e
  where
    go : (a b : Bool) → leb at (length s) ≡ a → leb n (length s - at) ≡ b → cond (a && b) (with_next (span at n) (place (at + n))) None ≡ with_next (span start k) p → Parted n s at start k p
    go true true t u e =
        let h = same-part e in
        record { within = leb-true _ _ t; left = leb-true _ _ u; starts = sym h.0; long = sym h.1; next = sym h.2 }
    go true false t u e = let z : ◌≡◌ {A = ℕ} 0 1 = cc in absurd (omega arith)
    go false b t u e = let z : ◌≡◌ {A = ℕ} 0 1 = cc in absurd (omega arith)

-- a number that was read fits its bytes
pub number-below : (w : ℕ) (s : List ℕ) (at v : ℕ) (p : Place) → Bytes s → number_at w s at ≡ with_next v p → v < 256 ^ w
number-below w s at v p h e =
    let i = number-inv w s at v p e in
    let k = numeral-below (take w (drop at s)) (bytes-part s w at h) in
    let l : length (take w (drop at s)) ≡ w = rw (length-take w (drop at s), length-drop at s) (omega (arith, i.left)) in
    rw i.value (rw l at k)
