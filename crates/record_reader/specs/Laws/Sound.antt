-- What the reader accepts is the bytes of a valid record: field by field, then the whole.
use Rattle.buffer.specs.declared.span.Span.{Span}
use Rattle.std.specs.Prelude.{ℕ, ◌+◌, ◌/◌, ◌≤◌, ◌≡◌, Bool, List, [], ◌++◌, take, drop, Option, None, Some}
use native.Mathlib.Omega.{arith}
use Rattle.std.proofs.Math.Path.{refl, subst}
use Rattle.std.proofs.Common.{sym, ap, ◌∙◌, length-drop, length-take-le}
use Rattle.std.proofs.Math.Bool.{true, false, cond}
use Rattle.std.proofs.Math.ListN.{length}
use Rattle.names.specs.Name.{valid_name}
use Rattle.record_reader.specs.declared.Place.{Place}
use Rattle.buffer.specs.Numeral.{bytes, numeral, Bytes}
use Rattle.buffer.specs.Laws.Numeral.{bytes-numeral, bytes-part}
use Rattle.record.specs.Fields.{field, pairs, if_stands, between, valid_list, objects_of, number_if}
use Rattle.record_reader.specs.Code.Reader.{with_next, place, number_at, part_at, object_at, offset_at, name_at, block_at, list_at, on_number, part_if}
use Rattle.buffer.specs.Code.Span.{span, stretch}
use Rattle.record_reader.specs.Laws.Reader.{same-next, same-part, number-inv, part-inv}
use Rattle.record.proofs.Laws.List.{count-objects, pairs-objects}
use Rattle.buffer.specs.Laws.Span.{Spans, spans-none, spans-append, spans-taken}
use Rattle.record_reader.specs.Answer.{span_if}

-- an impossible answer
no_number : {v : ℕ} {p : Place} {A : Type 0} → None ≡ with_next v p → A
no_number e = let z : ◌≡◌ {A = ℕ} 0 1 = cc in absurd (omega arith)

no_part : {a k : ℕ} {p : Place} {A : Type 0} → None ≡ with_next (span a k) p → A
no_part e = let z : ◌≡◌ {A = ℕ} 0 1 = cc in absurd (omega arith)

module _ (s : List ℕ) (byte : Bytes s) where
  pub number-sound : (w at v : ℕ) (p : Place) → number_at w s at ≡ with_next v p → Spans s at (bytes w v) p.at
  number-sound w at v p e =
      let i = number-inv w s at v p e in
      let h : w ≤ length (drop at s) = rw (length-drop at s) i.left in
      let l : length (take w (drop at s)) ≡ w = length-take-le w (drop at s) h in
      let b : bytes w v ≡ take w (drop at s) = rw i.value (ap (λ (k : ℕ). bytes k (numeral (take w (drop at s)))) (sym l) ∙ bytes-numeral (take w (drop at s)) (bytes-part s w at byte)) in
      let n : p.at ≡ at + w = ap (λ (q : Place). q.at) i.next in
      rw (b, n) (spans-taken s at w h l)

  -- a field that is a number: its bytes, its limits, and 0 where it is absent
  pub record NumberRead (b : Bool) (w : ℕ) (ok : Bool) (at v : ℕ) (p : Place) : Type 0 where
    pub spans : Spans s at (field b (bytes w v)) p.at
    pub good : if_stands b ok ≡ true
    pub kept : number_if b v ≡ v

  absent-number : (w : ℕ) (ok : Bool) (at v : ℕ) (p : Place) → (with_next 0 (place at)) ≡ with_next v p → NumberRead false w ok at v p
  absent-number w ok at v p e =
      let h = same-next e in
      let z : 0 ≡ v = h.0 in
      let q : place at ≡ p = h.1 in
      record { spans = subst (λ (x : Place). Spans s at [] x.at) q (spans-none s at); good = refl; kept = z }

  pub object-sound : (b : Bool) (least at v : ℕ) (p : Place) → object_at b least s at ≡ with_next v p → NumberRead b 2 (between least 255 v) at v p
  unfolding object_at
  object-sound false least at v p e = absent-number 2 (between least 255 v) at v p e
  object-sound true least at v p e = go (number_at 2 s at) refl e
    where
      sub : (u : ℕ) (q : Place) → number_at 2 s at ≡ with_next u q → (t : Bool) → between least 255 u ≡ t → cond t (with_next u q) None ≡ with_next v p → NumberRead true 2 (between least 255 v) at v p
      sub u q n true t l =
          let h = same-next l in
          let a : u ≡ v = h.0 in
          let c : q ≡ p = h.1 in
          record {
            spans = subst (λ (x : Place). Spans s at (bytes 2 v) x.at) c (subst (λ (x : ℕ). Spans s at (bytes 2 x) q.at) a (number-sound 2 at u q n));
            good = subst (λ (x : ℕ). between least 255 x ≡ true) a t;
            kept = refl;
          }
      sub u q n false t l = no_number l

      go : (f : Option (ℕ × Place)) → number_at 2 s at ≡ f → on_number f None (λ u q. cond (between least 255 u) (with_next u q) None) ≡ with_next v p → NumberRead true 2 (between least 255 v) at v p
      go None n k = no_number k
      go (Some (u, q)) n k = sub u q n (between least 255 u) refl k

  pub offset-sound : (b : Bool) (at v : ℕ) (p : Place) → offset_at b s at ≡ with_next v p → NumberRead b 4 true at v p
  unfolding offset_at
  offset-sound false at v p e = absent-number 4 true at v p e
  offset-sound true at v p e = record { spans = number-sound 4 at v p e; good = refl; kept = refl }

  part_sound : (n at start k : ℕ) (p : Place) → part_at n s at ≡ with_next (span start k) p → Spans s at (stretch s (span start k)) p.at
  part_sound n at start k p e =
      let i = part-inv n s at start k p e in
      let h : n ≤ length (drop at s) = rw (length-drop at s) i.left in
      let l : length (take n (drop at s)) ≡ n = length-take-le n (drop at s) h in
      rw (i.starts, i.long, i.next) (spans-taken s at n h l)

  part-long : (n at start k : ℕ) (p : Place) → part_at n s at ≡ with_next (span start k) p → length (stretch s (span start k)) ≡ n
  part-long n at start k p e =
      let i = part-inv n s at start k p e in
      let h : n ≤ length (drop at s) = rw (length-drop at s) i.left in
      rw (i.starts, i.long) (length-take-le n (drop at s) h)

  -- a field that is a stretch behind its length or count: its bytes, its limits, and where it lies
  pub record StretchRead (b : Bool) (front : List ℕ → List ℕ) (ok : List ℕ → Bool) (w at start k : ℕ) (p : Place) : Type 0 where
    pub spans : Spans s at (field b (front (stretch s (span start k)) ++ stretch s (span start k))) p.at
    pub good : if_stands b (ok (stretch s (span start k))) ≡ true
    pub lies : span_if b (at + w) (length (stretch s (span start k))) ≡ span start k

  absent-stretch : (front : List ℕ → List ℕ) (ok : List ℕ → Bool) (w at start k : ℕ) (p : Place) → (with_next (span 0 0) (place at)) ≡ with_next (span start k) p → StretchRead false front ok w at start k p
  absent-stretch front ok w at start k p e =
      let h = same-part e in
      let a : 0 ≡ start = h.0 in
      let c : 0 ≡ k = h.1 in
      let q : place at ≡ p = h.2 in
      record { spans = subst (λ (x : Place). Spans s at [] x.at) q (spans-none s at); good = refl; lies = (λ i. span (a i) (c i)) }

  -- a number and the stretch of n bytes behind it
  behind : (w at v : ℕ) (q : Place) (n start k : ℕ) (p : Place) → number_at w s at ≡ with_next v q → part_at n s q.at ≡ with_next (span start k) p
      → Spans s at (bytes w v ++ stretch s (span start k)) p.at
  behind w at v q n start k p e f = spans-append s at q.at p.at (bytes w v) (stretch s (span start k)) (number-sound w at v q e) (part_sound n q.at start k p f)

  lies-behind : (w at v : ℕ) (q : Place) (n start k : ℕ) (p : Place) → number_at w s at ≡ with_next v q → part_at n s q.at ≡ with_next (span start k) p
      → span (at + w) (length (stretch s (span start k))) ≡ span start k
  lies-behind w at v q n start k p e f =
      let i = number-inv w s at v q e in
      let j = part-inv n s q.at start k p f in
      let a : at + w ≡ start = sym (j.starts ∙ ap (λ (x : Place). x.at) i.next) in
      let c : length (stretch s (span start k)) ≡ k = part-long n q.at start k p f ∙ sym j.long in
      λ x. span (a x) (c x)

  -- a number v, then a stretch of size v that passes a test
  record TestedRead (ok : List ℕ → Bool) (w : ℕ) (size : ℕ → ℕ) (at start k : ℕ) (p : Place) : Type 0 where
    count : ℕ
    spans : Spans s at (bytes w count ++ stretch s (span start k)) p.at
    long : length (stretch s (span start k)) ≡ size count
    good : ok (stretch s (span start k)) ≡ true
    lies : span (at + w) (length (stretch s (span start k))) ≡ span start k

  tested-sound : (ok : List ℕ → Bool) (w : ℕ) (size : ℕ → ℕ) (at start k : ℕ) (p : Place)
      → on_number (number_at w s at) None (λ n q. part_if (λ a j. ok (take j (drop a s))) (part_at (size n) s q.at)) ≡ with_next (span start k) p → TestedRead ok w size at start k p
  tested-sound ok w size at start k p e = go (number_at w s at) refl e
    where
      fine : (v : ℕ) (q : Place) → number_at w s at ≡ with_next v q → (a j : ℕ) (x : Place) → part_at (size v) s q.at ≡ with_next (span a j) x
          → (t : Bool) → ok (stretch s (span a j)) ≡ t → cond t (with_next (span a j) x) None ≡ with_next (span start k) p → TestedRead ok w size at start k p
      fine v q n a j x m false t l = no_part l
      fine v q n a j x m true t l =
          let h = same-part l in
          let e₁ : a ≡ start = h.0 in
          let e₂ : j ≡ k = h.1 in
          let e₃ : x ≡ p = h.2 in
          let r : TestedRead ok w size at a j x =
          record {
            count = v;
            spans = behind w at v q (size v) a j x n m;
            long = part-long (size v) q.at a j x m;
            good = t;
            lies = lies-behind w at v q (size v) a j x n m;
          } in
          subst (λ (y : Place). TestedRead ok w size at start k y) e₃
          (subst (λ (y : ℕ). TestedRead ok w size at start y x) e₂ (subst (λ (y : ℕ). TestedRead ok w size at y j x) e₁ r))

      part : (v : ℕ) (q : Place) → number_at w s at ≡ with_next v q → (f : Option (Span × Place)) → part_at (size v) s q.at ≡ f
          → part_if (λ a j. ok (take j (drop a s))) f ≡ with_next (span start k) p → TestedRead ok w size at start k p
      part v q n None m l = no_part l
      part v q n (Some (t, x)) m l = fine v q n t.start t.len x m (ok (stretch s t)) refl l

      go : (f : Option (ℕ × Place)) → number_at w s at ≡ f → on_number f None (λ n q. part_if (λ a j. ok (take j (drop a s))) (part_at (size n) s q.at)) ≡ with_next (span start k) p → TestedRead ok w size at start k p
      go None n l = no_part l
      go (Some (v, q)) n l = part v q n (part_at (size v) s q.at) refl l

  pub name-sound : (b : Bool) (at start k : ℕ) (p : Place) → name_at b s at ≡ with_next (span start k) p → StretchRead b (λ t. bytes 1 (length t)) valid_name 1 at start k p
  unfolding name_at
  name-sound false at start k p e = absent-stretch (λ t. bytes 1 (length t)) valid_name 1 at start k p e
  name-sound true at start k p e =
      let r = tested-sound valid_name 1 (λ n. n) at start k p e in
      record { spans = rw r.long r.spans; good = r.good; lies = r.lies }

  pub list-sound : (b : Bool) (at start k : ℕ) (p : Place) → list_at b s at ≡ with_next (span start k) p
      → StretchRead b (λ t. bytes 1 (length (objects_of t))) (λ t. valid_list (objects_of t)) 1 at start k p
  unfolding list_at
  list-sound false at start k p e = absent-stretch (λ t. bytes 1 (length (objects_of t))) (λ t. valid_list (objects_of t)) 1 at start k p e
  list-sound true at start k p e =
      let r = tested-sound (λ t. valid_list (objects_of t)) 1 (λ n. n + n) at start k p e in
      let c : length (objects_of (stretch s (span start k))) ≡ r.count = count-objects (stretch s (span start k)) ∙ half r.count r.long in
      record { spans = rw c r.spans; good = r.good; lies = r.lies }
    where
      half : (n : ℕ) → length (stretch s (span start k)) ≡ n + n → length (stretch s (span start k)) / 2 ≡ n
      half n h = omega arith

  -- the list of a stretch that was read is the stretch again, 2 bytes each
  pub list-pairs : (b : Bool) (at start k : ℕ) (p : Place) → list_at b s at ≡ with_next (span start k) p → pairs (objects_of (stretch s (span start k))) ≡ stretch s (span start k)
  unfolding list_at pairs objects_of
  list-pairs false at start k p e =
      let c : k ≡ 0 = sym (same-part e).1 in
      rw c
  list-pairs true at start k p e =
      let r = tested-sound (λ t. valid_list (objects_of t)) 1 (λ n. n + n) at start k p e in
      pairs-objects (stretch s (span start k)) r.count (bytes-part s k start byte) r.long

  pub block-sound : (b : Bool) (at start k : ℕ) (p : Place) → block_at b s at ≡ with_next (span start k) p
      → StretchRead b (λ t. bytes 2 (length t)) (λ t. between 1 1024 (length t)) 2 at start k p
  unfolding block_at
  block-sound false at start k p e = absent-stretch (λ t. bytes 2 (length t)) (λ t. between 1 1024 (length t)) 2 at start k p e
  block-sound true at start k p e = go (number_at 2 s at) refl e
    where
      Goal : Type 0
      Goal = StretchRead true (λ t. bytes 2 (length t)) (λ t. between 1 1024 (length t)) 2 at start k p

      sub : (v : ℕ) (q : Place) → number_at 2 s at ≡ with_next v q → (t : Bool) → between 1 1024 v ≡ t → cond t (part_at v s q.at) None ≡ with_next (span start k) p → Goal
      sub v q n false t l = no_part l
      sub v q n true t l =
          let c : length (stretch s (span start k)) ≡ v = part-long v q.at start k p l in
          record { spans = rw c (behind 2 at v q v start k p n l); good = rw c t; lies = lies-behind 2 at v q v start k p n l }

      go : (f : Option (ℕ × Place)) → number_at 2 s at ≡ f → on_number f None (λ n q. cond (between 1 1024 n) (part_at n s q.at) None) ≡ with_next (span start k) p → Goal
      go None n l = no_part l
      go (Some (v, q)) n l = sub v q n (between 1 1024 v) refl l
