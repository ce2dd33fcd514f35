-- What the reader yields when names are passed over: the limits of what was read, and the operation of the record.
use Rattle.std.specs.Prelude.{ℕ, zero, suc, ◌≤◌, ◌<◌, ◌≡◌, Bool, ◌&&◌, ◌⊎◌, length, drop, leb, Some, None, Option}
use native.Mathlib.Omega.{arith}
use Rattle.std.proofs.Math.Path.{refl, subst}
use Rattle.std.proofs.Common.{sym, ap, ◌∙◌, inl, inr, length-take, leb-true}
use Rattle.std.proofs.Math.Bool.{true, false, cond, and-eq-true_iff}
use mathlib.Core.List.{List, [], ◌∷◌, ◌++◌}
use Rattle.buffer.specs.declared.span.Span.{Span}
use Rattle.buffer.specs.Numeral.{Bytes}
use Rattle.buffer.specs.Code.Span.{span, stretch}
use Rattle.record.specs.Operation.{Operation, Record, map_of}
use Rattle.record.proofs.Laws.Operation.{one-group}
use Rattle.record.specs.Fields.{stands_in, number_if, field, if_stands, between, all_up_to, different, valid_list, valid_objects, valid_range, valid, encode, objects_of}
use Rattle.record.proofs.Laws.Record.{block-short}
use Rattle.record_reader.specs.declared.Place.{Place}
use Rattle.record_reader.specs.declared.Head.{Head}
use Rattle.record_reader.specs.declared.Objects.{Objects}
use Rattle.record_reader.specs.declared.Names.{Names}
use Rattle.record_reader.specs.declared.Range.{Range}
use Rattle.record_reader.specs.declared.Whole.{Whole}
use Rattle.record_reader.specs.Code.Reader.{with_next, place, offset_at, block_at, list_at, name_at, head_at, objects_at, names_at, range_at, tied_at, after_names, after_range, record_at}
use Rattle.record_reader.specs.Code.Found.{record_from}
use Rattle.record_reader.specs.Answer.{span_if, whole_of}
use Rattle.record_reader.specs.Laws.Reader.{same-next, number-below}
use Rattle.record_reader.specs.Laws.SoundRecord.{number-went, part-went, no-range as refused-range, objects-sound, range-sound}
use Rattle.record_reader.specs.Laws.Complete.{record-complete}
use Rattle.record_reader.specs.Laws.Exact.{record-back}
use Rattle.log_operands.specs.declared.Order.{Order}
use Rattle.log_operands.specs.Code.Ordering.{Ordering, Small}
use Rattle.log_operands.specs.Code.Reading.{read, Limited}
use Rattle.log_operands.specs.Laws.Order.{unlisted}

module _ (s : List ℕ) (m at : ℕ) where
  -- names that are absent take no bytes
  no_names : stands_in m 16 ≡ false → stands_in m 32 ≡ false → names_at m s at ≡ (with_next (record { name = span 0 0; second = span 0 0 }) (place at))
  unfolding names_at name_at
  no_names e f = rw (e, f)

  -- and so do fields 6 to 8
  no-range : stands_in m 64 ≡ false → stands_in m 128 ≡ false → stands_in m 256 ≡ false → range_at m s at ≡ (with_next (record { offset = 0; content = span 0 0; list = span 0 0 }) (place at))
  unfolding range_at offset_at block_at list_at
  no-range e f g = rw (e, f, g)

module _ (s : List ℕ) (m at : ℕ) where
  -- so fields 6 to 8 of such a map are found where names would begin, although those are passed over
  early : (n : Names) (u : Place) (g : Range) (t : Place)
      → ((stands_in m 16 ≡ false) × (stands_in m 32 ≡ false)) ⊎ ((stands_in m 64 ≡ false) × (stands_in m 128 ≡ false) × (stands_in m 256 ≡ false))
      → names_at m s at ≡ with_next n u → range_at m s u.at ≡ with_next g t → (x : Place) × (range_at m s at ≡ with_next g x)
  early n u g t (inl k) e f =
      let a = no_names s m at k.0 k.1 in
      let z : u ≡ place at = sym (same-next (sym a ∙ e)).1 in
      (t, subst (λ (y : Place). range_at m s y.at ≡ with_next g t) z f)
  early n u g t (inr k) e f =
      let a = no-range s m u.at k.0 k.1 k.2 in
      let z : record { offset = 0; content = span 0 0; list = span 0 0 } ≡ g = (same-next (sym a ∙ f)).0 in
      (place at, no-range s m at k.0 k.1 k.2 ∙ ap (λ (y : Range). with_next y (place at)) z)

-- a number with its limit, where its bit stands, and 0 where it does not
below-if : (b : Bool) (least v w : ℕ) → if_stands b (between least 255 v) ≡ true → number_if b v ≡ w → w < 256
below-if true least v w h e = let k = leb-true v 255 ((and-eq-true_iff (leb least v) (leb v 255)).0 h).1 in omega arith
below-if false least v w h e = omega arith

all_small : (l : List ℕ) → all_up_to 255 l ≡ true → Small l
unfolding all_up_to
all_small [] h i = omega arith
all_small (o ∷ l) h zero = omega (arith, leb-true o 255 ((and-eq-true_iff (leb o 255) (all_up_to 255 l)).0 h).0)
all_small (o ∷ l) h (suc i) = all_small l ((and-eq-true_iff (leb o 255) (all_up_to 255 l)).0 h).1 i

-- a valid list has objects below 256, and so has none
small-valid : (l : List ℕ) → valid_list l ≡ true → Small l
unfolding valid_list
small-valid l h = all_small l ((and-eq-true_iff (all_up_to 255 l) (different l)).0 ((and-eq-true_iff (between 1 8 (length l)) (all_up_to 255 l && different l)).0 h).1).0

small-read : (s : List ℕ) (b : Bool) (at n : ℕ) (p : Span) → if_stands b (valid_list (objects_of (stretch s p))) ≡ true → span_if b at n ≡ p → Small (objects_of (stretch s p))
small-read s true at n p h e = small-valid (objects_of (stretch s p)) h
small-read s false at n p h e = subst (λ (x : Span). Small (objects_of (stretch s x))) e (unlisted s)

-- the data that were read are all there, and at most 1,024 bytes
block_read : (s : List ℕ) (b : Bool) (p : Span) → if_stands b (between 1 1024 (length (stretch s p))) ≡ true → length (field b (stretch s p)) ≡ p.len
    → (length (stretch s p) ≡ p.len) × (p.len ≤ 1024)
block_read s true p h e = (e, omega (arith, block-short (stretch s p) h))
block_read s false p h e = let k = length-take p.len (drop p.start s) in (omega arith, omega arith)

module _ (s : List ℕ) (byte : Bytes s) (m : ℕ) where
  -- an offset that was read has 4 bytes
  offset-small : (b : Bool) (at v : ℕ) (p : Place) → offset_at b s at ≡ with_next v p → v < 4294967296
  unfolding offset_at
  offset-small true at v p e = number-below 4 s at v p byte e
  offset-small false at v p e = let z : 0 ≡ v = (same-next e).0 in omega arith

  range-offset : (at : ℕ) (g : Range) (p : Place) → range_at m s at ≡ with_next g p → g.offset < 4294967296
  unfolding range_at
  range-offset at g p e =
      let i₁ = number-went (offset_at (stands_in m 64) s at) None (with_next g p) _ (refused-range g p) e in
      let i₂ = part-went (block_at (stands_in m 128) s i₁.1.at) None (with_next g p) _ (refused-range g p) i₁.3 in
      let i₃ = part-went (list_at (stands_in m 256) s i₂.2.at) None (with_next g p) _ (refused-range g p) i₂.4 in
      let g₀ : Range = record { offset = i₁.0; content = span i₂.0 i₂.1; list = span i₃.0 i₃.1 } in
      let last : with_next g₀ i₃.2 ≡ with_next g p = i₃.4 in
      let z : g₀ ≡ g = (same-next last).0 in
      subst (λ (x : Range). x.offset < 4294967296) z (offset-small (stands_in m 64) at i₁.0 i₁.1 i₁.2)

  -- objects and range that were read lie within the limits
  pub limited : (a b : ℕ) (o : Objects) (q : Place) (g : Range) (t : Place) → objects_at m s a ≡ with_next o q → range_at m s b ≡ with_next g t → Limited s o g
  unfolding valid_objects valid_range
  limited a b o q g t eo eg =
      let x = objects-sound s byte m a o q eo in
      let y = range-sound s byte m b g t eg in
      let v = x.good [] [] 0 [] [] in
      let k = x.answered [] [] 0 [] [] in
      let w = (and-eq-true_iff _ _).0 (y.good 0 0 0 0 [] []) in
      let v₁ = (and-eq-true_iff _ _).0 v in
      let v₂ = (and-eq-true_iff _ _).0 v₁.1 in
      let v₃ = (and-eq-true_iff _ _).0 v₂.1 in
      let d = block_read s (stands_in m 128) g.content w.0 y.long in
      record {
        object = below-if (stands_in m 1) 1 o.object _ v₁.0 (ap (λ (z : Objects). z.object) k);
        parent = below-if (stands_in m 2) 0 o.parent _ v₂.0 (ap (λ (z : Objects). z.parent) k);
        second = below-if (stands_in m 4) 0 o.second _ v₃.0 (ap (λ (z : Objects). z.second) k);
        displaced = below-if (stands_in m 8) 1 o.displaced _ v₃.1 (ap (λ (z : Objects). z.displaced) k);
        offset = range-offset b g t eg;
        len = d.1;
        whole = d.0;
        list = small-read s (stands_in m 256) _ _ g.list w.1 (ap (λ (z : Range). z.list) (y.answered 0 0 0 0 [] []));
      }

-- what stands of a valid record once its head and objects were read: its range, found where names would begin, and its operation
record Passed (s : List ℕ) (p : Operation) (h : Head) (o : Objects) (q : Place) : Type 0 where
  names : Names
  range : Range
  next : Place
  there : range_at h.map s q.at ≡ with_next range next
  operation : read s h o names range ≡ p

module _ (s : List ℕ) (r : Record) (rest : List ℕ) (good : valid r ≡ true) (here : s ≡ encode r ++ rest) where
  whole : record_at s 0 ≡ Some (whole_of r 0)
  whole = record-complete s 0 r rest good here

  refused-record : None ≡ Some (whole_of r 0) → ⊥
  refused-record e = let z : ◌≡◌ {A = ℕ} 0 1 = cc in omega arith

  -- a valid record's head is there
  pub head-there : head_at s 0 ≡ None → ⊥
  unfolding record_at
  head-there e = refused-record (rw e at whole)

  -- and its objects
  pub objects-there : (h : Head) (p : Place) → head_at s 0 ≡ with_next h p → objects_at h.map s p.at ≡ None → ⊥
  unfolding record_at
  objects-there h p e f = refused-record (rw (e, f) at whole)

  -- and its fields 6 to 8
  passed : (h : Head) (p : Place) (o : Objects) (q : Place) → head_at s 0 ≡ with_next h p → objects_at h.map s p.at ≡ with_next o q → Passed s r.operation h o q
  unfolding record_at whole_of record_from
  passed h p o q e f = named (names_at h.map s q.at) refl (rw (e, f) at whole)
    where
      answer : Names → Range → Place → Option Whole
      answer n g t = cond (tied_at h.map o g) (Some (record { head = h; objects = o; names = n; range = g; next = t })) None

      tied : (n : Names) (u : Place) (g : Range) (t : Place) → names_at h.map s q.at ≡ with_next n u → range_at h.map s u.at ≡ with_next g t
          → (b : Bool) → cond b (Some (record { head = h; objects = o; names = n; range = g; next = t })) None ≡ Some (whole_of r 0) → Passed s r.operation h o q
      tied n u g t en eg false w = absurd (refused-record w)
      tied n u g t en eg true w =
          let z : record { head = h; objects = o; names = n; range = g; next = t } ≡ whole_of r 0 = cc in
          let m : h.map ≡ map_of r.operation = ap (λ (y : Whole). y.head.map) z in
          let x = early s h.map q.at n u g t (rw m (one-group r.operation)) en eg in
          record {
            names = n;
            range = g;
            next = x.0;
            there = x.1;
            operation = ap (λ (y : Whole). (record_from s y).operation) z ∙ ap (λ (y : Record). y.operation) (record-back s 0 r rest good here);
          }

      ranged : (n : Names) (u : Place) → names_at h.map s q.at ≡ with_next n u → (x : Option (Range × Place)) → range_at h.map s u.at ≡ x
          → after_range x (λ g t. answer n g t) ≡ Some (whole_of r 0) → Passed s r.operation h o q
      ranged n u en None eg w = absurd (refused-record w)
      ranged n u en (Some (g, t)) eg w = tied n u g t en eg (tied_at h.map o g) w

      named : (x : Option (Names × Place)) → names_at h.map s q.at ≡ x
          → after_names x (λ n u. after_range (range_at h.map s u.at) (λ g t. answer n g t)) ≡ Some (whole_of r 0) → Passed s r.operation h o q
      named None en w = absurd (refused-record w)
      named (Some (n, u)) en w = ranged n u en (range_at h.map s u.at) refl w

  -- so they are found
  pub range-there : (h : Head) (p : Place) (o : Objects) (q : Place) → head_at s 0 ≡ with_next h p → objects_at h.map s p.at ≡ with_next o q
      → range_at h.map s q.at ≡ None → ⊥
  range-there h p o q e f n = refused-range _ _ (sym n ∙ (passed h p o q e f).there)

  -- and what is told of what was read, whatever the names are, is told of the record's operation
  pub told-read : (h : Head) (p : Place) (o : Objects) (q : Place) (g : Range) (t : Place) (x : Order) → head_at s 0 ≡ with_next h p → objects_at h.map s p.at ≡ with_next o q
      → range_at h.map s q.at ≡ with_next g t → ((n : Names) → Ordering s (read s h o n g) x) → Ordering s r.operation x
  told-read h p o q g t x e f k tell =
      let w = passed h p o q e f in
      let a = w.there in
      let z : g ≡ w.range = (same-next (sym k ∙ a)).0 in
      subst (λ (y : Operation). Ordering s y x) w.operation (rw z at (tell w.names))
