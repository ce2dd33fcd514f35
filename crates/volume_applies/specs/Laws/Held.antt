-- What is known of an operation that a slice holds, by its kind: which it is, and that its objects are below n.
-- Assumes nothing.
use Rattle.std.specs.Prelude.{ℕ, ◌<◌, ◌≡◌, List, [], ◌∷◌, ◌++◌, Bool, true, false, length, take, ltb, None}
use Rattle.std.proofs.Math.Path.{refl, ap}
use Rattle.std.proofs.Common.{sym, ◌∙◌, take_at, ltb-true}
use Rattle.std.proofs.Math.Bool.{and-eq-true_iff}
use Rattle.std.proofs.lemmas.Bool.{false≢true}
use native.Mathlib.Omega.{arith}
use Rattle.record.specs.declared.kind.Kind.{Kind}
use Rattle.record.specs.declared.kind.Kind.TheVariants.{CreateFile, MakeDirectory, Remove, Rename, Overwrite, Append, SetLength, Forder}
use Rattle.record_reader.specs.declared.Objects.{Objects}
use Rattle.record_reader.specs.declared.Whole.{Whole}
use Rattle.record.specs.Operation.{Operation, Record, present, operands}
use Rattle.record.specs.Fields.{Parts, encode, stands_in, all_below, valid, fits, operation_of, displaced_if}
use Rattle.buffer.specs.Numeral.{Bytes}
use Rattle.record_reader.specs.Code.Reader.{record_at}
use Rattle.record_reader.specs.Code.Found.{parts_from, record_from, decoded, decode_at}
use Rattle.record_reader.specs.Answer.{whole_of}
use Rattle.record_reader.specs.Laws.Complete.{record-complete}
use Rattle.record_reader.specs.Laws.Exact.{encode-decode, record-back}
use Rattle.record_reader.specs.Code.Fit.{fits_whole, fits_decoded}
use Rattle.record_reader.specs.Laws.Fit.{fits_read}
use Rattle.std.specs.Prelude.{Some}
use Rattle.volume_applies.specs.Code.Held.{operation_in, Fitting}

-- the objects of an operation of a kind are below n: a displaced one too, if it has one
abbrev pub Below : ℕ → Kind → ℕ → Objects → Type 0
Below n CreateFile m x = (x.object < n) × (x.parent < n)
Below n MakeDirectory m x = (x.object < n) × (x.parent < n)
Below n Remove m x = (x.object < n) × (x.parent < n)
Below n Rename m x = (x.object < n) × (x.parent < n) × (x.second < n) × (stands_in m 8 ≡ true → x.displaced < n)
Below n Overwrite m x = x.object < n
Below n Append m x = x.object < n
Below n SetLength m x = x.object < n
Below n Forder m x = n ≡ n

-- objects that are all below n: the first is, and so are the others
below-cons : (n o : ℕ) (l : List ℕ) → all_below n (o ∷ l) ≡ true → (o < n) × (all_below n l ≡ true)
unfolding all_below
below-cons n o l t = let x = (and-eq-true_iff (ltb o n) (all_below n l)).0 t in (ltb-true o n x.0, x.1)

below_two : (n o p : ℕ) (l : List ℕ) → all_below n (o ∷ p ∷ l) ≡ true → (o < n) × (p < n)
below_two n o p l t = let x = below-cons n o (p ∷ l) t in (x.0, (below-cons n p l x.1).0)

below-displaced : (n : ℕ) (t : Bool) (d : ℕ) → all_below n (present (displaced_if t d)) ≡ true → t ≡ true → d < n
below-displaced n true d h e = (below-cons n d [] h).0
below-displaced n false d h e = absurd (false≢true e)

-- the nine fields that the reader found
abbrev pub parts_in : List ℕ → Whole → Parts
parts_in s w = parts_from s w.objects w.names w.range

-- The operation that a slice holds is the one of its kind with the fields that were found.
pub operation-kind : (s : List ℕ) (w : Whole) (k : Kind) → w.head.kind ≡ k → operation_in s w ≡ operation_of k w.head.map (parts_in s w)
unfolding record_from
operation-kind s w k e = ap (λ (k : Kind). operation_of k w.head.map (parts_in s w)) e

module _ (n b : ℕ) (s : List ℕ) (w : Whole) where
  -- by the kind: of operands that are all below n, each object is
  kind-below : (k : Kind) → all_below n (operands (operation_of k w.head.map (parts_in s w))) ≡ true → Below n k w.head.map w.objects
  unfolding operands
  kind-below CreateFile t = below_two n _ _ _ t
  kind-below MakeDirectory t = below_two n _ _ _ t
  kind-below Remove t = below_two n _ _ _ t
  kind-below Rename t =
      let x = below-cons n _ _ t in
      let y = below-cons n _ _ x.1 in
      let z = below-cons n _ _ y.1 in
      (x.0, y.0, z.0, below-displaced n (stands_in w.head.map 8) w.objects.displaced z.1)
  kind-below Overwrite t = (below-cons n _ _ t).0
  kind-below Append t = (below-cons n _ _ t).0
  kind-below SetLength t = (below-cons n _ _ t).0
  kind-below Forder t = refl

  -- The objects of an operation that fits are below n.
  pub objects-below : Fitting n b s w → (k : Kind) → w.head.kind ≡ k → Below n k w.head.map w.objects
  unfolding fits
  objects-below f k e =
      kind-below k (ap (λ (o : Operation). all_below n (operands o)) (sym (operation-kind s w k e)) ∙ ((and-eq-true_iff _ _).0 f.fit).0)

-- What the reader found, if it fits, is a valid record that fits: what a caller has tested is what applying asks.
pub read-fitting : (n b : ℕ) (s : List ℕ) → Bytes s → (at : ℕ) (w : Whole) → record_at s at ≡ Some w → fits_whole n b s w ≡ true → Fitting n b s w
unfolding decode_at
read-fitting n b s byte at w e f =
    let d : decode_at s at ≡ Some (record_from s w) = ap (decoded s) e in
    record {
      sound = (encode-decode s byte at (record_from s w) d).0;
      fit = sym (ap (fits_decoded n b) d) ∙ fits_read s byte at n b w e ∙ f;
    }

-- A slice that begins with the bytes of a valid record: the reader finds that record there, and it fits if the record does.
module _ (s : List ℕ) (r : Record) (rest : List ℕ) (sound : valid r ≡ true) (e : s ≡ encode r ++ rest) where
  held-read : record_at s 0 ≡ Some (whole_of r 0)
  held-read = record-complete s 0 r rest sound e

  pub held-there : None ≡ record_at s 0 → ⊥
  held-there q = let z : ◌≡◌ {A = ℕ} 0 1 = cc held-read in omega arith

  module _ (w : Whole) (q : (Some w) ≡ record_at s 0) where
    held_whole : w ≡ whole_of r 0
    held_whole = cc held-read

    pub held_found : record_from s w ≡ r
    held_found = ap (record_from s) held_whole ∙ record-back s 0 r rest sound e

    -- The place after it is behind its bytes, and so these are the bytes before that place.
    pub held_next : w.next.at ≡ length (encode r)
    unfolding whole_of
    held_next = let z = ap (λ (x : Whole). x.next.at) held_whole in omega arith

    pub held_bytes : take w.next.at s ≡ encode r
    held_bytes = rw (held_next, e) (take_at (encode r) rest (length (encode r)) refl)

    pub held-fitting : (n b : ℕ) → fits n b r ≡ true → Fitting n b s w
    held-fitting n b fit = record { sound = ap valid held_found ∙ sound; fit = ap (fits n b) held_found ∙ fit }
