-- What is told of an operation by its kind.
use Rattle.std.specs.Prelude.{ℕ, zero, suc, ◌≤◌, ◌<◌, ◌≡◌, List, [], ◌∷◌}
use Rattle.std.proofs.Common.{arith}
use Rattle.buffer.specs.declared.span.Span.{Span}
use Rattle.buffer.specs.Code.Span.{span, stretch}
use Rattle.record.specs.Fields.{objects_of}
use Rattle.record_reader.specs.declared.Head.{Head}
use Rattle.record_reader.specs.declared.Objects.{Objects}
use Rattle.record_reader.specs.declared.Names.{Names}
use Rattle.record_reader.specs.declared.Range.{Range}
use Rattle.log_operands.specs.declared.Order.{Order}
use Rattle.log_operands.specs.Code.Ordering.{fields_of, Ordering, Small, Sized}
use Rattle.log_operands.specs.Code.Reading.{plain, read, Limited}

-- one number more, below 256
small-cons : (a : ℕ) (l : List ℕ) → a < 256 → Small l → Small (a ∷ l)
small-cons a l h t zero = h
small-cons a l h t (suc i) = t i

pub small-none : Small []
small-none i = omega arith

-- four fields below 256
pub small-fields : (f : Objects) → f.object < 256 → f.parent < 256 → f.second < 256 → f.displaced < 256 → Small (fields_of f)
small-fields f ha hb hc hd =
    small-cons f.object (f.parent ∷ f.second ∷ f.displaced ∷ []) ha (small-cons f.parent (f.second ∷ f.displaced ∷ []) hb
    (small-cons f.second (f.displaced ∷ []) hc (small-cons f.displaced [] hd small-none)))

-- no part of a record lists nothing
pub unlisted : (s : List ℕ) → Small (objects_of (stretch s (span 0 0)))
unfolding objects_of
unlisted s = small-none

module _ (s : List ℕ) (o : Objects) (g : Range) (lim : Limited s o g) where
  -- an operation whose operands are so many of fields 0 to 3 and the objects of a part of the record
  pub plain-told : (h : Head) (n : ℕ) (p : Span) (r : Order) → n ≤ 4 → Small (objects_of (stretch s p)) → r ≡ plain n o p → ((m : Names) → Ordering s (read s h o m g) (plain n o p))
      → ((m : Names) → Ordering s (read s h o m g) r) × Sized s r
  plain-told h n p r few listed e t =
      let small = small-fields o lim.object lim.parent lim.second lim.displaced in
      (λ m. rw e (t m), rw e (record { few = few; small = small; listed = listed; near = omega arith }))
