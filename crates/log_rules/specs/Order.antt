-- Document 01, "Order and dependence": what must be sent before what.
use Rattle.std.specs.Prelude.{ℕ, ◌+◌, ◌≡◌, Bool, true, false, not, ◌&&◌, ◌||◌, cond, length, ltb}
use mathlib.Core.List.{List, [], ◌∷◌, Memᴰ}
use Rattle.std.specs.Prelude.{Option, None, Some}
use Rattle.record.specs.Operation.{Operation, Record, operands, Stretch, overwrite_of}
use Rattle.record.specs.Fields.{member}

unfoldable pub shares : List ℕ → List ℕ → Bool
shares [] l = false
shares (o ∷ k) l = member o l || shares k l

-- "A earlier than B touches B if they share an operand."
abbrev pub touches : Operation → Operation → Bool
touches a b = shares (operands a) (operands b)

-- two stretches, each by its offset and bytes, have a common byte
abbrev pub overlap : ℕ → List ℕ → ℕ → List ℕ → Bool
overlap f c g d = ltb f (g + length d) && ltb g (f + length c)

-- two overwrites, and no common byte
abbrev pub separate : Option Stretch → Option Stretch → Bool
separate None t = false
separate (Some s) None = false
separate (Some s) (Some t) = not (overlap s.offset s.content t.offset t.content)

-- "A directly precedes B if it touches B and they are not two overwrites; two overwrites with a common byte are ordered too"
unfoldable pub directly_precedes : Operation → Operation → Bool
directly_precedes a b = touches a b && not (separate (overwrite_of a) (overwrite_of b))

-- some member of a list passes a test
unfoldable pub any : {A : Type 0} → (A → Bool) → List A → Bool
any f [] = false
any f (a ∷ l) = f a || any f l

-- of a list in issue order, those that a test picks and whatever precedes one of them, directly or through others: from the
-- last to the first, each that directly precedes one found so far
unfoldable pub closure : {A : Type 0} → (A → Bool) → (A → A → Bool) → List A → List A
closure pick before [] = []
closure pick before (a ∷ l) =
    let c = closure pick before l in
    cond (pick a || any (before a) c) (a ∷ c) c

-- "A directly precedes B", of two records of which A is the earlier
abbrev pub before : Record → Record → Bool
before a b = ltb a.sequence b.sequence && directly_precedes a.operation b.operation

-- "It needs d sends: all waiting operations with that object as operand and their predecessors, in issue order."
unfoldable pub needed : ℕ → List Record → List Record
needed o l = closure (λ r. member o (operands r.operation)) before l

-- the operations of a list that precede a given one, directly or through others, in issue order
unfoldable pub predecessors : List Record → Record → List Record
predecessors l b = closure (λ a. before a b) before l

-- "a predecessor waits": of the operations of a list some precedes a given one
unfoldable pub preceded : List Record → Record → Bool
preceded l b = ltb 0 (length (predecessors l b))

-- "An operation precedes another also through a third and further ones": by a chain within a list
pub data PrecedesIn (l : List Record) : Record → Record → Type 0 where
  direct : {a b : Record} → before a b ≡ true → PrecedesIn l a b
  through : {a b c : Record} → Memᴰ c l → PrecedesIn l a c → PrecedesIn l c b → PrecedesIn l a b
