-- What a pass over the slots, from the last to the first, has found: the operations picked, or with an operand among given objects, and
-- their predecessors.
use Rattle.std.specs.Prelude.{ℕ, ◌+◌, ◌≤◌, ◌<◌, ◌≡◌, List, [], ◌∷◌, ◌++◌, Bool, true, ◌||◌, cond, length, drop}
use Rattle.buffer.specs.Decoded.{is_some}
use Rattle.record.specs.Operation.{Operation, Record, operands, overwrite_of}
use Rattle.log_rules.specs.Slot.{Slot, is_waiting}
use Rattle.log_rules.specs.Order.{shares, directly_precedes, any, closure, before}
use Rattle.log_rules.specs.Change.{waiting_of}
use Rattle.log_rules.specs.Code.Slots.{slot_at}
use Rattle.log_operands.specs.declared.Order.{Order}
use Rattle.log_operands.specs.Code.Ordering.{Ordering}
use Rattle.log_rules.specs.Code.Flags.{stands, Holds, chosen, AllWait}

-- an operation is found: it is picked, has an operand among the given objects, or directly precedes one found so far
abbrev pub is_found : (Record → Bool) → List ℕ → Record → List Record → Bool
is_found pick ops a c = (pick a || shares (operands a.operation) ops) || any (before a) c

-- those found of the waiting operations of some slots
abbrev pub found_in : (Record → Bool) → List ℕ → List Slot → List Record
found_in pick ops l = closure (λ r. pick r || shares (operands r.operation) ops) before (waiting_of l)

-- an operation is an overwrite
abbrev pub is_overwrite : Operation → Bool
is_overwrite p = is_some (overwrite_of p)

-- the given objects and the operands of those found
unfoldable pub objects_found : List ℕ → List Record → List ℕ
objects_found ops [] = ops
objects_found ops (r ∷ c) = operands r.operation ++ objects_found ops c

-- the given objects and the operands of those found that are no overwrites
unfoldable pub others_found : List ℕ → List Record → List ℕ
others_found ops [] = ops
others_found ops (r ∷ c) = cond (is_overwrite r.operation) (others_found ops c) (operands r.operation ++ others_found ops c)

-- the slots from a position on are closed: before it the flags tell the picked, from it on those found, and the two sets have the objects
pub record Closed (pick : Record → Bool) (ops : List ℕ) (l : List Slot) (i : ℕ) (found set₁ set₂ : List ℕ) : Type 0 where
  pub picks : (j : ℕ) → j < i → is_waiting (slot_at l j) ≡ true → stands found j ≡ pick (slot_at l j).recorded
  pub these : chosen (drop i found) (drop i l) ≡ found_in pick ops (drop i l)
  pub wait : AllWait (drop i found) (drop i l)
  pub all : Holds set₁ (objects_found ops (found_in pick ops (drop i l)))
  pub others : Holds set₂ (others_found ops (found_in pick ops (drop i l)))

-- the pass went on from one position to an earlier one, and found so many
pub record ClosedMore (l : List Slot) (i j : ℕ) (found₀ all₀ others₀ found₁ all₁ others₁ : List ℕ) (r : ℕ) : Type 0 where
  pub most : r + j ≤ i
  pub closed : (pick : Record → Bool) (ops : List ℕ) → Closed pick ops l i found₀ all₀ others₀ → Closed pick ops l j found₁ all₁ others₁
  pub count : (pick : Record → Bool) (ops : List ℕ) → Closed pick ops l i found₀ all₀ others₀ → length (found_in pick ops (drop j l)) ≡ r + length (found_in pick ops (drop i l))

-- an operation directly precedes one of some
abbrev pub some_after : Operation → List Record → Bool
some_after a c = any (λ (q : Record). directly_precedes a q.operation) c

-- whether the operation of a slot is found, once the slots behind it are closed
pub record FoundAt (l : List Slot) (j : ℕ) (found set₁ set₂ rec : List ℕ) (o : Order) (r : Bool) : Type 0 where
  pub is : (pick : Record → Bool) (ops : List ℕ) → is_waiting (slot_at l j) ≡ true → Ordering rec (slot_at l j).recorded.operation o → Closed pick ops l (j + 1) found set₁ set₂
      → r ≡ is_found pick ops (slot_at l j).recorded (found_in pick ops (drop (j + 1) l))

-- the flags of the waiting slots tell the picked
abbrev pub Picked : (Record → Bool) → List Slot → List ℕ → Type 0
Picked pick l found = (j : ℕ) → j < length l → is_waiting (slot_at l j) ≡ true → stands found j ≡ pick (slot_at l j).recorded

-- the flags tell just some operations, which wait, and so many they are
pub record Closure (these : List Record) (l : List Slot) (found : List ℕ) (r : ℕ) : Type 0 where
  pub tells : chosen found l ≡ these
  pub wait : AllWait found l
  pub count : r ≡ length these
