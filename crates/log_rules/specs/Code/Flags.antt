-- Sets in the code: of objects, and of slots; a byte for each, which is 1 where it is in the set.
use Rattle.std.specs.Prelude.{ℕ, ◌≡◌, List, [], ◌∷◌, Bool, true, cond, get_or, eqb}
use Rattle.record.specs.Operation.{Record}
use Rattle.record.specs.Fields.{member}
use Rattle.log_rules.specs.Slot.{Slot, is_waiting}

-- a position is in a set
abbrev pub stands : List ℕ → ℕ → Bool
stands flags i = eqb (get_or flags i 0) 1

-- a set of objects that has just those of a list
pub record Holds (set : List ℕ) (objects : List ℕ) : Type 0 where
  pub same : (x : ℕ) → stands set x ≡ member x objects

-- the records of the slots in a set, in their order
unfoldable pub chosen : List ℕ → List Slot → List Record
chosen [] l = []
chosen (f ∷ fs) [] = []
chosen (f ∷ fs) (s ∷ l) = cond (eqb f 1) (s.recorded ∷ chosen fs l) (chosen fs l)

-- the slots that are not in a set, in their order
unfoldable pub kept : List ℕ → List Slot → List Slot
kept [] l = l
kept (f ∷ fs) [] = []
kept (f ∷ fs) (s ∷ l) = cond (eqb f 1) (kept fs l) (s ∷ kept fs l)

-- every slot in a set waits
abbrev pub AllWait : List ℕ → List Slot → Type 0
AllWait [] l = Unit {0}
AllWait (f ∷ fs) [] = Unit {0}
AllWait (f ∷ fs) (s ∷ l) = (eqb f 1 ≡ true → is_waiting s ≡ true) × AllWait fs l
