-- What fsync needs, by the operations that share its object; what is chosen and what is reached from a position of the slots on.
use Rattle.std.specs.Prelude.{ℕ, ◌+◌, ◌<◌, ◌≡◌, List, [], ◌∷◌, ◌++◌, Bool, true, ◌&&◌, cond, length, drop, eqb}
use Rattle.std.proofs.Common.{sym, ap, ◌∙◌, add-one, drop-cons, eqb-true}
use Rattle.std.proofs.Math.Path.{fun_ext}
use Rattle.std.proofs.Math.Bool.{or-false}
use Rattle.buffer.specs.Laws.Test.{same_test}
use Rattle.record.specs.Operation.{Record, operands}
use Rattle.record.specs.Fields.{member}
use Rattle.volume_apply.proofs.Laws.Local.{member-first}
use Rattle.log_rules.specs.Slot.{Slot, is_waiting}
use Rattle.log_rules.specs.Order.{shares, closure, before, needed}
use Rattle.log_rules.specs.Depend.{reach}
use Rattle.log_rules.specs.Code.Flags.{stands, chosen}
use Rattle.log_rules.specs.Code.Slots.{no_slot, slot_at}
use Rattle.log_rules.proofs.Laws.Swap.{in_both, shares-some}

shares-one : (o : ℕ) (k : List ℕ) → shares k (o ∷ []) ≡ member o k
unfolding member
shares-one o k =
    same_test (shares k (o ∷ [])) (member o k)
    (λ h. let u = shares-some k (o ∷ []) h in ap (λ (x : ℕ). member x k) (sym (only u.0 u.1.1)) ∙ u.1.0)
    (λ h. in_both o k (o ∷ []) h (member-first o []))
  where
    only : (x : ℕ) → member x (o ∷ []) ≡ true → x ≡ o
    only x h = eqb-true x o (sym (or-false (eqb x o)) ∙ h)

-- "all waiting operations with that object as operand and their predecessors": those that share one of the objects, which is that one
pub needed-shares : (o : ℕ) (l : List Record) → closure (λ (r : Record). shares (operands r.operation) (o ∷ [])) before l ≡ needed o l
unfolding needed
needed-shares o l = ap (λ (pick : Record → Bool). closure pick before l) (fun_ext (λ r. shares-one o (operands r.operation)))

-- the records chosen from a position on: that of the slot there, if it is in the set, and those behind it
pub chosen_at : (fs : List ℕ) (l : List Slot) (i : ℕ) → i < length fs → i < length l
    → chosen (drop i fs) (drop i l) ≡ cond (stands fs i) ((slot_at l i).recorded ∷ chosen (drop (i + 1) fs) (drop (i + 1) l)) (chosen (drop (i + 1) fs) (drop (i + 1) l))
unfolding chosen
chosen_at fs l i g h = rw (drop-cons fs i 0 g, drop-cons l i no_slot h, add-one)

-- whether a call reaches the slot at a position
abbrev pub reaches : List ℕ → List Slot → ℕ → Bool
reaches ops l i = is_waiting (slot_at l i) && shares (operands (slot_at l i).recorded.operation) (reach ops (drop (i + 1) l))

-- what is reached from a position on: with the operands of the slot there, if it is reached
pub reach-at : (ops : List ℕ) (l : List Slot) (i : ℕ) → i < length l
    → reach ops (drop i l) ≡ cond (reaches ops l i) (operands (slot_at l i).recorded.operation ++ reach ops (drop (i + 1) l)) (reach ops (drop (i + 1) l))
unfolding reach
reach-at ops l i h = rw (drop-cons l i no_slot h, add-one)
