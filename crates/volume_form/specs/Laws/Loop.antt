-- What the climb from child to parent comes to, step by step. Assumes nothing.
use Rattle.std.specs.Prelude.{ℕ, zero, suc, ◌≤◌, ◌≡◌, refl, List, true, get_or, eqb}
use Rattle.std.proofs.Common.{arith, ne_eqb}
use Rattle.volume_form.specs.Code.Checks.{climbs_by}

-- 0 leads to 0 in any number of steps.
pub root-leads : (k : ℕ) (l : List ℕ) (i : ℕ) → i ≡ 0 → true ≡ climbs_by k l i
unfolding climbs_by
root-leads zero l i z = rw z
root-leads (suc k) l i z = rw z

-- Another number leads to 0 as its parent does in a step less.
pub parent-leads : (k m : ℕ) (l : List ℕ) (i : ℕ) → k ≡ suc m → (i ≡ 0 → ⊥) → climbs_by m l (get_or l i 0) ≡ climbs_by k l i
unfolding climbs_by
parent-leads k m l i e z = rw (e, ne_eqb i 0 z)

-- With no step left, only 0 has been led to 0.
pub none_left : (k : ℕ) (l : List ℕ) (i : ℕ) → k ≤ 0 → eqb i 0 ≡ climbs_by k l i
unfolding climbs_by
none_left zero l i h = refl
none_left (suc k) l i h = absurd (omega arith)
