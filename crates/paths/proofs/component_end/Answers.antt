-- `paths::component_end` meets its contract. The loop's invariant: the component is the bytes passed, and what stands before the next
-- slash from here on. Assumes nothing.
use Prim.Native.Nat.{ℕ, suc, ◌+◌, ◌-◌, ◌≤◌, ◌<◌}
use mathlib.Core.List.{List, [], ◌∷◌, ◌++◌, append_assoc, append-nil}
use mathlib.Core.Path.{◌≡◌, sym}
use native.Mathlib.Nat.{sub_self}
use native.Mathlib.Omega.{arith}
use lib.ListN.{length, get_or, take, drop, length-drop}
use lib.Seq.{take-suc, get_or-drop}
use Rattle.paths.specs.Path.{up_to_slash}
use Rattle.paths.specs.Laws.Path.{up-slash, up-byte, up-end}
use Rattle.paths.proofs.component_end.Goals as goal

module _ (p : List ℕ) (at : ℕ) where
  -- no byte is passed where the loop begins
  none : up_to_slash (drop at p) ≡ take (at - at) (drop at p) ++ up_to_slash (drop at p)
  none = rw sub_self

  -- the bytes passed, one byte further
  taken : (i : ℕ) → at ≤ i → i < length p → take (i + 1 - at) (drop at p) ≡ take (i - at) (drop at p) ++ (get_or p i 0 ∷ [])
  taken i l h =
      let n : i + 1 - at ≡ suc (i - at) = omega arith in
      let k : i - at < length (drop at p) = omega (arith, length-drop at p) in
      let m : at + (i - at) ≡ i = omega arith in
      rw (n, take-suc (drop at p) (i - at) 0 k, get_or-drop, m)

  -- a turn, and the two ways out, at the place i
  module _ (i : ℕ) (inv : up_to_slash (drop at p) ≡ take (i - at) (drop at p) ++ up_to_slash (drop i p)) where
    more : at ≤ i → i < length p → (get_or p i 0 ≡ 47 → ⊥)
        → up_to_slash (drop at p) ≡ take (i + 1 - at) (drop at p) ++ up_to_slash (drop (i + 1) p)
    more l h e = rw (taken i l h, append_assoc) (rw (up-byte p i h e) at inv)

    slash : i < length p → get_or p i 0 ≡ 47 → take (i - at) (drop at p) ≡ up_to_slash (drop at p)
    slash h e = sym (rw (up-slash p i h e, append-nil) at inv)

    ended : length p ≤ i → take (i - at) (drop at p) ≡ up_to_slash (drop at p)
    ended h = sym (rw (up-end p i h, append-nil) at inv)

pub loop-i-init : goal.loop-i-init
loop-i-init c = none c.args.path.now c.args.at

pub returns-then-path-i-eq47 : goal.returns-then-path-i-eq47
returns-then-path-i-eq47 c = (omega arith, omega arith, slash c.args.path.now c.args.at c.loop-i.i c.loop-i.invariant (omega arith) c.if-path-i-eq47.true)

pub loop-i-preserved : goal.loop-i-preserved
loop-i-preserved c = more c.args.path.now c.args.at c.loop-i.i c.loop-i.invariant (omega arith) (omega arith) c.if-path-i-eq47.false

pub returns : goal.returns
returns c =
    let p = c.args.path.now in
    let e : c.loop-i.i ≡ length p = omega arith in
    (c.requires, omega arith, rw e at (ended p c.args.at c.loop-i.i c.loop-i.invariant (omega arith)))
