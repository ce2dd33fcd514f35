-- Assumes nothing.
-- `log_slots::head::used` meets its contract. The loop's invariant: the slots passed are used.
use Prim.Native.Nat.{◌≤◌, ◌<◌}
use native.Mathlib.Omega.{arith}
use mathlib.Core.Path.{sym, ◌∙◌}
use Rattle.log_rules.specs.Code.Slots.{used_in}
use Rattle.log_rules.proofs.Laws.Geometry.{used-most}
use Rattle.log_slots.specs.Laws.Head.{free-unused, unused-free}
use Rattle.log_slots.proofs.head.used.Goals as goal

pub returns-then-byte_at-eq-FREE : goal.returns-then-byte_at-eq-FREE
returns-then-byte_at-eq-FREE c =
    let a = c.args in (
      omega arith,
      λ n b u.
          let h = c.loop-i.invariant n b u in
          let z : c.loop-i.i < used_in a.m a.s.now → ⊥ = free-unused n b a.m a.s.now u c.loop-i.i (sym c.byte_at.ensures.0 ∙ c.if-byte_at-eq-FREE.true) in
          omega arith,
    )

pub loop-i-preserved : goal.loop-i-preserved
loop-i-preserved c =
    let a = c.args in
    λ n b u.
    let h = c.loop-i.invariant n b u in
    let z : used_in a.m a.s.now ≤ c.loop-i.i → ⊥ = λ l. c.if-byte_at-eq-FREE.false (c.byte_at.ensures.0 ∙ unused-free n b a.m a.s.now u c.loop-i.i l (omega arith)) in
    omega arith

pub returns : goal.returns
returns c =
    let a = c.args in
    (omega arith, λ n b u. let m = used-most n b a.m a.s.now u in let h = c.loop-i.invariant n b u in omega arith)
