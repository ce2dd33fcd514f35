-- `volume_form::parents::leads` meets its contract. The loop's invariant: the entry reached leads to 0 in the steps that are left as the
-- first one does in all. Assumes nothing.
use Prim.Native.Nat.{◌-◌}
use mathlib.Core.Path.{◌∙◌}
use native.Mathlib.Numerals.{unary_clauses}
use native.Mathlib.Omega.{arith}
use Rattle.volume_form.specs.Laws.Loop.{root-leads, parent-leads, none_left}
use Rattle.volume_form.proofs.parents.leads.Goals as goal

pub loop-init : goal.loop-init
loop-init c = (c.requires.i_bound, simp unary_clauses)

pub returns-then-at-eq0 : goal.returns-then-at-eq0
returns-then-at-eq0 c =
    root-leads (c.args.n - c.loop.counter) c.args.parents.now c.loop.at c.if-at-eq0.true ∙ c.loop.invariant.1

pub loop-preserved : goal.loop-preserved
loop-preserved c =
    let at = c.loop.at in (
      c.requires.numbers at,
      parent-leads (c.args.n - c.loop.counter) _ c.args.parents.now at (omega arith) c.if-at-eq0.false ∙ c.loop.invariant.1,
    )

pub returns : goal.returns
returns c =
    none_left (c.args.n - c.loop.counter) c.args.parents.now c.loop.at (omega arith) ∙ c.loop.invariant.1
