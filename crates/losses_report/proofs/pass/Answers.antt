-- `losses_report::pass` meets its contract. The loop's invariant: a pass from the present place on, with the text so far in front, is one from the start.
-- The measure is what is left of the bytes. Assumes nothing.
use native.Mathlib.Omega.{arith}
use mathlib.Core.Path.{sym, ◌∙◌}
use Rattle.losses_report.specs.Laws.Pass.{read_at, not-one, decides, next-within, begun-start, bad-room, line-room, begun-line, begun-bad, begun-waits, begun-ends}
use Rattle.losses_report.proofs.pass.Goals as goal
use Rattle.losses_report.proofs.pass.Goals.{then-not-ended+else-s-at-lt-LONGEST, else-not-ended}

pub loop-place-init : goal.loop-place-init
loop-place-init c = begun-start c.args.s.now c.args.base c.args.ended c.args.out.now

pub shape_of-out-then-s-at-lt-LONGEST : goal.shape_of-out-then-s-at-lt-LONGEST
shape_of-out-then-s-at-lt-LONGEST c = c.loop-place.invariant.long

pub returns-then-s-at-lt-LONGEST : goal.returns-then-s-at-lt-LONGEST
returns-then-s-at-lt-LONGEST c =
    let a = c.args in
    let l = c.loop-place in
    begun-waits a.s.now a.base a.ended a.out.now l.place.at l.to l.out l.invariant c.requires.s_in_bounds
    c.if-not-ended.true (omega arith)

pub record-requires : goal.record-requires
record-requires c = tt

pub put_bad-end-requires : goal.put_bad-end-requires
put_bad-end-requires c =
    let a = c.args in
    let l = c.loop-place in
    bad-room a.s.now a.base a.ended a.out.now l.place.at l.to l.out l.invariant c.requires.s_in_bounds (omega arith)

pub shape_of-out-in_default : goal.shape_of-out-in_default
shape_of-out-in_default c =
    c.put_bad-end.auto.out ∙ c.loop-place.invariant.long

pub returns-in_default : goal.returns-in_default
returns-in_default c =
    let a = c.args in
    let l = c.loop-place in
    let p = c.put_bad-end in
    let d = decides a.ended a.s.now l.place.at
    (λ e. elim c.if-not-ended.branch [ then-not-ended+else-s-at-lt-LONGEST w ↦ omega arith | else-not-ended w ↦ absurd (cc) ]) in
    let o = not-one a.s.now (λ i. (c.type_inv.s i).fits) l.place.at c.loop-place-test.true (sym c.«record».ensures ∙ c.in_default.is) in
    begun-bad a.s.now a.base a.ended a.out.now l.place.at l.to l.out l.invariant c.requires.s_in_bounds
    o d p.result p.new.out (omega arith) p.ensures

pub code-requires : goal.code-requires
code-requires c = tt

pub put_line-to-requires : goal.put_line-to-requires
put_line-to-requires c =
    let a = c.args in
    let l = c.loop-place in
    let r = read_at a.s.now (λ i. (c.type_inv.s i).fits) l.place.at c.in-Some.w (sym c.«record».ensures ∙ c.in-Some.is) in
    rw c.code.ensures (line-room a.s.now a.base a.ended a.out.now l.place.at l.to l.out l.invariant c.requires.s_in_bounds c.in-Some.w r)

pub loop-place-smaller : goal.loop-place-smaller
loop-place-smaller c =
    let a = c.args in
    let l = c.loop-place in
    let r = read_at a.s.now (λ i. (c.type_inv.s i).fits) l.place.at c.in-Some.w (sym c.«record».ensures ∙ c.in-Some.is) in
    omega (arith, next-within a.s.now l.place.at c.in-Some.w l.invariant.within r)

pub loop-place-preserved : goal.loop-place-preserved
loop-place-preserved c =
    let a = c.args in
    let l = c.loop-place in
    let p = c.put_line-to in
    let d = decides a.ended a.s.now l.place.at
    (λ e. elim c.if-not-ended.branch [ then-not-ended+else-s-at-lt-LONGEST w ↦ omega arith | else-not-ended w ↦ absurd (cc) ]) in
    let r = read_at a.s.now (λ i. (c.type_inv.s i).fits) l.place.at c.in-Some.w (sym c.«record».ensures ∙ c.in-Some.is) in
    begun-line a.s.now a.base a.ended a.out.now l.place.at l.to l.out l.invariant c.requires.s_in_bounds
    c.in-Some.w r d p.result p.new.out p.auto.out (rw c.code.ensures at p.ensures)

pub shape_of-out-then-ended : goal.shape_of-out-then-ended
shape_of-out-then-ended c = c.loop-place.invariant.long

pub returns-then-ended : goal.returns-then-ended
returns-then-ended c =
    let a = c.args in
    let l = c.loop-place in
    begun-ends a.s.now a.base a.ended a.out.now l.place.at l.to l.out l.invariant c.requires.s_in_bounds c.if-ended.true (omega arith)

pub shape_of-out : goal.shape_of-out
shape_of-out c = c.loop-place.invariant.long

pub returns : goal.returns
returns c =
    let a = c.args in
    let l = c.loop-place in
    begun-waits a.s.now a.base a.ended a.out.now l.place.at l.to l.out l.invariant c.requires.s_in_bounds c.if-ended.false (omega arith)
