-- `losses_line::put_line` meets its contract: three puts, each behind the one before, are one.
-- Assumes nothing.
use native.Mathlib.Omega.{arith}
use Rattle.buffer.specs.Laws.Patch.{put_then}
use Rattle.losses_line.specs.Line.{line}
use Rattle.losses_line.specs.Laws.Line.{length-line}
use Rattle.losses_line.proofs.put_line.Goals as goal

pub put_with_end-a-requires : goal.put_with_end-a-requires
put_with_end-a-requires c =
    let a = c.args in
    omega (arith, length-line a.sequence a.program a.code)

pub put_with_end-b-requires : goal.put_with_end-b-requires
put_with_end-b-requires c =
    let a = c.args in
    let p = c.put_with_end-a in
    omega (arith, p.ensures.ends, p.auto.out, length-line a.sequence a.program a.code)

pub put_with_end-requires : goal.put_with_end-requires
put_with_end-requires c =
    let a = c.args in
    let p = c.put_with_end-a in
    let q = c.put_with_end-b in
    omega (arith, p.ensures.ends, p.auto.out, q.ensures.ends, q.auto.out, length-line a.sequence a.program a.code)

pub returns : goal.returns
unfolding line
returns c =
    let p = c.put_with_end-a in
    let q = c.put_with_end-b in
    let r = c.put_with_end in
    put_then p.ensures (put_then q.ensures r.ensures)
