-- `losses_line::put_bad` meets its contract: the word and its space are put, and the offset behind them.
-- Assumes nothing.
use native.Mathlib.Omega.{arith}
use Rattle.buffer.specs.Laws.Patch.{put_then}
use Rattle.losses_line.specs.Line.{bad_line}
use Rattle.losses_line.specs.Laws.Line.{length-bad}
use Rattle.losses_line.proofs.put_bad.Goals as goal

pub put_bytes-next-requires : goal.put_bytes-next-requires
put_bytes-next-requires c = omega (arith, length-bad c.args.offset)

pub put_with_end-requires : goal.put_with_end-requires
put_with_end-requires c =
    let p = c.put_bytes-next in
    omega (arith, p.ensures.ends, p.auto.buf, length-bad c.args.offset)

pub returns : goal.returns
unfolding bad_line
returns c =
    let p = c.put_bytes-next in
    put_then p.ensures c.put_with_end.ensures
