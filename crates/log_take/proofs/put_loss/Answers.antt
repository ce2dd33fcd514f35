-- `log_take::put_loss` meets its contract: the reader finds the slot's record, and the bytes up to the place after it are put.
-- Assumes nothing.
use native.Mathlib.Omega.{arith}
use Rattle.volume_tree.specs.Laws.Answer.{settled}
use Rattle.log_take.specs.Laws.Take.{record-there, loss-next, loss-most, loss-written}
use Rattle.log_take.proofs.put_loss.Goals as goal

pub returns-in_default : goal.returns-in_default
returns-in_default c =
    absurd (record-there c.args.s.now c.requires.slotted c.args.i c.requires.i_in_bounds c.recorded-rec.result.now c.recorded-rec.ensures.0
    (settled c.in_default.is c.read_record.ensures.value))

pub slice_bounds-put_bytes-end : goal.slice_bounds-put_bytes-end
slice_bounds-put_bytes-end c =
    loss-next c.args.s.now c.requires.slotted c.args.i c.requires.i_in_bounds c.recorded-rec.result.now c.recorded-rec.ensures.0
    c.in-Some.w c.in-Some.ensures.value

pub put_bytes-requires : goal.put_bytes-requires
put_bytes-requires c =
    let l = loss-most c.args.s.now c.requires.slotted c.args.i c.requires.i_in_bounds c.recorded-rec.result.now c.recorded-rec.ensures.0
    c.in-Some.w c.in-Some.ensures.value in
    omega (arith, l, c.requires.record_bytes_in_bounds)

pub returns : goal.returns
returns c =
    loss-written c.args.s.now c.requires.slotted c.args.i c.requires.i_in_bounds c.recorded-rec.result.now c.recorded-rec.ensures.0
    c.in-Some.w c.in-Some.ensures.value c.put_bytes.ensures
