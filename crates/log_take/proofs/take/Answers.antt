-- `log_take::take` meets its contract: the used slots are lent on as a part, first to read the record and then to close up its slot.
-- Assumes nothing.
use Rattle.log_slots.specs.Laws.Head.{lent-slotted}
use Rattle.log_take.specs.Laws.Take.{lent-place, lent_written, freed-back}
use Rattle.log_take.proofs.take.Goals as goal

pub put_loss-len-requires : goal.put_loss-len-requires
put_loss-len-requires c =
    let a = c.args in
    let e = c.used.ensures.1 256 64 c.requires.logged in
    record {
      slotted = lent-slotted 256 64 a.m a.log.now c.requires.logged c.used.result e;
      i_in_bounds = lent-place a.m a.log.now c.requires.logged e a.i c.requires.i_bound;
      record_bytes_in_bounds = c.requires.record_bytes_in_bounds;
    }

pub free_slot-requires : goal.free_slot-requires
free_slot-requires c =
    let a = c.args in
    let e = c.used.ensures.1 256 64 c.requires.logged in
    record {
      slotted = lent-slotted 256 64 a.m a.log.now c.requires.logged c.used.result e;
      i_in_bounds = lent-place a.m a.log.now c.requires.logged e a.i c.requires.i_bound;
    }

pub returns : goal.returns
returns c =
    let a = c.args in
    let e = c.used.ensures.1 256 64 c.requires.logged in
    record {
      written = lent_written a.m a.log.now c.requires.logged e a.i c.requires.i_bound c.put_loss-len.ensures;
      log_after = freed-back a.m a.log.now c.requires.logged e a.i c.requires.i_bound c.free_slot.ensures;
    }
