-- `log_slots::head::next_number` meets its contract. Assumes nothing.
use Rattle.log_rules.specs.Stored.{read_head, read_log}
use Rattle.log_slots.proofs.head.next_number.Goals as goal

pub returns : goal.returns
unfolding read_log read_head
returns c = (c.four_at.ensures.0, c.four_at.ensures.1)
