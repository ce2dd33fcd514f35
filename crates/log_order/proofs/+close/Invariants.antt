-- `log_order::close` ends: the position falls at each call, and with it the candidate's sequence number. Assumes nothing.
use Rattle.log_order.proofs.+close.Given as goal

abbrev pub decreases-close : goal.decreases-close
decreases-close l = l.i
