-- `log_order::some_precedes` ends: the position falls at each call, and with it the candidate's sequence number. Assumes nothing.
use Rattle.log_order.proofs.+some_precedes.Given as goal

abbrev pub decreases-some_precedes : goal.decreases-some_precedes
decreases-some_precedes l = l.i
