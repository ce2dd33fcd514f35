-- `log_send::send_found` meets its contract. The loop's invariant: the server has the operations that the set holds before the slot at i,
-- and with those that can yet be sent from there on they are all that can be sent.
-- Assumes nothing.
use mathlib.Core.Path.{◌≡◌}
use lib.ListN.{length}
use Rattle.volume_tree.specs.Stored.{read_volume}
use Rattle.log_rules.specs.Code.Slots.{slots_in}
use Rattle.log_send.specs.Laws.Turn.{Sending}
use Rattle.log_send.proofs.send_found.Given as goal

abbrev pub invariant-loop-i : goal.invariant-loop-i
invariant-loop-i l =
    (length l.found ≡ length l.initial.found) × Sending l.n l.b l.k (slots_in l.s) (read_volume l.n l.b l.initial.server) l.initial.found l.i l.server l.found l.tally
