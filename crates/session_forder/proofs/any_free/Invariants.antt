-- `session_forder::any_free` meets its contract. The invariant: the objects from i on decide the answer.
-- Assumes nothing.
use mathlib.Core.Path.{◌≡◌}
use lib.ListN.{drop}
use Rattle.record.specs.Fields.{objects_of}
use Rattle.volume_tree.specs.Stored.{read_volume}
use Rattle.log_rules.specs.Order.{any}
use Rattle.session.specs.Model.{is_free}
use Rattle.session_forder.proofs.any_free.Given as goal

abbrev pub invariant-loop-i : goal.invariant-loop-i
invariant-loop-i l =
    any (is_free (read_volume l.n l.b l.view)) (objects_of l.list) ≡ any (is_free (read_volume l.n l.b l.view)) (drop l.i (objects_of l.list))
