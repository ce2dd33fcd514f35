-- `log_order::needed` meets its contract: nothing is picked, and the one object is given. Assumes nothing.
use mathlib.Core.Path.{ap, ◌∙◌}
use mathlib.Core.List.{[], ◌∷◌}
use mathlib.Core.Bool.{false}
use lib.ListN.{length}
use Rattle.log_rules.specs.Change.{waiting_of}
use Rattle.log_rules.proofs.Laws.Needed.{needed-shares}
use Rattle.log_rules.specs.Code.Slots.{slots_in}
use Rattle.log_order.specs.Laws.Close.{none-picked}
use Rattle.log_order.proofs.needed.Goals as goal

pub returns : goal.returns
returns c =
    let a = c.args in
    let l = slots_in a.s.now in
    let k = c.closed.ensures (λ c. false) (a.object ∷ []) c.one.ensures (rw c.clear.ensures (none-picked l (length a.found.now) c.requires.object_bound.1)) in
    record {
      these = k.tells ∙ needed-shares a.object (waiting_of l);
      wait = k.wait;
      count = k.count ∙ ap length (needed-shares a.object (waiting_of l));
    }
