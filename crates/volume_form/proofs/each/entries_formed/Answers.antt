-- `volume_form::each::entries_formed` meets its contract: the two tests that are run are those of the definition.
-- Assumes nothing.
use Rattle.std.proofs.Common.{◌≡◌, true, false, eqb, ◌||◌}
use Rattle.volume_entry_form.specs.Code.Check.{entry_formed, root_formed}
use Rattle.volume_tree.specs.Code.Lent.{entry_part}
use Rattle.volume_form.specs.Code.Checks.{entries_formed}
use Rattle.volume_form.proofs.each.entries_formed.Goals as goal

pub returns-then-root_formed : goal.returns-then-root_formed
unfolding entries_formed
returns-then-root_formed c =
    let a = c.args in
    let t : root_formed (entry_part a.b a.s.now 0) ≡ true = cc in
    rw t (c.every.ensures (λ i. eqb i 0 || entry_formed a.b (entry_part a.b a.s.now i)) (λ i r h e. cc))

pub returns : goal.returns
unfolding entries_formed
returns c = let t : root_formed (entry_part c.args.b c.args.s.now 0) ≡ false = cc in rw t
