-- `log_touch::set::add` meets its contract: the listed objects are put in before the fields. Assumes nothing.
use mathlib.Core.List.{append_assoc}
use Rattle.log_touch.proofs.set.add.Goals as goal

pub add_list-requires : goal.add_list-requires
add_list-requires c = rw c.stretch_of.ensures c.requires.listed

pub returns : goal.returns
returns c =
    λ p ops e held. rw (← e.objects, append_assoc) (c.add_fields.ensures _ (rw c.stretch_of.ensures at (c.add_list.ensures ops held)))
