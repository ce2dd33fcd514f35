-- `log_touch::set::shares_any` meets its contract: the fields are asked, then the listed objects. Assumes nothing.
use Rattle.record.specs.Fields.{objects_of}
use Rattle.log_rules.specs.Order.{shares}
use Rattle.log_touch.specs.Laws.Loop.{shares-front}
use Rattle.log_touch.proofs.set.shares_any.Goals as goal

pub returns-then-shares_fields : goal.returns-then-shares_fields
returns-then-shares_fields c = λ p ops e held. rw (← e.objects, shares-front, ← c.shares_fields.ensures ops held, c.if-shares_fields.true)

pub returns-then-list-eq0 : goal.returns-then-list-eq0
unfolding objects_of shares
returns-then-list-eq0 c =
    λ p ops e held. rw (← e.objects, shares-front, ← c.shares_fields.ensures ops held, c.if-shares_fields.false, c.if-list-eq0.true)

pub shares_list-requires : goal.shares_list-requires
shares_list-requires c = rw c.stretch_of.ensures c.requires.listed

pub returns : goal.returns
returns c =
    λ p ops e held. rw (← e.objects, shares-front, ← c.shares_fields.ensures ops held, c.if-shares_fields.false, ← c.stretch_of.ensures) (c.shares_list.ensures ops held)
