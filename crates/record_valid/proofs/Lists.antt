-- What a loop over a list of objects may use.
use Rattle.record.proofs.Laws.List.{count-objects, object-at, member-here, member-on, member-end, below_on, below-not, below_end, good-high, good-twice, good-on, good-end}

pub ruleset lists = (count-objects, object-at, member-here, member-on, member-end, below_on, below-not, below_end, good-high, good-twice, good-on, good-end)
