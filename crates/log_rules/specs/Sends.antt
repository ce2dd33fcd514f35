-- Document 01, "Calls": what fsync sends, "in issue order".
use Rattle.std.specs.Prelude.{ℕ, suc, List, [], ◌∷◌, cond}
use Rattle.record.specs.Operation.{Record}
use Rattle.volume_tree.specs.Volume.{Volume}
use Rattle.volume_apply.specs.Apply.{applies, apply}
use Rattle.log_rules.specs.Slot.{Log}
use Rattle.log_rules.specs.Change.{sent}

-- how many of some operations apply to a volume, one after the other, up to the first that does not
unfoldable pub applying : List Record → Volume → ℕ
applying [] v = 0
applying (r ∷ rs) v = cond (applies v r.operation) (suc (applying rs (apply v r.operation))) 0

-- what some operations leave of a volume, one after the other
unfoldable pub apply_all : List Record → Volume → Volume
apply_all [] v = v
apply_all (r ∷ rs) v = apply_all rs (apply v r.operation)

-- what their sends leave of the log
unfoldable pub sent_all : List Record → Log → Log
sent_all [] l = l
sent_all (r ∷ rs) l = sent_all rs (sent r.sequence l)
