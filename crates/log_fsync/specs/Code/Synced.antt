-- What fsync answers, and what it leaves of the server and the log.
use Rattle.std.specs.Prelude.{ℕ, ◌≡◌, List, [], ◌∷◌, cond, length, take, leb, ltb}
use Rattle.record.specs.Operation.{Record}
use Rattle.volume_tree.specs.Volume.{Volume}
use Rattle.volume_tree.specs.Stored.{encode_volume}
use Rattle.log_rules.specs.Slot.{Log}
use Rattle.log_rules.specs.Stored.{encode_log}
use Rattle.log_rules.specs.Order.{needed}
use Rattle.log_rules.specs.Change.{waiting_of, note, discard}
use Rattle.log_rules.specs.Sends.{applying, apply_all, sent_all}
use Rattle.log_fsync.specs.declared.Synced.{Synced}
use Rattle.log_fsync.specs.declared.Synced.TheVariants.{Sent, Stopped, Lost}
use Rattle.log_fsync.specs.Answer.{sends_made}

-- "It needs d sends: all waiting operations with that object as operand and their predecessors, in issue order."
abbrev pub needed_in : ℕ → Log → List Record
needed_in o l = needed o (waiting_of l.slots)

-- "An fsync whose bad operation is among the first k gives 2 .. keeps the sends before it and reports them"; "If k is at least d it
-- sends d"; refusal 17 "sends the first k .. and reports k"
unfoldable pub sync_result : ℕ → List Record → Volume → Synced
sync_result k need v =
    cond (ltb (applying (take k need) v) (length (take k need))) (Stopped (applying (take k need) v)) (cond (leb (length need) k) (Sent (length need)) (Lost k))

-- the log after them: dependence is noted unless an operation did not apply, and what the link did not carry is discarded
abbrev pub synced_log : ℕ → ℕ → List Record → Log → Synced → Log
synced_log p o need l (Sent d) = sent_all (take d need) (note p (o ∷ []) l)
synced_log p o need l (Stopped d) = sent_all (take d need) l
synced_log p o need l (Lost d) = discard (sent_all (take d need) (note p (o ∷ []) l))

-- the answer, and the bytes of the server and of the log
pub record SyncLeaves (b m p o k : ℕ) (v : Volume) (l : Log) (server log : List ℕ) (r : Synced) : Type 0 where
  pub gives : r ≡ sync_result k (needed_in o l) v
  pub sent_to : server ≡ encode_volume b (apply_all (take (sends_made r) (needed_in o l)) v)
  pub leaves : log ≡ encode_log m (synced_log p o (needed_in o l) l r)
