-- What is known after the waiting operation at a position of a log was to be sent and its slot freed.
use Rattle.std.specs.Prelude.{ℕ, ◌≡◌, List, Bool, cond}
use Rattle.volume_tree.specs.Volume.{Volume}
use Rattle.volume_apply.specs.Apply.{applies}
use Rattle.log_rules.specs.Slot.{Log, sequence_of}
use Rattle.log_rules.specs.Stored.{encode_log}
use Rattle.log_rules.specs.Change.{sent}
use Rattle.log_rules.specs.Code.Slots.{slot_at}
use Rattle.log_send.specs.Code.Sends.{Sent}

-- "Push sends the waiting operation of a given sequence number and frees its slot"; where it does not apply nothing changes
pub record Pushed (b m : ℕ) (v : Volume) (l : Log) (i : ℕ) (before after : List ℕ) (s : List ℕ) (r : Bool) : Type 0 where
  pub server : Sent b v (slot_at l.slots i).recorded.operation s r
  pub log : after ≡ cond (applies v (slot_at l.slots i).recorded.operation) (encode_log m (sent (sequence_of (slot_at l.slots i)) l)) before
