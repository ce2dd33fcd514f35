-- What is known after one operation of a log was to be sent, after each turn of a set of them, and after them all.
use Rattle.std.specs.Prelude.{ℕ, zero, suc, ◌+◌, ◌<◌, ◌≡◌, ◌⊎◌, List, [], ◌∷◌, Bool, true, false, cond, length, get_or, set, take}
use Rattle.record.specs.Operation.{Operation, Record}
use Rattle.volume_tree.specs.Volume.{Volume}
use Rattle.volume_tree.specs.Stored.{encode_volume}
use Rattle.volume_apply.specs.Apply.{applies, apply}
use Rattle.log_rules.specs.Slot.{Slot}
use Rattle.log_rules.specs.Change.{sent}
use Rattle.log_rules.specs.Sends.{applying, apply_all}
use Rattle.log_rules.specs.Code.Flags.{stands, chosen, AllWait}
use Rattle.log_send.specs.declared.Tally.{Tally}

-- "an operation being sent" is applied to the server if it applies, and the result tells whether it did
pub record Sent (b : ℕ) (v : Volume) (o : Operation) (s : List ℕ) (r : Bool) : Type 0 where
  pub answer : r ≡ applies v o
  pub server : s ≡ encode_volume b (cond (applies v o) (apply v o) v)

-- how many were sent, and how many may be at most
abbrev pub tally : ℕ → ℕ → Tally
tally sent most = record { sent = sent; most = most }

-- of some operations, in issue order, those that are sent to a volume: at most k, and up to the first that does not apply
unfoldable pub sendable : ℕ → List Record → Volume → List Record
sendable zero rs v = []
sendable (suc k) [] v = []
sendable (suc k) (r ∷ rs) v = cond (applies v r.operation) (r ∷ sendable k rs (apply v r.operation)) []

-- the turn of the operation at a position: it is not in the set; or it is sent; or it is not and leaves the set, so that no
-- later one is sent
pub data Turn (b : ℕ) (v : Volume) (o : Operation) (i : ℕ) (found : List ℕ) (t : Tally) (s kept : List ℕ) (r : Tally) : Type 0 where
  passed : stands found i ≡ false → s ≡ encode_volume b v → kept ≡ found → r ≡ t → Turn b v o i found t s kept r
  went : stands found i ≡ true → t.sent < t.most → applies v o ≡ true → s ≡ encode_volume b (apply v o)
      → kept ≡ found → r ≡ tally (t.sent + 1) t.most → Turn b v o i found t s kept r
  stopped : stands found i ≡ true → (t.sent < t.most → applies v o ≡ false) → s ≡ encode_volume b v
      → kept ≡ set found i 0 → r ≡ tally t.sent t.sent → Turn b v o i found t s kept r

-- a set from which some slots were taken out: every other byte is as before
abbrev pub Left : List ℕ → List Slot → List ℕ → Type 0
Left found l kept = (j : ℕ) → (get_or kept j 0 ≡ get_or found j 0) ⊎ ((j < length l) × (stands found j ≡ true) × (get_or kept j 0 ≡ 0))

-- "Fsync's counted sends within k": of the operations in a set the first that apply, at most k, are sent, and just those are
-- left in the set
pub record SentFound (b k : ℕ) (l : List Slot) (v : Volume) (found : List ℕ) (s kept : List ℕ) (r : ℕ) : Type 0 where
  pub count : r ≡ applying (take k (chosen found l)) v
  pub server : s ≡ encode_volume b (apply_all (take r (chosen found l)) v)
  pub first : chosen kept l ≡ take r (chosen found l)
  pub waits : AllWait found l → AllWait kept l
  pub others : Left found l kept
