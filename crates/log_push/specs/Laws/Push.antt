-- The log after the slots of what was sent are closed up. Assumes nothing.
use Rattle.std.specs.Prelude.{ℕ, ◌+◌, ◌*◌, ◌-◌, ◌<◌, ◌≡◌, List, ◌++◌, Bool, true, false, length, take, drop, replicate}
use Rattle.std.proofs.Common.{arith, sym, ap, ◌∙◌, subst, length-append, length-drop, length-take-le}
use Rattle.volume_tree.specs.Volume.{Volume}
use Rattle.log_rules.specs.Slot.{Slot, Log, is_waiting, sequence_of}
use Rattle.log_rules.specs.Stored.{head_bytes, slot_bytes, encode_slots, encode_log, read_log}
use Rattle.log_rules.specs.Change.{sent}
use Rattle.log_rules.specs.Sends.{sent_all}
use Rattle.log_rules.proofs.Laws.Geometry.{good-take, good-drop, good-both, used-good}
use Rattle.log_rules.proofs.Laws.Freed.{formed-rising, sent-at, sent-kept, kept-most, kept-good}
use Rattle.log_rules.specs.Code.Slots.{slots_in, slot_at, Logged, used_in}
use Rattle.log_rules.specs.Code.Flags.{chosen, kept, AllWait}
use Rattle.log_slots.specs.Laws.Head.{used-fewer, lent-slots}
use Rattle.log_send.specs.Code.Sends.{Sent}
use Rattle.log_push.specs.Code.Pushed.{Pushed}

-- One slot fewer than there were.
one_fewer : (l : List Slot) (i : ℕ) → i < length l → length (take i l ++ drop (i + 1) l) + 1 ≡ length l
one_fewer l i h =
    let a = length-take-le i l (omega arith) in
    let d = length-drop (i + 1) l in
    ap (λ (k : ℕ). k + 1) (length-append (take i l) (drop (i + 1) l)) ∙ omega arith

module _ (n b m : ℕ) (s : List ℕ) (u : Logged n b m s) (k : ℕ) (e : k ≡ used_in m s) where
  -- With the slot of a waiting operation closed up its operation is sent.
  pub slot-sent : (i : ℕ) → i < used_in m s → is_waiting (slot_at (read_log m s).slots i) ≡ true → (x : List ℕ)
      → x ≡ encode_slots (take i (slots_in (take (head_bytes + k * slot_bytes - head_bytes) (drop head_bytes s))) ++ drop (i + 1) (slots_in (take (head_bytes + k * slot_bytes - head_bytes) (drop head_bytes s)))) ++ replicate slot_bytes 0
      → take head_bytes s ++ (x ++ drop (head_bytes + k * slot_bytes - head_bytes) (drop head_bytes s)) ≡ encode_log m (sent (sequence_of (slot_at (read_log m s).slots i)) (read_log m s))
  slot-sent i h w x q =
      let l = read_log m s in
      let j = take i l.slots ++ drop (i + 1) l.slots in
      let g = used-good n b m s u in
      used-fewer n b m s u k e x j 1 (q ∙ ap (λ (y : List Slot). encode_slots (take i y ++ drop (i + 1) y) ++ replicate slot_bytes 0) (lent-slots n b m s u k e))
      (good-both n b (take i l.slots) (drop (i + 1) l.slots) (good-take n b i l.slots g) (good-drop n b (i + 1) l.slots g)) (one_fewer l.slots i h)
      ∙ ap (encode_log m) (sym (sent-at n b m l i u.form h w))

  -- With the slots of a set of waiting operations closed up these are sent.
  pub slots-sent : (fs : List ℕ) → AllWait fs (read_log m s).slots → (x : List ℕ)
      → x ≡ encode_slots (kept fs (slots_in (take (head_bytes + k * slot_bytes - head_bytes) (drop head_bytes s))))
      ++ replicate ((length (slots_in (take (head_bytes + k * slot_bytes - head_bytes) (drop head_bytes s))) - length (kept fs (slots_in (take (head_bytes + k * slot_bytes - head_bytes) (drop head_bytes s))))) * slot_bytes) 0
      → take head_bytes s ++ (x ++ drop (head_bytes + k * slot_bytes - head_bytes) (drop head_bytes s)) ≡ encode_log m (sent_all (chosen fs (read_log m s).slots) (read_log m s))
  slots-sent fs w x q =
      let l = read_log m s in
      let j = kept fs l.slots in
      let z = length l.slots - length j in
      let c = kept-most fs l.slots in
      used-fewer n b m s u k e x j z (q ∙ ap (λ (y : List Slot). encode_slots (kept fs y) ++ replicate ((length y - length (kept fs y)) * slot_bytes) 0) (lent-slots n b m s u k e))
      (kept-good n b fs l.slots (used-good n b m s u)) (omega arith)
      ∙ ap (encode_log m) (sym (sent-kept l (formed-rising n b m l u.form) fs w))

-- What was sent, or was not, tells the log that is left.
module _ (b m : ℕ) (v : Volume) (l : Log) (i : ℕ) (before s : List ℕ) (k : List Slot) (e : k ≡ l.slots) (r : Bool) (h : Sent b v (slot_at k i).recorded.operation s r) where
  told : Sent b v (slot_at l.slots i).recorded.operation s r
  told = subst (λ (y : List Slot). Sent b v (slot_at y i).recorded.operation s r) e h

  pub did-push : r ≡ true → (after : List ℕ) → after ≡ encode_log m (sent (sequence_of (slot_at l.slots i)) l) → Pushed b m v l i before after s true
  did-push t after q =
      let x : Sent b v (slot_at l.slots i).recorded.operation s true = subst (Sent b v (slot_at l.slots i).recorded.operation s) t told in
      record { server = x; log = rw (← x.answer) q }

  pub did-not-push : r ≡ false → Pushed b m v l i before before s false
  did-not-push t =
      let x : Sent b v (slot_at l.slots i).recorded.operation s false = subst (Sent b v (slot_at l.slots i).recorded.operation s) t told in
      record { server = x; log = rw (← x.answer) }
