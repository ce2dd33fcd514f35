-- Document 01, "Calls": what push, fsync, cut, take and renew answer.
use Rattle.std.specs.Prelude.{ℕ, List, [], ◌∷◌, ◌++◌, Bool, true, false, not, cond, length, leb, ltb}
use Rattle.std.specs.Prelude.{Option, None, Some}
use Rattle.std.proofs.Math.ListN
use Rattle.log_rules.specs.Stored.{record_bytes}
use Rattle.returned.specs.Returned
use Rattle.record.specs.Operation.{Record}
use Rattle.record.specs.Fields.{encode}
use Rattle.buffer.specs.Patch.{patch}
use Rattle.volume_tree.specs.Volume.{Volume}
use Rattle.volume_apply.specs.Apply.{applies}
use Rattle.log_rules.specs.Slot.{Log}
use Rattle.log_rules.specs.Order.{needed, preceded}
use Rattle.log_rules.specs.Change.{waiting_of, waiting_at, earliest, is_loss_of}
use Rattle.log_rules.specs.Sends.{applying}
use Rattle.session.specs.Call.{push, fsync, take, renew, Answer, answer}
use Rattle.session.specs.Refusal.{Row, row}
use Rattle.session.specs.Model.{Model, unless, bad_program, program_rows, object_rows}

-- what is asked of a record where one was found; where none was, given
abbrev pub of_record : Bool → Option Record → (Record → Bool) → Bool
of_record b None f = b
of_record b (Some r) f = f r

-- "15 Not first: a predecessor waits", "16 None: sequence not waiting", and "the second sense of 2 comes last"
unfoldable pub push_of : ℕ → Model → Answer
push_of q x =
    let r = waiting_at q x.log in
    unless (push q)
    (row Returned.not_first (of_record false r (preceded (waiting_of x.log.slots))) ∷ row Returned.none (of_record true r (λ a. false)) ∷ [])
    (answer (cond (of_record false r (λ a. applies x.server a.operation)) Returned.accepted Returned.damaged) [] [])

-- "An fsync whose bad operation is among the first k gives 2 .. keeps the sends before it and reports them"; "If k is at least d it
-- sends d"; "17 Link lost: fsync with k below d" "sends the first k, then cuts, and reports k"
abbrev pub sync_answer : ℕ → List Record → Volume → Answer
sync_answer k need v =
    let first = ListN.take k need in
    cond (ltb (applying first v) (length first)) (answer Returned.damaged (applying first v ∷ []) [])
    (cond (leb (length need) k) (answer Returned.accepted (length need ∷ []) []) (answer Returned.link_lost (k ∷ []) []))

-- what is asked before its sends: 3, 4, 7, 8
abbrev pub sync_rows : ℕ → ℕ → Volume → Log → List Row
sync_rows p o v l = program_rows l p ++ object_rows v o

unfoldable pub fsync_of : ℕ → ℕ → ℕ → Model → Answer
fsync_of p o k x =
    unless (fsync p o k)
    (sync_rows p o x.view x.log)
    (sync_answer k (needed o (waiting_of x.log.slots)) x.server)

-- the bytes of a loss
abbrev pub loss_bytes : Option Record → List ℕ
loss_bytes None = []
loss_bytes (Some r) = encode r

-- a program has no loss to take
abbrev pub no_loss : ℕ → Model → Bool
no_loss p x = of_record true (earliest (is_loss_of p) x.log.slots) (λ r. false)

-- "no loss to take"; "take below 1,040 bytes"; "List and take also fill their buffer from the start and leave the rest"; "Take and
-- renew skip 4"
unfoldable pub take_of : ℕ → List ℕ → Model → Answer
take_of p own x =
    let s = loss_bytes (earliest (is_loss_of p) x.log.slots) in
    unless (take p own) (bad_program p ∷ row Returned.none (no_loss p x) ∷ row Returned.short_buffer (ltb (length own) record_bytes) ∷ [])
    (answer Returned.accepted (length s ∷ []) (patch own 0 s))

-- "renew before the program took all losses of its own operations"
unfoldable pub renew_of : ℕ → Model → Answer
renew_of p x = unless (renew p) (bad_program p ∷ row Returned.losses_left (not (no_loss p x)) ∷ []) (answer Returned.accepted [] [])
