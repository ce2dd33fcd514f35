-- The loss record in the bytes of a slot, and what freeing one slot leaves of a log. Assumes nothing.
use Rattle.std.specs.Prelude.{ℕ, zero, suc, ◌+◌, ◌*◌, ◌-◌, ◌≤◌, ◌<◌, ◌≡◌, List, [], ◌∷◌, ◌++◌, true, length, take, drop, replicate, None}
use Rattle.std.proofs.Common.{add-one, arith, sym, ap, ◌∙◌, length-append, length-drop, length-take-le}
use Rattle.std.specs.Prelude.{Some}
use Rattle.buffer.specs.Patch.{Put}
use Rattle.record.specs.Fields.{encode}
use Rattle.record.proofs.Laws.Record.{encode-length}
use Rattle.record_reader.specs.declared.Whole.{Whole}
use Rattle.record_reader.specs.Code.Reader.{record_at}
use Rattle.volume_entry.specs.Stored.{padded}
use Rattle.volume_applies.specs.Laws.Held.{held-there, held_next, held_bytes}
use Rattle.log_rules.specs.Slot.{Slot, Log, with_slots, good_slots}
use Rattle.log_rules.specs.Stored.{head_bytes, slot_bytes, record_bytes, encode_slots, encode_log, read_log}
use Rattle.log_rules.specs.Change.{is_loss_of, earliest, taken}
use Rattle.log_rules.proofs.Laws.Slot.{slots-inv, slots-of}
use Rattle.log_rules.proofs.Laws.Geometry.{used-good}
use Rattle.log_rules.specs.Code.Slots.{slots_in, slot_at, Slotted, Logged, used_in}
use Rattle.log_slots.specs.Laws.Slot.{record-valid}
use Rattle.log_slots.specs.Laws.Head.{lent_part, lent-slots, used-fewer}
use Rattle.log_find.specs.Code.Found.{FoundBy}
use Rattle.log_find.specs.Laws.Found.{found-earliest, found-removed}
use Rattle.log_take.specs.Code.Taken.{Written, freed_at}

module _ (s : List ℕ) (u : Slotted s) (i : ℕ) (lt : i < length (slots_in s)) (t : List ℕ) (h : t ≡ padded record_bytes (encode (slot_at (slots_in s) i).recorded)) where
  -- The reader finds the loss record of a slot in its bytes.
  pub record-there : None ≡ record_at t 0 → ⊥
  record-there = held-there t (slot_at (slots_in s) i).recorded _ (record-valid s u i lt) h

  module _ (w : Whole) (q : Some w ≡ record_at t 0) where
    loss-bytes : take w.next.at t ≡ encode (slot_at (slots_in s) i).recorded
    loss-bytes = held_bytes t (slot_at (slots_in s) i).recorded _ (record-valid s u i lt) h w q

    -- The bytes up to the place after it are so many, and fit where its longest would.
    pub loss-next : w.next.at ≡ length (take w.next.at t)
    loss-next = held_next t (slot_at (slots_in s) i).recorded _ (record-valid s u i lt) h w q ∙ sym (ap length loss-bytes)

    pub loss-most : length (take w.next.at t) ≤ record_bytes
    loss-most = rw loss-bytes (encode-length (slot_at (slots_in s) i).recorded (record-valid s u i lt)).1

    -- Putting these bytes is writing the record.
    pub loss-written : {x y : List ℕ} {z : ℕ} → Put (take w.next.at t) 0 x y z → Written (slot_at (slots_in s) i).recorded x y z
    loss-written p = record { placed = rw loss-bytes at p.placed; long = omega (arith, p.ends, ap length loss-bytes) }

-- Good slots without one of them are good, and one fewer.
freed-good : (n b i : ℕ) (l : List Slot) → good_slots n b l ≡ true → good_slots n b (take i l ++ drop (suc i) l) ≡ true
freed-good n b zero [] h = h
freed-good n b zero (s ∷ l) h = (slots-inv n b s l h).1
freed-good n b (suc i) [] h = h
freed-good n b (suc i) (s ∷ l) h = let g = slots-inv n b s l h in slots-of n b s (take i l ++ drop (suc i) l) g.0 (freed-good n b i l g.1)

freed-length : (i : ℕ) (l : List Slot) → i < length l → length (take i l ++ drop (suc i) l) + 1 ≡ length l
freed-length i l h = rw (length-append, length-take-le i l (omega arith), length-drop) (omega arith)

module _ (m : ℕ) (s : List ℕ) (u : Logged 256 64 m s) {k : ℕ} (e : k ≡ used_in m s) (i : ℕ) (lt : i < used_in m s) where
  -- The position is that of a slot in the part that is lent on.
  pub lent-place : i < length (slots_in (lent_part k s))
  lent-place = rw (lent-slots 256 64 m s u k e) lt

  -- The record that is written is that of the log's slot.
  pub lent_written : {x y : List ℕ} {z : ℕ} → Written (slot_at (slots_in (lent_part k s)) i).recorded x y z → Written (slot_at (read_log m s).slots i).recorded x y z
  lent_written p = rw (lent-slots 256 64 m s u k e) at p

  -- What comes back with that slot closed up is the log without it.
  pub freed-back : {x : List ℕ} → x ≡ encode_slots (take i (slots_in (lent_part k s)) ++ drop (i + 1) (slots_in (lent_part k s))) ++ replicate slot_bytes 0
      → take head_bytes s ++ (x ++ drop (head_bytes + k * slot_bytes - head_bytes) (drop head_bytes s)) ≡ encode_log m (freed_at i (read_log m s))
  freed-back {x} h =
      let l = (read_log m s).slots in
      let j : i + 1 ≡ suc i = add-one i in
      used-fewer 256 64 m s u k e x (take i l ++ drop (i + 1) l) 1 (h ∙ rw (lent-slots 256 64 m s u k e))
      (rw j (freed-good 256 64 i l (used-good 256 64 m s u))) (rw j (freed-length i l lt))

-- "Take writes the earliest loss of a program and frees its slot": where that loss was found, freeing the slot there is a take,
-- and its record is the earliest.
pub found-taken : (p i : ℕ) (l : Log) → FoundBy (is_loss_of p) l.slots (Some i)
    → (freed_at i l ≡ taken p l) × (earliest (is_loss_of p) l.slots ≡ Some (slot_at l.slots i).recorded)
found-taken p i l h =
    (ap (λ (z : List Slot). with_slots z l) (sym (found-removed (is_loss_of p) l.slots i h)), found-earliest (is_loss_of p) l.slots i h)
