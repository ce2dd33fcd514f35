-- The used slots in their bytes: where each lies, what its bytes hold, and what a change of one leaves.
-- Assumes nothing.
use Rattle.std.specs.Prelude.{ℕ, ◌+◌, ◌*◌, ◌/◌, ◌%◌, ◌≤◌, ◌<◌, ◌≡◌, refl, List, ◌++◌, true, length, get_or, set, take, drop, leb, eqb}
use Rattle.std.proofs.Common.{arith, ap, ◌∙◌, leb-true}
use Rattle.std.proofs.Math.Bool.{and-eq-true_iff}
use Rattle.buffer.specs.Numeral.{bytes, numeral}
use Rattle.buffer.specs.Laws.Numeral.{numeral-bytes}
use Rattle.buffer.specs.Patch.{patch}
use Rattle.record.specs.Operation.{Record}
use Rattle.record.specs.Fields.{encode, head_bytes, between, valid_head, valid}
use Rattle.record.proofs.Laws.Record.{valid-inv}
use Rattle.volume_entry.specs.Laws.Write.{patch-inside}
use Rattle.log_rules.specs.Slot.{State, waiting, lost, state_number, Slot, with_state, with_dependents, is_waiting, sequence_of}
use Rattle.log_rules.specs.Stored.{slot_bytes, dependents_at, record_start, encode_slot, encode_slots}
use Rattle.log_rules.proofs.Laws.Stored.{length-slot, slot-state}
use Rattle.log_rules.proofs.Laws.Geometry.{good-at, slotted-length, slot-stored, slot-set}
use Rattle.log_rules.specs.Code.Slots.{slots_in, slot_at, Slotted}

-- There are as many used slots as their bytes have room for.
pub slots-count : (s : List ℕ) → Slotted s → length s / slot_bytes ≡ length (slots_in s)
slots-count s h = omega (arith, slotted-length s h)

-- Each slot lies wholly in the bytes of used slots.
pub slot-room : (s : List ℕ) → Slotted s → (i : ℕ) → i < length (slots_in s) → i * slot_bytes + slot_bytes ≤ length s
slot-room s h i l = omega (arith, slotted-length s h)

-- A slot of bytes of used slots has a valid record, and its bytes are so many.
pub record-valid : (s : List ℕ) → Slotted s → (i : ℕ) → i < length (slots_in s) → valid (slot_at (slots_in s) i).recorded ≡ true
record-valid s h i l = (good-at 256 64 (slots_in s) i h.good l).sound

pub slot-long : (s : List ℕ) → Slotted s → (i : ℕ) → i < length (slots_in s) → length (encode_slot (slot_at (slots_in s) i)) ≡ slot_bytes
slot-long s h i l = length-slot (slot_at (slots_in s) i) (record-valid s h i l)

-- A valid record's sequence number and program are within their limits.
pub head-limits : (r : Record) → valid r ≡ true → (r.sequence < 4294967295) × (r.program < 32)
unfolding valid_head
head-limits r h =
    let x = (and-eq-true_iff (between 1 4294967294 r.sequence) (between 0 31 r.program)).0 (valid-inv r h).head in
    let y = (and-eq-true_iff (leb 1 r.sequence) (leb r.sequence 4294967294)).0 x.0 in
    let z = (and-eq-true_iff (leb 0 r.program) (leb r.program 31)).0 x.1 in
    (omega (arith, leb-true r.sequence 4294967294 y.1), omega (arith, leb-true r.program 31 z.1))

-- The state, and the record's sequence number and program, in a slot's bytes.
pub state-held : (s : Slot) → eqb (get_or (encode_slot s) 0 0) 1 ≡ is_waiting s
state-held s = ap (λ (k : ℕ). eqb k 1) (slot-state s) ∙ go s.state
  where
    go : (t : State) → eqb (state_number t % 256) 1 ≡ eqb (state_number t) 1
    go waiting = refl
    go lost = refl

pub sequence-held : (s : Slot) → valid s.recorded ≡ true → numeral (take 4 (drop (record_start + 2) (encode_slot s))) ≡ sequence_of s
unfolding encode_slot bytes encode head_bytes
sequence-held s h = numeral-bytes 4 s.recorded.sequence (omega (arith, (head-limits s.recorded h).0))

pub program-held : (s : Slot) → valid s.recorded ≡ true → get_or (encode_slot s) (record_start + 6) 0 ≡ s.recorded.program
unfolding encode_slot bytes encode head_bytes
program-held s h = omega (arith, (head-limits s.recorded h).1)

-- A put inside a slot is a change of that slot, if its bytes become those of another.
pub slot-put : (s : List ℕ) → Slotted s → (i : ℕ) → i < length (slots_in s) → (off : ℕ) (u : List ℕ) (t : Slot) → off + length u ≤ slot_bytes
    → valid t.recorded ≡ true → patch (encode_slot (slot_at (slots_in s) i)) off u ≡ encode_slot t
    → patch s (i * slot_bytes + off) u ≡ encode_slots (set (slots_in s) i t)
slot-put s h i l off u t k v e =
    patch-inside s (i * slot_bytes) slot_bytes off u k (slot-room s h i l)
    ∙ ap (λ (x : List ℕ). patch s (i * slot_bytes) (patch x off u)) (slot-stored s h i l)
    ∙ ap (patch s (i * slot_bytes)) e
    ∙ slot-set s h i l t (length-slot t v)

-- Other dependents, by a put of 4 bytes behind the state; and a lost one, by a put of the state and the dependents.
pub dependents-put : (d : ℕ) (s : Slot) → patch (encode_slot s) dependents_at (bytes 4 d) ≡ encode_slot (with_dependents d s)
unfolding encode_slot bytes patch
dependents-put d s = refl

pub lost-put : (s : Slot) → patch (encode_slot s) 0 (bytes 4 2 ++ bytes 4 0) ≡ encode_slot (with_state lost (with_dependents 0 s))
unfolding encode_slot bytes patch
lost-put s = refl
