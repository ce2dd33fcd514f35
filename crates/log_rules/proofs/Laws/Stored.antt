-- A log and its bytes determine each other.
use Rattle.std.specs.Prelude.{ℕ, zero, suc, ◌+◌, ◌*◌, ◌-◌, ◌%◌, ◌^◌, ◌<◌, ◌≡◌, refl, List, [], ◌∷◌, ◌++◌, Bool, true, false, ◌&&◌, cond, length, get_or, take, drop, replicate}
use Rattle.std.proofs.Common.{arith, ap, ◌∙◌, append_assoc, length-append, take_all, take_at, drop_at, get_or-take}
use Rattle.std.proofs.Math.Bool.{and-eq-true_iff}
use Rattle.std.specs.Prelude.{None, Some}
use Rattle.buffer.specs.Numeral.{bytes, numeral}
use Rattle.buffer.specs.Patch.{patch}
use Rattle.buffer.specs.Laws.Numeral.{numeral-bytes}
use Rattle.record.specs.Operation.{Record}
use Rattle.record.specs.Fields.{encode, valid}
use Rattle.record.specs.Decode.{decode_record}
use Rattle.record.proofs.Laws.Record.{encode-length}
use Rattle.record.proofs.Laws.Decode.{decode-encoded}
use Rattle.volume_entry.specs.Stored.{padded, same_bytes}
use Rattle.volume_entry.specs.Laws.Entry.{same_bytes-eq, bytes_same, length-padded}
use Rattle.log_rules.specs.Slot.{State, waiting, lost, state_number, Slot, Log, with_marks, good_slots, well_formed_log}
use Rattle.log_rules.specs.Stored.{marks_at, head_bytes, slot_bytes, dependents_at, record_bytes, log_bytes, encode_slot, encode_slots, encode_head, encode_log, record_part, slot_from, read_slot, read_slots, read_head, read_log, decode_log}
use Rattle.log_rules.proofs.Laws.Slot.{slots-inv, formed-inv}
use Rattle.log_rules.proofs.Laws.Head.{length-head, behind-head, read-head, marks-put}

-- the record's part of a slot is filled
part-long : (s : Slot) → valid s.recorded ≡ true → length (padded record_bytes (encode s.recorded)) ≡ record_bytes
part-long s h = length-padded record_bytes (encode s.recorded) (encode-length s.recorded h).1

-- the bytes of one slot are so many
pub length-slot : (s : Slot) → valid s.recorded ≡ true → length (encode_slot s) ≡ slot_bytes
unfolding encode_slot bytes
length-slot s h = let p = part-long s h in omega arith

-- the bytes of so many good slots
pub length-slots : (n b : ℕ) (l : List Slot) → good_slots n b l ≡ true → length (encode_slots l) ≡ length l * slot_bytes
unfolding encode_slots
length-slots n b [] h = refl
length-slots n b (s ∷ l) h =
    let g = slots-inv n b s l h in
    let a = length-slot s g.0.sound in
    let r = length-slots n b l g.1 in
    length-append (encode_slot s) (encode_slots l) ∙ omega arith

-- a well-formed log has the bytes of its head and of its m slots
pub length-log : (n b m : ℕ) (l : Log) → well_formed_log n b m l ≡ true → length (encode_log m l) ≡ log_bytes m
unfolding encode_log
length-log n b m l h =
    let f = formed-inv n b m l h in
    let c = f.count in
    let e = length-slots n b l.slots f.good in
    let p = length-padded (m * slot_bytes) (encode_slots l.slots) (omega arith) in
    length-append (encode_head l.head) _ ∙ omega (arith, length-head l.head)

-- other marks put into a log's bytes
pub marks-stored : (m v : ℕ) (l : Log) → patch (encode_log m l) marks_at (bytes 4 v) ≡ encode_log m (with_marks v l)
unfolding encode_log
marks-stored m v l = marks-put v l _

-- the loss record and the zeros behind it, in a slot's bytes
pub record-held : (s : Slot) → valid s.recorded ≡ true → record_part (encode_slot s) ≡ padded record_bytes (encode s.recorded)
unfolding encode_slot bytes
record-held s h = let p = part-long s h in take_all record_bytes _ (omega arith)

slot-record : (s : Slot) → valid s.recorded ≡ true → decode_record (record_part (encode_slot s)) ≡ Some s.recorded
slot-record s h = ap decode_record (record-held s h) ∙ decode-encoded s.recorded (replicate (record_bytes - length (encode s.recorded)) 0) h

pub slot-dependents : (s : Slot) → s.dependents < 2 ^ 32 → numeral (take 4 (drop dependents_at (encode_slot s))) ≡ s.dependents
unfolding encode_slot bytes
slot-dependents s d = numeral-bytes 4 s.dependents d

pub slot-state : (s : Slot) → get_or (encode_slot s) 0 0 ≡ state_number s.state % 256
unfolding encode_slot bytes
slot-state s = refl

state-back : (t : State) (d : ℕ) (r : Record) → slot_from (state_number t % 256) d (Some r) ≡ Some (record { state = t; dependents = d; recorded = r })
state-back waiting d r = refl
state-back lost d r = refl

-- a slot is read back from its bytes
pub read-slot : (s : Slot) → valid s.recorded ≡ true → s.dependents < 2 ^ 32 → read_slot (encode_slot s) ≡ Some s
unfolding read_slot
read-slot s h d = rw (slot-state s, slot-dependents s d, slot-record s h) (state-back s.state s.dependents s.recorded)

zeros-start : (k : ℕ) → ◌≡◌ {A = ℕ} (get_or (replicate k 0) 0 0) 0
zeros-start zero = refl
zeros-start (suc k) = refl

-- "0 free": zeros are no used slot
pub read-free : (k : ℕ) → read_slot (take slot_bytes (replicate k 0)) ≡ None
unfolding read_slot
read-free k =
    let e : ◌≡◌ {A = ℕ} (get_or (take slot_bytes (replicate k 0)) 0 0) 0 = get_or-take slot_bytes (replicate k 0) 0 0 (omega arith) ∙ zeros-start k in
    rw e

-- the used slots are read back from their bytes, with zeros behind them
pub read-slots : (n b m k : ℕ) (l : List Slot) → good_slots n b l ≡ true → length (encode_slots l) + k ≡ m * slot_bytes → read_slots m (encode_slots l ++ replicate k 0) ≡ l
unfolding read_slots encode_slots
read-slots n b zero k [] h e = refl
read-slots n b (suc m) k [] h e = rw (read-free k)
read-slots n b zero k (s ∷ l) h e =
    let g = slots-inv n b s l h in
    let a = length-slot s g.0.sound in
    let c = length-append (encode_slot s) (encode_slots l) in
    absurd (omega arith)
read-slots n b (suc m) k (s ∷ l) h e =
    let g = slots-inv n b s l h in
    let a = length-slot s g.0.sound in
    let c = length-append (encode_slot s) (encode_slots l) in
    let as₁ = append_assoc (encode_slot s) (encode_slots l) (replicate k 0) in
    let t = take_at (encode_slot s) (encode_slots l ++ replicate k 0) slot_bytes a in
    let d = drop_at (encode_slot s) (encode_slots l ++ replicate k 0) slot_bytes a in
    let r = read-slot s g.0.sound g.0.small in
    rw (as₁, t, d, r) (ap (λ (y : List Slot). s ∷ y) (read-slots n b m k l g.1 (omega arith)))

-- a well-formed log is read back from its bytes
pub read-log : (n b m : ℕ) (l : Log) → well_formed_log n b m l ≡ true → read_log m (encode_log m l) ≡ l
unfolding read_log encode_log
read-log n b m l h =
    let f = formed-inv n b m l h in
    let c = f.count in
    let z = encode_slots l.slots in
    let u = length-slots n b l.slots f.good in
    let e : read_head (encode_head l.head ++ padded (m * slot_bytes) z) ≡ l.head = read-head l.head _ f.head in
    let r : read_slots m (drop head_bytes (encode_head l.head ++ padded (m * slot_bytes) z)) ≡ l.slots =
    ap (read_slots m) (behind-head l.head _) ∙ read-slots n b m (m * slot_bytes - length z) l.slots f.good (omega arith) in
    λ i. record { head = e i; slots = r i }

-- bytes taken for a log are those of that log, which is well formed
pub encode-decode : (n b m : ℕ) (s : List ℕ) (l : Log) → decode_log n b m s ≡ Some l → (well_formed_log n b m l ≡ true) × (encode_log m l ≡ s)
unfolding decode_log
encode-decode n b m s l e = go (well_formed_log n b m (read_log m s) && same_bytes (encode_log m (read_log m s)) s) refl e
  where
    go : (t : Bool) → (well_formed_log n b m (read_log m s) && same_bytes (encode_log m (read_log m s)) s) ≡ t → cond t (Some (read_log m s)) None ≡ Some l
        → (well_formed_log n b m l ≡ true) × (encode_log m l ≡ s)
    go false h d = let z : ◌≡◌ {A = ℕ} 0 1 = cc in absurd (omega arith)
    go true h d =
        let is : read_log m s ≡ l = cc in
        let g = (and-eq-true_iff (well_formed_log n b m (read_log m s)) (same_bytes (encode_log m (read_log m s)) s)).0 h in
        (rw is at g.0, rw is at (same_bytes-eq (encode_log m (read_log m s)) s g.1))

-- the bytes of a well-formed log are taken for it, whatever n, b and m
pub decode-encode : (n b m : ℕ) (l : Log) → well_formed_log n b m l ≡ true → decode_log n b m (encode_log m l) ≡ Some l
unfolding decode_log
decode-encode n b m l h = rw (read-log n b m l h, h, bytes_same (encode_log m l))

-- no bytes are those of two well-formed logs
pub encode_injective : (n b m : ℕ) (l k : Log) → well_formed_log n b m l ≡ true → well_formed_log n b m k ≡ true → encode_log m l ≡ encode_log m k → l ≡ k
encode_injective n b m l k g h e =
    let p : decode_log n b m (encode_log m l) ≡ Some l = decode-encode n b m l g in
    let q : decode_log n b m (encode_log m k) ≡ Some k = decode-encode n b m k h in
    cc
