-- Document 01, "Geometry and stored form": the bytes of a log, and the log of some bytes.
use Rattle.std.specs.Prelude.{ℕ, zero, suc, ◌+◌, ◌*◌, List, [], ◌∷◌, ◌++◌, Bool, ◌&&◌, cond, length, get_or, take, drop, replicate, eqb}
use Rattle.std.specs.Prelude.{Option, None, Some}
use Rattle.buffer.specs.Geometry.{good_objects, good_blocks, good_capacity}
use Rattle.buffer.specs.Decoded.{is_some}
use Rattle.buffer.specs.Numeral.{bytes, numeral}
use Rattle.record.specs.Operation.{Record}
use Rattle.record.specs.Fields.{encode}
use Rattle.record.specs.Decode.{decode_record}
use Rattle.volume_entry.specs.Stored.{padded, same_bytes}
use Rattle.log_rules.specs.Slot.{waiting, lost, state_number, Slot, Head, Log, well_formed_log}

-- "next sequence number (4, from 1), marked programs (4, bit p for program p)": where they stand, and the bytes of the head
abbrev pub next_at : ℕ
next_at = 0

abbrev pub marks_at : ℕ
marks_at = 4

abbrev pub head_bytes : ℕ
head_bytes = 8

-- "m slots of 1,048 bytes"
abbrev pub slot_bytes : ℕ
slot_bytes = 1048

-- where the dependents stand in a slot: behind "state (1: 0 free, 1 waiting, 2 lost), 3 zero bytes"
abbrev pub dependents_at : ℕ
dependents_at = 4

-- where the loss record begins, behind "dependents (4", the room for it, and where that ends
abbrev pub record_start : ℕ
record_start = 8

abbrev pub record_bytes : ℕ
record_bytes = 1040

abbrev pub record_end : ℕ
record_end = record_start + record_bytes

abbrev pub log_bytes : ℕ → ℕ
log_bytes m = head_bytes + m * slot_bytes

-- "state (1 ..), 3 zero bytes, dependents (4 ..)": what stands before the record
abbrev pub encode_front : Slot → List ℕ
encode_front s = bytes 1 (state_number s.state) ++ (replicate 3 0 ++ bytes 4 s.dependents)

-- ".. a loss record, zeros"
unfoldable pub encode_slot : Slot → List ℕ
encode_slot s = encode_front s ++ padded record_bytes (encode s.recorded)

unfoldable pub encode_slots : List Slot → List ℕ
encode_slots [] = []
encode_slots (s ∷ l) = encode_slot s ++ encode_slots l

-- "next sequence number (4 ..), marked programs (4 ..)"
unfoldable pub encode_head : Head → List ℕ
encode_head h = bytes 4 h.next ++ bytes 4 h.marks

-- the head, "then m slots", the free ones zero
unfoldable pub encode_log : ℕ → Log → List ℕ
encode_log m l = encode_head l.head ++ padded (m * slot_bytes) (encode_slots l.slots)

-- the part of a slot's bytes in which its record stands
abbrev pub record_part : List ℕ → List ℕ
record_part s = take record_bytes (drop record_start s)

-- the used slot that a slot's bytes tell of, if their state is one and a record stands behind it
abbrev pub slot_from : ℕ → ℕ → Option Record → Option Slot
slot_from zero d r = None
slot_from (suc zero) d None = None
slot_from (suc zero) d (Some r) = Some (record { state = waiting; dependents = d; recorded = r })
slot_from (suc (suc k)) d None = None
slot_from (suc (suc k)) d (Some r) = Some (record { state = lost; dependents = d; recorded = r })

unfoldable pub read_slot : List ℕ → Option Slot
read_slot s = slot_from (get_or s 0 0) (numeral (take 4 (drop dependents_at s))) (decode_record (record_part s))

-- "Used slots come first": those up to the first that is none
abbrev pub on_slot : Option Slot → List Slot → List Slot
on_slot None l = []
on_slot (Some s) l = s ∷ l

unfoldable pub read_slots : ℕ → List ℕ → List Slot
read_slots zero s = []
read_slots (suc m) s = on_slot (read_slot (take slot_bytes s)) (read_slots m (drop slot_bytes s))

-- the head that bytes begin with
unfoldable pub read_head : List ℕ → Head
read_head s = record { next = numeral (take 4 (drop next_at s)); marks = numeral (take 4 (drop marks_at s)) }

unfoldable pub read_log : ℕ → List ℕ → Log
read_log m s = record { head = read_head s; slots = read_slots m (drop head_bytes s) }

-- bytes are of the right form exactly if they are those of a well-formed log, which is then the one that their fields tell of
unfoldable pub decode_log : ℕ → ℕ → ℕ → List ℕ → Option Log
decode_log n b m s =
    cond (well_formed_log n b m (read_log m s) && same_bytes (encode_log m (read_log m s)) s) (Some (read_log m s)) None

-- "n objects (2..256), b blocks a file (1..64) and m log slots (1..1,024)", and the log's bytes: else "1 Wrong buffer"
unfoldable pub lent_log : ℕ → ℕ → ℕ → List ℕ → Bool
lent_log n b m s =
    good_objects n && (good_blocks b && (good_capacity m && eqb (length s) (log_bytes m)))

-- the bytes are lent as they should be, and of the right form: else "2 Damaged"
unfoldable pub formed_log : ℕ → ℕ → ℕ → List ℕ → Bool
formed_log n b m s = lent_log n b m s && is_some (decode_log n b m s)
