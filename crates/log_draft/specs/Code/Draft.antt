-- A record that stands in the first free slot of a log and is not issued yet: the slot's state is still "0 free".
use Rattle.std.specs.Prelude.{ℕ, ◌+◌, ◌*◌, ◌-◌, ◌≤◌, ◌<◌, ◌≡◌, List, ◌++◌, true, length, replicate}
use Rattle.record.specs.Operation.{Record}
use Rattle.record.specs.Fields.{encode, valid, fits}
use Rattle.volume_entry.specs.Stored.{padded}
use Rattle.log_rules.specs.Slot.{Slot, Log, well_formed_log}
use Rattle.log_rules.specs.Stored.{head_bytes, slot_bytes, record_start, record_bytes, record_end, encode_slots, encode_head}
use Rattle.log_draft.specs.declared.Issuer.{Issuer}
use Rattle.log_draft.specs.declared.Draft.{Draft}

-- how many bytes stand behind the record's part of the first free slot
abbrev pub behind : ℕ → List Slot → ℕ
behind m l = (m - length l) * slot_bytes - record_end

-- a log's bytes with a record in its first free slot
unfoldable pub drafted : ℕ → Log → Record → List ℕ
drafted m l r =
    encode_head l.head
    ++ (encode_slots l.slots ++ (replicate record_start 0 ++ (padded record_bytes (encode r) ++ replicate (behind m l.slots) 0)))

-- the draft with a sequence number behind so many used slots
abbrev pub draft_at : ℕ → ℕ → Issuer → Draft
draft_at next used by =
    let at = head_bytes + used * slot_bytes in
    record { next = next; at = at; start = at + record_start; end = at + record_end; by = by }

-- the draft in the first free slot of a log: its record takes the next sequence number
abbrev pub draft_of : Log → Issuer → Draft
draft_of l by = draft_at l.head.next (length l.slots) by

-- its parts lie in a log: the used slots before it, the slot's state and dependents, and the room for a record
pub record Within (d : Draft) (s : List ℕ) : Type 0 where
  pub used : head_bytes ≤ d.at
  pub slot : d.at + record_start ≤ length s
  pub part : d.start ≤ d.end
  pub whole : d.end ≤ length s
  pub wide : d.end - d.start ≡ record_bytes

-- the next record of a well-formed log with a free slot stands in it, where a draft says, by its issuer
pub record Placed (n b m : ℕ) (d : Draft) (s : List ℕ) (l : Log) (r : Record) : Type 0 where
  pub objects : n ≤ 256
  pub blocks : b ≤ 64
  pub most : m ≤ 1024
  pub form : well_formed_log n b m l ≡ true
  pub room : length l.slots < m
  pub numbers : l.head.next < 4294967295
  pub sound : valid r ≡ true
  pub fit : fits n b r ≡ true
  pub first : r.sequence ≡ l.head.next
  pub held : s ≡ drafted m l r
  pub place : d ≡ draft_of l d.by
  pub issuer : r.program ≡ d.by.program
