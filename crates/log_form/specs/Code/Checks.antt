-- Document 01, "Geometry and stored form": the form of a log as the tests that are run on its bytes, one after the other;
-- `Laws/Checks` ties them to the logs that are well formed.
use Rattle.record_reader.specs.declared.Whole.{Whole}
use Rattle.std.specs.Prelude.{ℕ, zero, suc, List, Bool, true, false, not, ◌&&◌, ◌||◌, cond, get_or, take, drop, leb, ltb, eqb, Option, None, Some}
use Rattle.buffer.specs.Numeral.{numeral}
use Rattle.buffer.specs.Code.Zero.{zeros}
use Rattle.record_reader.specs.Code.Reader.{record_at}
use Rattle.record_reader.specs.Code.Fit.{fits_whole}
use Rattle.log_rules.specs.Stored.{head_bytes, slot_bytes, dependents_at, record_part, read_head}

-- "state (1: .. 1 waiting, 2 lost), 3 zero bytes, dependents (4 ..; zero if lost)": the bytes of a used slot before its record
unfoldable pub front_formed : List ℕ → Bool
front_formed s =
    zeros (take 3 (drop 1 s)) && (eqb (get_or s 0 0) 1 || (eqb (get_or s 0 0) 2 && eqb (numeral (take 4 (drop dependents_at s))) 0))

-- what a used slot is by itself: its sequence number, and whether it waits
abbrev pub used_slot : ℕ → Bool → Option (ℕ × Bool)
used_slot sequence waiting = Some (sequence, waiting)

-- the form of a slot, waiting or not, by its record's part and what the reader answered of it: the record fits n and b, and zeros
-- stand behind it
abbrev pub form_by : ℕ → ℕ → Bool → List ℕ → Option Whole → Option (ℕ × Bool)
form_by n b waits p (Some w) = cond (fits_whole n b p w && zeros (drop w.next.at p)) (used_slot w.head.sequence waits) None
form_by n b waits p None = None

-- the form of one slot that is not free, by itself
unfoldable pub slot_form : ℕ → ℕ → List ℕ → Option (ℕ × Bool)
slot_form n b s = cond (front_formed s) (form_by n b (eqb (get_or s 0 0) 1) (record_part s) (record_at (record_part s) 0)) None

-- "in rising sequence, the lost before the waiting, all below the next number": whether a slot with its sequence number, waiting
-- or not, may come behind another, the last
unfoldable pub may_follow : ℕ → ℕ → Bool → ℕ → Bool → Bool
may_follow next last waits sequence waiting = ltb last sequence && (ltb sequence next && (not waits || waiting))

-- what is asked of a slot that is well formed by itself
abbrev pub if_form : Option (ℕ × Bool) → (ℕ → Bool → Bool) → Bool
if_form (Some (sequence, waiting)) f = f sequence waiting
if_form None f = false

-- "Used slots come first", each well formed and behind the last; from the first free one on all bytes are zero
unfoldable pub slots_formed : ℕ → ℕ → ℕ → ℕ → ℕ → Bool → List ℕ → Bool
slots_formed n b next zero last waits s = true
slots_formed n b next (suc m) last waits s =
    cond (eqb (get_or s 0 0) 0) (zeros s)
    (if_form (slot_form n b (take slot_bytes s)) (λ q w. may_follow next last waits q w && slots_formed n b next m q w (drop slot_bytes s)))

-- "next sequence number (4, from 1), marked programs (4 ..), then m slots"
unfoldable pub log_formed : ℕ → ℕ → ℕ → List ℕ → Bool
log_formed n b m s = leb 1 (read_head s).next && slots_formed n b (read_head s).next m 0 false (drop head_bytes s)
