-- Slots are freed: one slot, and all slots of a set in one pass.
-- Assumes nothing.
use Rattle.std.specs.Prelude.{ℕ, ◌+◌, ◌*◌, ◌-◌, ◌≤◌, ◌<◌, ◌≡◌, refl, Bool, true, cond, eqb, get_or, replicate}
use Rattle.std.proofs.Common.{add-one, sym, ◌∙◌, length-append, drop_of_length-le, take_at, drop_at, drop-cons, drop-drop, length-take-le, eq-eqb, ne_eqb}
use native.Mathlib.Omega.{arith}
use Rattle.std.proofs.Math.Path.{ap}
use mathlib.Core.List.{List, [], ◌∷◌, ◌++◌, append_assoc, append-nil}
use Rattle.std.proofs.Math.Bool.{false}
use Rattle.std.proofs.Math.ListN.{length, take, drop}
use Rattle.buffer.specs.Patch.{patch}
use Rattle.volume_entry.specs.Laws.Write.{length-patch}
use Rattle.log_rules.specs.Slot.{Slot}
use Rattle.log_rules.specs.Stored.{slot_bytes, encode_slot, encode_slots}
use Rattle.log_rules.specs.Code.Slots.{Slotted, slots_in, slot_part, no_slot, slot_at}
use Rattle.log_rules.specs.Code.Flags.{kept}
use Rattle.log_rules.proofs.Laws.Geometry.{slotted-length, slots-append, take-slots, drop-slots, slot-stored}
use Rattle.log_compact.specs.Laws.Move.{length_part, tail-cleared}

-- one slot freed
pub slot-closed : (s : List ℕ) (i : ℕ) → Slotted s
    → take (i * slot_bytes) s ++ (drop (i * slot_bytes + slot_bytes) s ++ replicate slot_bytes 0) ≡ encode_slots (take i (slots_in s) ++ drop (i + 1) (slots_in s)) ++ replicate slot_bytes 0
slot-closed s i h =
    let l = slots_in s in
    let t : take (i * slot_bytes) s ≡ encode_slots (take i l) = rw h.stored at (take-slots 256 64 i l h.good) in
    let k : (i + 1) * slot_bytes ≡ i * slot_bytes + slot_bytes = omega arith in
    let d : drop (i * slot_bytes + slot_bytes) s ≡ encode_slots (drop (i + 1) l) = rw (h.stored, k) at (drop-slots 256 64 (i + 1) l h.good) in
    rw (t, d, slots-append) (sym (append_assoc (encode_slots (take i l)) (encode_slots (drop (i + 1) l)) (replicate slot_bytes 0)))

-- what is kept of the slots from a place on: the slot there, unless it is in the set, and what is kept of those behind it
kept_next : (freed : List ℕ) (l : List Slot) (i : ℕ) (b : Bool) → i < length l → i < length freed → eqb (get_or freed i 0) 1 ≡ b
    → kept (drop i freed) (drop i l) ≡ cond b (kept (drop (i + 1) freed) (drop (i + 1) l)) (slot_at l i ∷ kept (drop (i + 1) freed) (drop (i + 1) l))
unfolding kept
kept_next freed l i b h k e = rw (add-one, drop-cons freed i 0 k, drop-cons l i no_slot h, e)

-- of no slots none is kept
kept-none : (freed : List ℕ) → kept freed [] ≡ []
unfolding kept
kept-none [] = refl
kept-none (f ∷ fs) = refl

-- Of the bytes e so many slots are read, and so many of those are kept. In the bytes s the kept ones stand in front, and those
-- not yet read at their old places.
pub record Closing (e freed s : List ℕ) (read write : ℕ) : Type 0 where
  pub within : read ≤ length (slots_in e)
  pub down : write ≤ read
  pub count : write + length (kept (drop read freed) (drop read (slots_in e))) ≡ length (kept freed (slots_in e))
  pub moved : take (write * slot_bytes) s ++ encode_slots (kept (drop read freed) (drop read (slots_in e))) ≡ encode_slots (kept freed (slots_in e))
  pub ahead : drop (read * slot_bytes) s ≡ drop (read * slot_bytes) e
  pub long : length s ≡ length e
  pub whole : length e ≡ length (slots_in e) * slot_bytes

-- nothing is read
pub none_read : (e freed : List ℕ) → Slotted e → Closing e freed e 0 0
none_read e freed h =
    record { within = omega arith; down = omega arith; count = omega arith; moved = refl; ahead = refl; long = refl; whole = slotted-length e h }

-- bytes that are the same from a place on are so from a later one on
drop_more : (s e : List ℕ) (i n : ℕ) → drop i s ≡ drop i e → drop (i + n) s ≡ drop (i + n) e
drop_more s e i n h = sym (drop-drop n i s) ∙ ap (drop n) h ∙ drop-drop n i e

-- a patch, and the bytes before it and behind it
module _ (s : List ℕ) (at : ℕ) (u : List ℕ) (h : at ≤ length s) where
  patched-length : length (take at s ++ u) ≡ at + length u
  patched-length = rw (length-append, length-take-le at s h)

  patched-front : take (at + length u) (patch s at u) ≡ take at s ++ u
  unfolding patch
  patched-front = rw (← append_assoc (take at s) u (drop (at + length u) s)) (take_at (take at s ++ u) (drop (at + length u) s) (at + length u) patched-length)

  patched-rest : (n : ℕ) → at + length u ≤ n → drop n (patch s at u) ≡ drop n s
  unfolding patch
  patched-rest n k =
      let m : at + length u + (n - (at + length u)) ≡ n = omega arith in
      let d : drop (at + length u) (patch s at u) ≡ drop (at + length u) s =
      rw (← append_assoc (take at s) u (drop (at + length u) s)) (drop_at (take at s ++ u) (drop (at + length u) s) (at + length u) patched-length) in
      rw m at (drop_more (patch s at u) s (at + length u) (n - (at + length u)) d)

-- the turns of the pass, at a slot that is not yet read
module _ (e freed s : List ℕ) (read write : ℕ) (h : Slotted e) (many : length (slots_in e) ≤ length freed) (g : Closing e freed s read write) (more : read < length (slots_in e)) where
  -- a slot in the set is passed over
  pub turn-freed : get_or freed read 0 ≡ 1 → Closing e freed s (read + 1) write
  turn-freed t =
      let k = kept_next freed (slots_in e) read true more (omega arith) (eq-eqb (get_or freed read 0) 1 t) in
      let p : (read + 1) * slot_bytes ≡ read * slot_bytes + slot_bytes = omega arith in
      record {
        within = omega arith;
        down = omega arith;
        count = rw k at g.count;
        moved = rw k at g.moved;
        ahead = rw p (drop_more s e (read * slot_bytes) slot_bytes g.ahead);
        long = g.long;
        whole = g.whole;
      }

  -- any other slot is moved down
  pub turn-kept : (get_or freed read 0 ≡ 1 → ⊥) → Closing e freed (patch s (write * slot_bytes) (slot_part s read)) (read + 1) (write + 1)
  unfolding encode_slots
  turn-kept t =
      let l = slots_in e in
      let p = slot_part s read in
      let k = kept_next freed l read false more (omega arith) (ne_eqb (get_or freed read 0) 1 t) in
      let d = g.down in
      let n : length p ≡ slot_bytes = length_part s read (omega arith) in
      let x : p ≡ encode_slot (slot_at l read) = ap (take slot_bytes) g.ahead ∙ slot-stored e h read more in
      let w : (write + 1) * slot_bytes ≡ write * slot_bytes + length p = omega arith in
      let r : (read + 1) * slot_bytes ≡ read * slot_bytes + slot_bytes = omega arith in
      let m : take (write * slot_bytes) s ++ (encode_slot (slot_at l read) ++ encode_slots (kept (drop (read + 1) freed) (drop (read + 1) l))) ≡ encode_slots (kept freed l) =
      rw k at g.moved in
      record {
        within = omega arith;
        down = omega arith;
        count = omega (arith, ap length k, g.count);
        moved = rw (w, patched-front s (write * slot_bytes) p (omega arith), append_assoc, x) m;
        ahead = patched-rest s (write * slot_bytes) p (omega arith) ((read + 1) * slot_bytes) (omega arith) ∙ rw r (drop_more s e (read * slot_bytes) slot_bytes g.ahead);
        long = length-patch s (write * slot_bytes) p (omega arith) ∙ g.long;
        whole = g.whole;
      }

-- all slots are read, and the tail is cleared
module _ (e freed s : List ℕ) (read write : ℕ) (g : Closing e freed s read write) (all : length (slots_in e) ≤ read) where
  none_left : kept (drop read freed) (drop read (slots_in e)) ≡ []
  none_left = rw (drop_of_length-le (slots_in e) all) (kept-none (drop read freed))

  pub all-counted : write ≡ length (kept freed (slots_in e))
  all-counted = omega (arith, ap length none_left, g.count)

  pub all-freed : (x : List ℕ) → x ≡ replicate (length (take (length s - write * slot_bytes) (drop (write * slot_bytes) s))) 0
      → take (write * slot_bytes) s ++ (x ++ drop (length s - write * slot_bytes) (drop (write * slot_bytes) s))
      ≡ encode_slots (kept freed (slots_in e)) ++ replicate ((length (slots_in e) - length (kept freed (slots_in e))) * slot_bytes) 0
  unfolding encode_slots
  all-freed x q =
      let m : take (write * slot_bytes) s ≡ encode_slots (kept freed (slots_in e)) = rw (none_left, append-nil) at g.moved in
      let n : length s - write * slot_bytes ≡ (length (slots_in e) - length (kept freed (slots_in e))) * slot_bytes = omega (arith, all-counted) in
      tail-cleared s (write * slot_bytes) x q ∙ rw (m, n)
