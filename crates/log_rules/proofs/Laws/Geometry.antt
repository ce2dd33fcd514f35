-- The largest geometry takes what a smaller one does; and which bytes of a log, or of used slots, are those of what.
use Rattle.std.specs.Prelude.{ℕ, zero, suc, ◌+◌, ◌*◌, ◌-◌, ◌/◌, ◌≤◌, ◌<◌, refl, true, take, drop, set, leb, ltb}
use native.Mathlib.Omega.{arith}
use Rattle.std.proofs.Math.Path.{◌≡◌}
use Rattle.std.proofs.Common.{sym, ap, ◌∙◌, take-append-drop, take_at, drop_at, drop-drop, drop-cons, leb-true, le-leb, ltb-true, lt-ltb}
use mathlib.Core.List.{List, [], ◌∷◌, ◌++◌, append_assoc, append-nil}
use Rattle.std.proofs.Math.Bool.{and-eq-true_iff}
use Rattle.std.proofs.Math.ListN.{length, replicate}
use Rattle.std.proofs.lemmas.List.{replicate-append-replicate, set_split}
use Rattle.std.proofs.Math.Seq.{take-nil, take-append-add, drop-nil, drop-append-add}
use Rattle.buffer.specs.Patch.{patch}
use Rattle.record.specs.Operation.{Record, operands}
use Rattle.record.specs.Fields.{all_below, fits, parts}
use Rattle.log_rules.specs.Slot.{Slot, Log, with_slots, good_slot, good_slots, well_formed_log}
use Rattle.log_rules.specs.Stored.{encode_head, head_bytes, slot_bytes, encode_slot, encode_slots, encode_log, read_slots, read_log}
use Rattle.log_rules.proofs.Laws.Slot.{and_both, GoodSlot, slots-inv, slots-of, formed-inv, formed-of}
use Rattle.log_rules.proofs.Laws.Head.{length-head, behind-head}
use Rattle.log_rules.proofs.Laws.Stored.{length-slot, length-slots, length-log, read-slots, read-log}
use Rattle.log_rules.specs.Code.Slots.{slots_in, slot_part, slot_at, no_slot, Slotted, Logged, used_in, used_part}

below_more : (n k : ℕ) (l : List ℕ) → n ≤ k → all_below n l ≡ true → all_below k l ≡ true
unfolding all_below
below_more n k [] le h = refl
below_more n k (o ∷ l) le h =
    let g = (and-eq-true_iff (ltb o n) (all_below n l)).0 h in
    let lt = ltb-true o n g.0 in
    and_both (ltb o k) (all_below k l) (lt-ltb o k (omega arith)) (below_more n k l le g.1)

-- "Records fit n and b": what fits some objects and blocks fits the most that there can be
pub fits-most : (n b : ℕ) (r : Record) → n ≤ 256 → b ≤ 64 → fits n b r ≡ true → fits 256 64 r ≡ true
unfolding fits
fits-most n b r hn hb h =
    let o = operands r.operation in
    let e = (parts r.operation).offset + length (parts r.operation).block in
    let g = (and-eq-true_iff (all_below n o) (leb e (1024 * b))).0 h in
    let le = leb-true e (1024 * b) g.1 in
    and_both (all_below 256 o) (leb e (1024 * 64)) (below_more n 256 o hn g.0) (le-leb e (1024 * 64) (omega arith))

-- good slots are good in the largest geometry
pub good-most : (n b : ℕ) (l : List Slot) → n ≤ 256 → b ≤ 64 → good_slots n b l ≡ true → good_slots 256 64 l ≡ true
unfolding good_slots
good-most n b [] hn hb h = refl
good-most n b (s ∷ l) hn hb h =
    let g = slots-inv n b s l h in
    let c = g.0 in
    slots-of 256 64 s l (record { sound = c.sound; fit = fits-most n b s.recorded hn hb c.fit; small = c.small; none-if-lost = c.none-if-lost })
    (good-most n b l hn hb g.1)

-- a well-formed log is well formed in the largest geometry
pub formed-most : (n b m : ℕ) (l : Log) → n ≤ 256 → b ≤ 64 → well_formed_log n b m l ≡ true → well_formed_log 256 64 m l ≡ true
formed-most n b m l hn hb h =
    let f = formed-inv n b m l h in
    formed-of 256 64 m l
    (record {
      head = f.head;
      count = f.count;
      good = good-most n b l.slots hn hb f.good;
      order = f.order;
    })

-- the bytes of slots behind others stand behind theirs
pub slots-append : (u v : List Slot) → encode_slots (u ++ v) ≡ encode_slots u ++ encode_slots v
unfolding encode_slots
slots-append [] v = refl
slots-append (s ∷ u) v = rw (slots-append u v) (sym (append_assoc (encode_slot s) (encode_slots u) (encode_slots v)))

-- the first of good slots are good, and so are the others
pub good-take : (n b i : ℕ) (l : List Slot) → good_slots n b l ≡ true → good_slots n b (take i l) ≡ true
unfolding good_slots
good-take n b zero l h = refl
good-take n b (suc i) [] h = refl
good-take n b (suc i) (s ∷ l) h = let g = slots-inv n b s l h in slots-of n b s (take i l) g.0 (good-take n b i l g.1)

pub good-drop : (n b i : ℕ) (l : List Slot) → good_slots n b l ≡ true → good_slots n b (drop i l) ≡ true
good-drop n b zero l h = h
good-drop n b (suc i) [] h = h
good-drop n b (suc i) (s ∷ l) h = good-drop n b i l (slots-inv n b s l h).1

-- good slots with another good one in a place are good
pub good-set : (n b : ℕ) (l : List Slot) (i : ℕ) (t : Slot) → good_slots n b l ≡ true → GoodSlot n b t → good_slots n b (set l i t) ≡ true
good-set n b [] i t h g = h
good-set n b (s ∷ l) zero t h g = slots-of n b t l g (slots-inv n b s l h).1
good-set n b (s ∷ l) (suc i) t h g = let k = slots-inv n b s l h in slots-of n b s (set l i t) k.0 (good-set n b l i t k.1 g)

-- the slot at a position of good slots is good
pub good-at : (n b : ℕ) (l : List Slot) (i : ℕ) → good_slots n b l ≡ true → i < length l → GoodSlot n b (slot_at l i)
good-at n b [] i h lt = absurd (omega arith)
good-at n b (s ∷ l) zero h lt = (slots-inv n b s l h).0
good-at n b (s ∷ l) (suc i) h lt = good-at n b l i (slots-inv n b s l h).1 (omega arith)

-- where the bytes of a slot begin that is not the first
slot_next : (n b i : ℕ) (s : Slot) (l : List Slot) → good_slots n b (s ∷ l) ≡ true → suc i * slot_bytes ≡ length (encode_slot s) + i * slot_bytes
slot_next n b i s l h = omega (arith, length-slot s (slots-inv n b s l h).0.sound)

-- the bytes of the first i slots
pub take-slots : (n b i : ℕ) (l : List Slot) → good_slots n b l ≡ true → take (i * slot_bytes) (encode_slots l) ≡ encode_slots (take i l)
unfolding encode_slots
take-slots n b zero l h = refl
take-slots n b (suc i) [] h = take-nil (suc i * slot_bytes)
take-slots n b (suc i) (s ∷ l) h = rw (slot_next n b i s l h, take-append-add, take-slots n b i l (slots-inv n b s l h).1)

-- the bytes of the slots behind the first i
pub drop-slots : (n b i : ℕ) (l : List Slot) → good_slots n b l ≡ true → drop (i * slot_bytes) (encode_slots l) ≡ encode_slots (drop i l)
unfolding encode_slots
drop-slots n b zero l h = refl
drop-slots n b (suc i) [] h = drop-nil (suc i * slot_bytes)
drop-slots n b (suc i) (s ∷ l) h = rw (slot_next n b i s l h, drop-append-add) (drop-slots n b i l (slots-inv n b s l h).1)

-- good slots are read back from just their bytes
pub slots-in : (n b : ℕ) (l : List Slot) → good_slots n b l ≡ true → slots_in (encode_slots l) ≡ l
slots-in n b l h =
    let w = length-slots n b l h in
    let k : length (encode_slots l) / slot_bytes ≡ length l = rw w (omega arith) in
    rw k (ap (read_slots (length l)) (sym (append-nil (encode_slots l))) ∙ read-slots n b (length l) 0 l h (omega arith))

-- the bytes of good slots, of any geometry, are those of used slots
pub slotted-of : (n b : ℕ) (l : List Slot) → n ≤ 256 → b ≤ 64 → length l ≤ 1024 → good_slots n b l ≡ true → Slotted (encode_slots l)
slotted-of n b l hn hb le h =
    let e = slots-in n b l h in
    record { most = rw e le; good = rw e (good-most n b l hn hb h); stored = rw e }

-- used slots stand in just so many bytes
pub slotted-length : (s : List ℕ) → Slotted s → length s ≡ length (slots_in s) * slot_bytes
slotted-length s u = ap length (sym u.stored) ∙ length-slots 256 64 (slots_in s) u.good

-- the bytes of the slot at a position are those of the slot that is read there
pub slot-stored : (s : List ℕ) → Slotted s → (i : ℕ) → i < length (slots_in s) → slot_part s i ≡ encode_slot (slot_at (slots_in s) i)
unfolding encode_slots
slot-stored s u i lt =
    let l = slots_in s in
    let t = slot_at l i in
    let d : drop (i * slot_bytes) s ≡ encode_slots (drop i l) = ap (drop (i * slot_bytes)) (sym u.stored) ∙ drop-slots 256 64 i l u.good in
    let c : encode_slots (drop i l) ≡ encode_slot t ++ encode_slots (drop (suc i) l) = ap encode_slots (drop-cons l i no_slot lt) in
    rw (d, c) (take_at (encode_slot t) (encode_slots (drop (suc i) l)) slot_bytes (length-slot t (good-at 256 64 l i u.good lt).sound))

-- two lists of good slots make one
pub good-both : (n b : ℕ) (u v : List Slot) → good_slots n b u ≡ true → good_slots n b v ≡ true → good_slots n b (u ++ v) ≡ true
unfolding good_slots
good-both n b [] v g h = h
good-both n b (s ∷ u) v g h =
    let x = (and-eq-true_iff (good_slot n b s) (good_slots n b u)).0 g in
    (and-eq-true_iff (good_slot n b s) (good_slots n b (u ++ v))).1 (x.0, good-both n b u v x.1 h)

-- another slot's bytes at a position are those of the slots with that one there
pub slot-set : (s : List ℕ) → Slotted s → (i : ℕ) → i < length (slots_in s) → (t : Slot) → length (encode_slot t) ≡ slot_bytes
    → patch s (i * slot_bytes) (encode_slot t) ≡ encode_slots (set (slots_in s) i t)
unfolding patch encode_slots
slot-set s u i lt t w =
    let l = slots_in s in
    let k : i * slot_bytes + length (encode_slot t) ≡ suc i * slot_bytes = rw w (omega arith) in
    let a : take (i * slot_bytes) s ≡ encode_slots (take i l) = ap (take (i * slot_bytes)) (sym u.stored) ∙ take-slots 256 64 i l u.good in
    let d : drop (suc i * slot_bytes) s ≡ encode_slots (drop (suc i) l) = ap (drop (suc i * slot_bytes)) (sym u.stored) ∙ drop-slots 256 64 (suc i) l u.good in
    rw (k, a, d) (sym (ap encode_slots (set_split l i t lt) ∙ slots-append (take i l) (t ∷ drop (suc i) l)))

head_first : (m : ℕ) (l : Log) → take head_bytes (encode_log m l) ≡ encode_head l.head
unfolding encode_log
head_first m l = take_at (encode_head l.head) _ head_bytes (length-head l.head)

rest_of : (m : ℕ) (l : Log) → drop head_bytes (encode_log m l) ≡ encode_slots l.slots ++ replicate (m * slot_bytes - length (encode_slots l.slots)) 0
unfolding encode_log
rest_of m l = behind-head l.head _

-- a well-formed log's bytes are those of a log
pub logged-whole : (n b m : ℕ) (l : Log) → well_formed_log n b m l ≡ true → n ≤ 256 → b ≤ 64 → m ≤ 1024 → Logged n b m (encode_log m l)
logged-whole n b m l h hn hb hm =
    let e = read-log n b m l h in
    record { objects = hn; blocks = hb; most = hm; whole = length-log n b m l h; form = rw e h; stored = rw e }

-- A log of any geometry is one of the largest.
pub logged-most : (n b m : ℕ) (s : List ℕ) → Logged n b m s → Logged 256 64 m s
logged-most n b m s u =
    record { objects = omega arith; blocks = omega arith; most = u.most; whole = u.whole; form = formed-most n b m (read_log m s) u.objects u.blocks u.form; stored = u.stored }

module _ (n b m : ℕ) (s : List ℕ) (u : Logged n b m s) where
  -- the used slots are at most as many as there are slots
  pub used-most : used_in m s ≤ m
  used-most = (formed-inv n b m (read_log m s) u.form).count

  -- they are good
  pub used-good : good_slots n b (read_log m s).slots ≡ true
  used-good = (formed-inv n b m (read_log m s) u.form).good

  used-length : length (encode_slots (read_log m s).slots) ≡ used_in m s * slot_bytes
  used-length = length-slots n b (read_log m s).slots used-good

  -- a log's first bytes are those of its head
  pub head-part : take head_bytes s ≡ encode_head (read_log m s).head
  head-part = ap (take head_bytes) (sym u.stored) ∙ head_first m (read_log m s)

  behind-first : drop head_bytes s ≡ encode_slots (read_log m s).slots ++ replicate ((m - used_in m s) * slot_bytes) 0
  behind-first =
      let w = used-length in
      let k : m * slot_bytes - length (encode_slots (read_log m s).slots) ≡ (m - used_in m s) * slot_bytes = omega arith in
      ap (drop head_bytes) (sym u.stored) ∙ rest_of m (read_log m s) ∙ rw k

  -- the bytes of the used slots are those of the slots that are read
  pub used-bytes : used_part m s ≡ encode_slots (read_log m s).slots
  used-bytes = rw behind-first (take_at (encode_slots (read_log m s).slots) (replicate ((m - used_in m s) * slot_bytes) 0) (used_in m s * slot_bytes) used-length)

  -- "0 free": behind the used slots all is zero
  pub free_part : drop (head_bytes + used_in m s * slot_bytes) s ≡ replicate ((m - used_in m s) * slot_bytes) 0
  free_part =
      sym (drop-drop (used_in m s * slot_bytes) head_bytes s)
      ∙ rw behind-first (drop_at (encode_slots (read_log m s).slots) (replicate ((m - used_in m s) * slot_bytes) 0) (used_in m s * slot_bytes) used-length)

  -- the slots in the used part are those of the log
  pub used-slots : slots_in (used_part m s) ≡ (read_log m s).slots
  used-slots = ap slots_in used-bytes ∙ slots-in n b (read_log m s).slots used-good

  -- the used part is bytes of used slots
  pub used-slotted : Slotted (used_part m s)
  used-slotted = let le = used-most in let lm = u.most in rw used-bytes (slotted-of n b (read_log m s).slots u.objects u.blocks (omega arith) used-good)

  -- a log's bytes are its head, its used part and zeros
  pub logged-parts : s ≡ take head_bytes s ++ (used_part m s ++ replicate ((m - used_in m s) * slot_bytes) 0)
  logged-parts = sym (take-append-drop head_bytes s) ∙ ap (λ (y : List ℕ). take head_bytes s ++ y) (behind-first ∙ ap (λ (y : List ℕ). y ++ replicate ((m - used_in m s) * slot_bytes) 0) (sym used-bytes))

  slots-put : (l : List Slot) (z : ℕ) → length (encode_slots l) + z ≡ used_in m s * slot_bytes
      → take head_bytes s ++ ((encode_slots l ++ replicate z 0) ++ drop (head_bytes + used_in m s * slot_bytes) s) ≡ encode_log m (with_slots l (read_log m s))
  unfolding encode_log
  slots-put l z e =
      let le = used-most in
      let k : z + (m - used_in m s) * slot_bytes ≡ m * slot_bytes - length (encode_slots l) = omega arith in
      let j : ◌≡◌ {A = List ℕ} (replicate z 0 ++ replicate ((m - used_in m s) * slot_bytes) 0) (replicate (m * slot_bytes - length (encode_slots l)) 0) =
      rw (← k) (replicate-append-replicate z ((m - used_in m s) * slot_bytes) 0) in
      rw (head-part, free_part, append_assoc (encode_slots l) (replicate z 0) (replicate ((m - used_in m s) * slot_bytes) 0), j)

  -- with as many slots put in their place the bytes are those of the log with these slots
  pub slots-replaced : (l : List Slot) → length (encode_slots l) ≡ used_in m s * slot_bytes
      → take head_bytes s ++ (encode_slots l ++ drop (head_bytes + used_in m s * slot_bytes) s) ≡ encode_log m (with_slots l (read_log m s))
  slots-replaced l e =
      ap (λ (y : List ℕ). take head_bytes s ++ (y ++ drop (head_bytes + used_in m s * slot_bytes) s)) (sym (append-nil (encode_slots l))) ∙ slots-put l 0 (omega arith)

  -- with fewer, and zeros behind them, those of the log with just these
  pub slots-fewer : (l : List Slot) (k : ℕ) → good_slots n b l ≡ true → length l + k ≡ used_in m s
      → take head_bytes s ++ ((encode_slots l ++ replicate (k * slot_bytes) 0) ++ drop (head_bytes + used_in m s * slot_bytes) s) ≡ encode_log m (with_slots l (read_log m s))
  slots-fewer l k h e = let w = length-slots n b l h in slots-put l (k * slot_bytes) (omega arith)
