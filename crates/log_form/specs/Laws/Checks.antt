-- The tests of a log's bytes pass for the bytes of the well-formed logs, and for no others. Assumes nothing.
use Rattle.std.specs.Prelude.{ℕ, zero, suc, ◌+◌, ◌*◌, ◌-◌, ◌≤◌, ◌≡◌, refl, Bool, true, false, ◌&&◌, List, [], ◌∷◌, ◌++◌, length, get_or, take, drop, replicate, leb, eqb}
use Rattle.std.proofs.Common.{arith, sym, ap, ap₂, ◌∙◌, append_assoc, length-append, length-drop, take-append-drop, length-take-le, take_at, drop_at, get_or-take, get_or-drop, leb-true, le-leb, eqb-true}
use Rattle.std.proofs.Math.Bool.{and-eq-true_iff}
use Rattle.std.proofs.lemmas.Bool.{false≢true, eqb-false}
use Rattle.std.specs.Prelude.{Option, None, Some}
use Rattle.buffer.specs.Decoded.{is_some}
use Rattle.buffer.specs.Laws.Test.{same_test}
use Rattle.buffer.specs.Numeral.{Bytes}
use Rattle.buffer.specs.Laws.Numeral.{bytes-part}
use Rattle.buffer.specs.Code.Zero.{zeros}
use Rattle.buffer.specs.Laws.Zero.{zeros-replicate, replicate-zeros}
use Rattle.volume_entry.specs.Stored.{padded}
use Rattle.log_rules.specs.Slot.{State, waiting, lost, state_number, Slot, Log, is_waiting, sequence_of, good_slots, well_formed_log}
use Rattle.log_rules.specs.Stored.{head_bytes, slot_bytes, log_bytes, encode_slot, encode_slots, encode_log, read_head, read_log, decode_log}
use Rattle.log_rules.proofs.Laws.Slot.{and_both, slots-inv, slots-of, formed-inv, formed-of}
use Rattle.log_rules.proofs.Laws.Head.{behind-head}
use Rattle.log_rules.proofs.Laws.Stored.{length-slot, read-log, decode-encode, encode-decode}
use Rattle.log_form.specs.Code.Checks.{used_slot, slot_form, may_follow, slots_formed, log_formed}
use Rattle.log_form.specs.Laws.Head.{head-back, head-good}
use Rattle.log_form.specs.Laws.Slot.{Used, form-used, slot-first, used-form}
use Rattle.log_form.specs.Laws.Order.{follows-inv, follows_of, behind, behind-inv, behind-of, behind-rising, rising-all}
use Rattle.log_form.specs.Laws.Loop.{none_left, from-free, from-bad, from-used}

-- the good slots, each behind the last, whose bytes with zeros behind them some bytes are
record Held (n b next m last : ℕ) (waits : Bool) (s : List ℕ) : Type 0 where
  slots : List Slot
  count : length slots ≤ m
  good : good_slots n b slots ≡ true
  order : behind next last waits slots ≡ true
  stored : padded (m * slot_bytes) (encode_slots slots) ≡ s

-- A slot's bytes before those of others, with zeros behind them all.
padded-slots : (m : ℕ) (s : Slot) (l : List Slot) → length (encode_slot s) ≡ slot_bytes
    → padded (suc m * slot_bytes) (encode_slots (s ∷ l)) ≡ encode_slot s ++ padded (m * slot_bytes) (encode_slots l)
unfolding encode_slots
padded-slots m s l size =
    let x = encode_slot s in
    let y = encode_slots l in
    let k : suc m * slot_bytes - length (x ++ y) ≡ m * slot_bytes - length y = rw length-append (omega arith) in
    rw k (append_assoc x y (replicate (m * slot_bytes - length y) 0))

-- A list of length 0 is empty.
no_bytes : (s : List ℕ) → length s ≡ 0 → [] ≡ s
no_bytes [] h = refl
no_bytes (a ∷ s) h = absurd (omega arith)

-- Zeros are the bytes of no slots.
none-held : (n b next m last : ℕ) (waits : Bool) (s : List ℕ) → length s ≡ m * slot_bytes → zeros s ≡ true → Held n b next m last waits s
unfolding good_slots behind encode_slots
none-held n b next m last waits s size z =
    let k : m * slot_bytes - 0 ≡ length s = omega arith in
    record {
      slots = [];
      count = omega arith;
      good = refl;
      order = refl;
      stored = ap (λ (k : ℕ). replicate k 0) k ∙ sym (zeros-replicate s z);
    }

-- The bytes from a place on are bytes.
bytes-behind : (s : List ℕ) (at : ℕ) → Bytes s → Bytes (drop at s)
bytes-behind s at byte i = rw (get_or-drop at s i 0) (byte (at + i))

module _ (n b next m last : ℕ) (waits : Bool) (s : List ℕ) (size : length s ≡ suc m * slot_bytes) (byte : Bytes s)
    (others : (q : ℕ) (w : Bool) → slots_formed n b next m q w (drop slot_bytes s) ≡ true → Held n b next m q w (drop slot_bytes s)) where
  -- A good slot that comes behind the last, and those behind it.
  used-held : (q : ℕ) (w : Bool) → Used n b (take slot_bytes s) q w → (may_follow next last waits q w && slots_formed n b next m q w (drop slot_bytes s)) ≡ true
      → Held n b next (suc m) last waits s
  used-held q w u h =
      let x = (and-eq-true_iff (may_follow next last waits q w) (slots_formed n b next m q w (drop slot_bytes s))).0 h in
      let r = others q w x.1 in
      let c = r.count in
      let long : length (take slot_bytes s) ≡ slot_bytes = length-take-le slot_bytes s (omega arith) in
      record {
        slots = u.slot ∷ r.slots;
        count = omega arith;
        good = slots-of n b u.slot r.slots u.good r.good;
        order =
            behind-of next last waits u.slot r.slots (rw (u.numbered, u.state) (follows-inv next last waits q w x.0))
            (rw (u.numbered, u.state) r.order);
        stored =
            padded-slots m u.slot r.slots (ap length u.stored ∙ long)
            ∙ ap₂ (λ (x y : List ℕ). x ++ y) u.stored r.stored ∙ take-append-drop slot_bytes s;
      }

  -- The first slot is free, or a used one that passes its test.
  first-held : slots_formed n b next (suc m) last waits s ≡ true → Held n b next (suc m) last waits s
  first-held h = first (eqb (get_or s 0 0) 0) refl
    where
      form : (get_or s 0 0 ≡ 0 → ⊥) → (x : Option (ℕ × Bool)) → slot_form n b (take slot_bytes s) ≡ x → Held n b next (suc m) last waits s
      form z None e = absurd (false≢true (sym (from-bad n b next m last waits s z e) ∙ h))
      form z (Some (q, w)) e =
          let u = form-used n b (take slot_bytes s) (length-take-le slot_bytes s (omega arith)) (bytes-part s slot_bytes 0 byte) q w e in
          used-held q w u (sym (from-used n b next m last waits s z q w e) ∙ h)

      first : (t : Bool) → eqb (get_or s 0 0) 0 ≡ t → Held n b next (suc m) last waits s
      first true t = none-held n b next (suc m) last waits s size (sym (from-free n b next m last waits s (eqb-true (get_or s 0 0) 0 t)) ∙ h)
      first false t = form (eqb-false (get_or s 0 0) 0 t) (slot_form n b (take slot_bytes s)) refl

-- Bytes of m slots that pass the test are those of good slots, each behind the last, and zeros.
slots-held : (n b next m last : ℕ) (waits : Bool) (s : List ℕ) → length s ≡ m * slot_bytes → Bytes s → slots_formed n b next m last waits s ≡ true
    → Held n b next m last waits s
unfolding zeros
slots-held n b next zero last waits s size byte h = none-held n b next zero last waits s size (ap zeros (sym (no_bytes s size)))
slots-held n b next (suc m) last waits s size byte h =
    first-held n b next m last waits s size byte
    (λ q w. slots-held n b next m q w (drop slot_bytes s) (length-drop slot_bytes s ∙ omega arith) (bytes-behind s slot_bytes byte)) h

-- The first byte of a used slot is not 0.
state-used : (t : State) → state_number t ≡ 0 → ⊥
state-used waiting e = omega arith
state-used lost e = omega arith

-- Zeros begin with a zero.
zeros-first : (k : ℕ) → get_or {A = ℕ} (replicate k 0) 0 0 ≡ 0
zeros-first zero = refl
zeros-first (suc k) = refl

-- The bytes of good slots, each behind the last, with zeros behind them, pass the test.
held-slots : (n b next m last : ℕ) (waits : Bool) (l : List Slot) → length l ≤ m → good_slots n b l ≡ true → behind next last waits l ≡ true
    → (s : List ℕ) → padded (m * slot_bytes) (encode_slots l) ≡ s → Bytes s → slots_formed n b next m last waits s ≡ true
unfolding encode_slots
held-slots n b next zero last waits l h g o s e byte = none_left n b next zero last waits s refl
held-slots n b next (suc m) last waits [] h g o s e byte =
    let k = suc m * slot_bytes - 0 in
    from-free n b next m last waits s (ap (λ (r : List ℕ). get_or r 0 0) (sym e) ∙ zeros-first k)
    ∙ ap zeros (sym e) ∙ replicate-zeros k
held-slots n b next (suc m) last waits (t ∷ l) h g o s e byte =
    let x = slots-inv n b t l g in
    let f = behind-inv next last waits t l o in
    let q = sequence_of t in
    let w = is_waiting t in
    let size = length-slot t x.0.sound in
    let rest = padded (m * slot_bytes) (encode_slots l) in
    let whole : encode_slot t ++ rest ≡ s = sym (padded-slots m t l size) ∙ e in
    let first : encode_slot t ≡ take slot_bytes s = sym (take_at (encode_slot t) rest slot_bytes size) ∙ ap (take slot_bytes) whole in
    let others : rest ≡ drop slot_bytes s = sym (drop_at (encode_slot t) rest slot_bytes size) ∙ ap (drop slot_bytes) whole in
    let form : slot_form n b (take slot_bytes s) ≡ used_slot q w =
    ap (slot_form n b) (sym first) ∙ used-form n b t x.0 (rw first (bytes-part s slot_bytes 0 byte)) in
    let state : state_number t.state ≡ get_or s 0 0 = sym (slot-first t) ∙ ap (λ (r : List ℕ). get_or r 0 0) first ∙ get_or-take slot_bytes s 0 0 (omega arith) in
    from-used n b next m last waits s (λ z. state-used t.state (state ∙ z)) q w form
    ∙ and_both (may_follow next last waits q w) (slots_formed n b next m q w (drop slot_bytes s)) (follows_of next last waits q w f.0)
    (held-slots n b next m q w l (omega arith) x.1 f.1 (drop slot_bytes s) others (bytes-behind s slot_bytes byte))

-- Bytes of a log's length that pass the tests are taken for a log.
checks-sound : (n b m : ℕ) (s : List ℕ) → length s ≡ log_bytes m → Bytes s → log_formed n b m s ≡ true → is_some (decode_log n b m s) ≡ true
unfolding log_formed encode_log
checks-sound n b m s size byte h =
    let next = (read_head s).next in
    let x = (and-eq-true_iff (leb 1 next) (slots_formed n b next m 0 false (drop head_bytes s))).0 h in
    let r = slots-held n b next m 0 false (drop head_bytes s) (length-drop head_bytes s ∙ omega arith) (bytes-behind s head_bytes byte) x.1 in
    let l : Log = record { head = read_head s; slots = r.slots } in
    let form : well_formed_log n b m l ≡ true =
    formed-of n b m l
    (record { head = head-good s (omega arith) byte (leb-true 1 next x.0); count = r.count; good = r.good; order = behind-rising next 0 false r.slots r.order }) in
    let stored : encode_log m l ≡ s = ap₂ (λ (x y : List ℕ). x ++ y) (head-back s (omega arith) byte) r.stored ∙ take-append-drop head_bytes s in
    ap is_some (ap (decode_log n b m) (sym stored) ∙ decode-encode n b m l form)

-- The slots' bytes of a log that is stored.
slots-part : (m : ℕ) (l : Log) → drop head_bytes (encode_log m l) ≡ padded (m * slot_bytes) (encode_slots l.slots)
unfolding encode_log
slots-part m l = behind-head l.head _

-- The next number of a log that is stored.
next-part : (n b m : ℕ) (l : Log) → well_formed_log n b m l ≡ true → (read_head (encode_log m l)).next ≡ l.head.next
unfolding read_log
next-part n b m l h = ap (λ (x : Log). x.head.next) (read-log n b m l h)

-- The bytes of a well-formed log pass the tests.
log-checks : (n b m : ℕ) (l : Log) → well_formed_log n b m l ≡ true → Bytes (encode_log m l) → log_formed n b m (encode_log m l) ≡ true
unfolding log_formed
log-checks n b m l h byte =
    let f = formed-inv n b m l h in
    let s = encode_log m l in
    let order = rising-all n b l.head.next l.slots f.good f.order in
    rw (next-part n b m l h, le-leb 1 l.head.next f.head.from_one)
    (held-slots n b l.head.next m 0 false l.slots f.count f.good order (drop head_bytes s) (sym (slots-part m l)) (bytes-behind s head_bytes byte))

-- Bytes taken for a log pass the tests.
checks-complete : (n b m : ℕ) (s : List ℕ) → Bytes s → is_some (decode_log n b m s) ≡ true → log_formed n b m s ≡ true
checks-complete n b m s byte h = go (decode_log n b m s) refl h
  where
    go : (x : Option Log) → decode_log n b m s ≡ x → is_some x ≡ true → log_formed n b m s ≡ true
    go None e t = absurd (false≢true t)
    go (Some l) e t =
        let d = encode-decode n b m s l e in
        rw d.1 at (log-checks n b m l d.0 (rw d.1 byte))

-- Bytes of a log's length pass the tests exactly if they are taken for a log.
pub checks-log : (n b m : ℕ) (s : List ℕ) → length s ≡ log_bytes m → Bytes s → log_formed n b m s ≡ is_some (decode_log n b m s)
checks-log n b m s size byte =
    same_test (log_formed n b m s) (is_some (decode_log n b m s)) (checks-sound n b m s size byte) (checks-complete n b m s byte)
