-- The test of one slot's bytes passes for the bytes of the good slots, and for no others. Assumes nothing.
use Rattle.std.proofs.lemmas.Option.{some_pair_parts}
use Rattle.std.specs.Prelude.{ℕ, ◌+◌, ◌-◌, ◌^◌, ◌≤◌, ◌<◌, Bool, ◌&&◌, ◌||◌, get_or, take, drop, Option, None, Some}
use Rattle.std.proofs.Common.{arith, ◌∙◌, length-append, take-append-drop, zero-add, take_all, take-suc, take-add, drop-drop, eqb-true}
use Rattle.std.proofs.Math.Path.{◌≡◌, refl, sym, ap}
use Rattle.std.proofs.Math.Bool.{true, false, cond, and-eq-true_iff}
use mathlib.Core.List.{List, [], ◌∷◌, ◌++◌}
use Rattle.std.proofs.Math.ListN.{length, replicate, length-drop}
use Rattle.std.proofs.Math.Seq.{length-take-le, drop-append_seam}
use Rattle.std.proofs.Math.Dec.{eqb}
use Rattle.buffer.specs.Numeral.{bytes, numeral, Bytes}
use Rattle.buffer.specs.Laws.Numeral.{numeral-below, bytes-part, number-back}
use Rattle.buffer.specs.Code.Zero.{zeros}
use Rattle.buffer.specs.Laws.Zero.{zeros-replicate, replicate-zeros}
use Rattle.record.specs.Operation.{Record}
use Rattle.record.specs.Fields.{encode, valid, fits}
use Rattle.record_reader.specs.declared.Whole.{Whole}
use Rattle.record_reader.specs.Answer.{whole_of}
use Rattle.record_reader.specs.Code.Reader.{record_at}
use Rattle.record_reader.specs.Code.Fit.{fits_whole, fits_decoded}
use Rattle.record_reader.specs.Laws.SoundRecord.{record-sound}
use Rattle.record_reader.specs.Laws.Complete.{record-complete}
use Rattle.record_reader.specs.Laws.Exact.{decode-encode}
use Rattle.record_reader.specs.Laws.Fit.{fits_read}
use Rattle.volume_entry.specs.Stored.{padded}
use Rattle.log_rules.specs.Slot.{State, waiting, lost, state_number, Slot, with_state, is_waiting, sequence_of}
use Rattle.log_rules.specs.Stored.{slot_bytes, dependents_at, record_start, record_bytes, encode_front, encode_slot, record_part}
use Rattle.log_rules.proofs.Laws.Stored.{record-held}
use Rattle.log_rules.proofs.Laws.Slot.{GoodSlot}
use Rattle.log_form.specs.Code.Checks.{used_slot, front_formed, form_by, slot_form}

-- the dependents that a slot's bytes tell of
abbrev dependents_in : List ℕ → ℕ
dependents_in s = numeral (take 4 (drop dependents_at s))

-- what is asked of the bytes before the record, part by part
record Front (s : List ℕ) : Type 0 where
  state : State
  told : state_number state ≡ get_or s 0 0
  blank : zeros (take 3 (drop 1 s)) ≡ true
  none-if-lost : (eqb (state_number state) 1 || eqb (dependents_in s) 0) ≡ true

-- Bytes that pass the test of the front have each part.
front-inv : (s : List ℕ) → front_formed s ≡ true → Front s
unfolding front_formed
front-inv s h =
    let x = (and-eq-true_iff (zeros (take 3 (drop 1 s))) (eqb (get_or s 0 0) 1 || (eqb (get_or s 0 0) 2 && eqb (dependents_in s) 0))).0 h in
    go x.0 (eqb (get_or s 0 0) 1) refl x.1
  where
    go : zeros (take 3 (drop 1 s)) ≡ true → (t : Bool) → eqb (get_or s 0 0) 1 ≡ t → (t || (eqb (get_or s 0 0) 2 && eqb (dependents_in s) 0)) ≡ true → Front s
    go z true e f = record { state = waiting; told = sym (eqb-true (get_or s 0 0) 1 e); blank = z; none-if-lost = refl }
    go z false e f =
        let x = (and-eq-true_iff (eqb (get_or s 0 0) 2) (eqb (dependents_in s) 0)).0 f in
        record { state = lost; told = sym (eqb-true (get_or s 0 0) 2 x.0); blank = z; none-if-lost = x.1 }

-- A state's number is one byte.
first_byte : (t : State) → bytes 1 (state_number t) ≡ state_number t ∷ []
unfolding bytes
first_byte waiting = refl
first_byte lost = refl

module _ (s : List ℕ) (at : ℕ) (room : at + 4 ≤ length s) (byte : Bytes s) where
  -- There are 4 bytes at a place where there is room for them.
  four-long : length (take 4 (drop at s)) ≡ 4
  four-long = length-take-le 4 (drop at s) (omega (arith, length-drop at s))

  -- What 4 bytes store is below 2 ^ 32.
  pub four_below : numeral (take 4 (drop at s)) < 2 ^ 32
  four_below = rw four-long at (numeral-below (take 4 (drop at s)) (bytes-part s 4 at byte))

-- A slot has these bytes if its fields are in them.
slot-back : (e : List ℕ) → length e ≡ slot_bytes → Bytes e → (t : Slot) → state_number t.state ≡ get_or e 0 0
    → zeros (take 3 (drop 1 e)) ≡ true → t.dependents ≡ dependents_in e → padded record_bytes (encode t.recorded) ≡ record_part e → encode_slot t ≡ e
unfolding encode_slot
slot-back e size byte t state blank dep rest =
    let a : bytes 1 (state_number t.state) ≡ take 1 e = first_byte t.state ∙ ap (λ (v : ℕ). v ∷ []) state ∙ sym (take-suc e 0 0 (omega arith)) in
    let l₁ = length-drop 1 e in
    let n₃ : length (take 3 (drop 1 e)) ≡ 3 = length-take-le 3 (drop 1 e) (omega arith) in
    let p₃ : replicate 3 0 ≡ take 3 (drop 1 e) = sym (zeros-replicate (take 3 (drop 1 e)) blank ∙ ap (λ (k : ℕ). replicate k 0) n₃) in
    let p₄ : bytes 4 t.dependents ≡ take 4 (drop dependents_at e) = ap (bytes 4) dep ∙ number-back 4 dependents_at e (omega arith) byte in
    let inner : take 7 (drop 1 e) ≡ take 3 (drop 1 e) ++ take 4 (drop dependents_at e) = take-add 3 4 (drop 1 e) ∙ ap (λ (x : List ℕ). take 3 (drop 1 e) ++ take 4 x) (drop-drop 3 1 e) in
    let front : encode_front t ≡ take record_start e = (λ i. a i ++ (p₃ i ++ p₄ i)) ∙ sym (take-add 1 7 e ∙ ap (λ (x : List ℕ). take 1 e ++ x) inner) in
    let part : record_part e ≡ drop record_start e = take_all record_bytes (drop record_start e) (omega (arith, length-drop record_start e)) in
    (λ i. front i ++ (rest ∙ part) i) ∙ take-append-drop record_start e

-- The place after a record that the reader answers lies in the bytes.
pub answered-within : (s : List ℕ) → Bytes s → (at : ℕ) (w : Whole) → at ≤ length s → record_at s at ≡ Some w → w.next.at ≤ length s
answered-within s byte at w h e =
    let f = record-sound s byte at w e in
    let l : length (drop at s) ≡ length (encode f.found) + length (drop w.next.at s) =
    ap length f.spans.begins ∙ length-append (encode f.found) (drop w.next.at s) in
    omega (arith, f.spans.after, length-drop at s)

-- A record that is answered fits exactly if what was answered of it does.
found-fits : (n b : ℕ) (s : List ℕ) → Bytes s → (at : ℕ) (w : Whole) (r : Record) (rest : List ℕ) → record_at s at ≡ Some w → valid r ≡ true
    → drop at s ≡ encode r ++ rest → fits n b r ≡ fits_whole n b s w
found-fits n b s byte at w r rest e good begins =
    sym (ap (fits_decoded n b) (decode-encode s at r rest good begins)) ∙ fits_read s byte at n b w e

-- the good slot whose bytes some bytes are, with its sequence number and whether it waits
pub record Used (n b : ℕ) (e : List ℕ) (sequence : ℕ) (waits : Bool) : Type 0 where
  pub slot : Slot
  pub good : GoodSlot n b slot
  pub stored : encode_slot slot ≡ e
  pub numbered : sequence_of slot ≡ sequence
  pub state : is_waiting slot ≡ waits

module _ (n b : ℕ) (e : List ℕ) (size : length e ≡ slot_bytes) (byte : Bytes e) where
  abbrev part : List ℕ
  part = record_part e

  part_bytes : Bytes part
  part_bytes = bytes-part e record_bytes record_start byte

  -- A front that passes, a record that fits, and zeros make a good slot.
  parts-used : Front e → (w : Whole) → record_at part 0 ≡ Some w → fits_whole n b part w ≡ true → zeros (drop w.next.at part) ≡ true
      → Used n b e w.head.sequence (eqb (get_or e 0 0) 1)
  unfolding whole_of
  parts-used f w read fit blank =
      let g = record-sound part part_bytes 0 w read in
      let r = g.found in
      let d = dependents_in e in
      let slot : Slot = record { state = f.state; dependents = d; recorded = r } in
      let long : length part ≡ record_bytes = length-take-le record_bytes (drop record_start e) (omega (arith, length-drop record_start e)) in
      let l : length (drop w.next.at part) ≡ record_bytes - length (encode r) = length-drop w.next.at part ∙ omega (arith, g.spans.after, long) in
      let rest : padded record_bytes (encode r) ≡ part =
      sym (g.spans.begins ∙ ap (λ (t : List ℕ). encode r ++ t) (zeros-replicate (drop w.next.at part) blank ∙ ap (λ (k : ℕ). replicate k 0) l)) in
      record {
        slot = slot;
        good =
            record {
              sound = g.good;
              fit = found-fits n b part part_bytes 0 w r (drop w.next.at part) read g.good g.spans.begins ∙ fit;
              small = four_below e dependents_at (omega arith) byte;
              none-if-lost = f.none-if-lost;
            };
        stored = slot-back e size byte slot f.told f.blank refl rest;
        numbered = ap (λ (y : Whole). y.head.sequence) g.answered;
        state = ap (λ (v : ℕ). eqb v 1) f.told;
      }

  -- Bytes that pass the test of a slot are those of a good one, whose sequence number and state are told.
  pub form-used : (q : ℕ) (w : Bool) → slot_form n b e ≡ used_slot q w → Used n b e q w
  unfolding slot_form
  form-used q w h = front (front_formed e) refl h
    where
      tests : Front e → (x : Whole) → record_at part 0 ≡ Some x → (t : Bool) → (fits_whole n b part x && zeros (drop x.next.at part)) ≡ t
          → cond t (used_slot x.head.sequence (eqb (get_or e 0 0) 1)) None ≡ used_slot q w → Used n b e q w
      tests f x read true p d =
          let y = (and-eq-true_iff (fits_whole n b part x) (zeros (drop x.next.at part))).0 p in
          let h = some_pair_parts x.head.sequence q (eqb (get_or e 0 0) 1) w d in
          let a : x.head.sequence ≡ q = h.0 in
          let c : eqb (get_or e 0 0) 1 ≡ w = h.1 in
          rw (← a, ← c) (parts-used f x read y.0 y.1)
      tests f x read false p d = let z : ◌≡◌ {A = ℕ} 0 1 = cc in absurd (omega arith)

      reading : Front e → (x : Option Whole) → record_at part 0 ≡ x → form_by n b (eqb (get_or e 0 0) 1) part x ≡ used_slot q w → Used n b e q w
      reading f (Some x) read d = tests f x read (fits_whole n b part x && zeros (drop x.next.at part)) refl d
      reading f None read d = let z : ◌≡◌ {A = ℕ} 0 1 = cc in absurd (omega arith)

      front : (t : Bool) → front_formed e ≡ t → cond t (form_by n b (eqb (get_or e 0 0) 1) part (record_at part 0)) None ≡ used_slot q w → Used n b e q w
      front true p d = reading (front-inv e p) (record_at part 0) refl d
      front false p d = let z : ◌≡◌ {A = ℕ} 0 1 = cc in absurd (omega arith)

-- A good slot's bytes begin as the test asks.
front-good : (s : Slot) → (is_waiting s || eqb s.dependents 0) ≡ true → front_formed (encode_slot s) ≡ true
unfolding front_formed encode_slot bytes zeros numeral
front-good s h = go s.state h
  where
    go : (t : State) → (eqb (state_number t) 1 || eqb s.dependents 0) ≡ true
        → front_formed (encode_slot (with_state t s)) ≡ true
    go waiting h = refl
    go lost h = rw (eqb-true s.dependents 0 h)

-- A slot's first byte is its state's number.
pub slot-first : (s : Slot) → get_or (encode_slot s) 0 0 ≡ state_number s.state
unfolding encode_slot bytes
slot-first s = go s.state
  where
    go : (t : State) → get_or (encode_slot (with_state t s)) 0 0 ≡ state_number t
    go waiting = refl
    go lost = refl

-- The bytes of a good slot pass the test, which tells its sequence number and whether it waits.
pub used-form : (n b : ℕ) (s : Slot) → GoodSlot n b s → Bytes (encode_slot s) → slot_form n b (encode_slot s) ≡ used_slot (sequence_of s) (is_waiting s)
unfolding slot_form whole_of
used-form n b s g byte =
    let e = encode_slot s in
    let part = record_part e in
    let r = s.recorded in
    let z : List ℕ = replicate (record_bytes - length (encode r)) 0 in
    let w = whole_of r 0 in
    let held : part ≡ encode r ++ z = record-held s g.sound in
    let byte' = bytes-part e record_bytes record_start byte in
    let read : record_at part 0 ≡ Some w = record-complete part 0 r z g.sound held in
    let fit : fits_whole n b part w ≡ true = sym (found-fits n b part byte' 0 w r z read g.sound held) ∙ g.fit in
    let behind : drop (0 + length (encode r)) part ≡ z = ap (λ (k : ℕ). drop k part) (zero-add (length (encode r))) ∙ ap (drop (length (encode r))) held ∙ drop-append_seam (encode r) z in
    let blank : zeros (drop w.next.at part) ≡ true = ap zeros behind ∙ replicate-zeros (record_bytes - length (encode r)) in
    ap (λ (t : Bool). cond t (form_by n b (eqb (get_or e 0 0) 1) part (record_at part 0)) None) (front-good s g.none-if-lost)
    ∙ ap (form_by n b (eqb (get_or e 0 0) 1) part) read
    ∙ ap (λ (t : Bool). cond t (used_slot r.sequence (eqb (get_or e 0 0) 1)) None) ((and-eq-true_iff _ _).1 (fit, blank))
    ∙ ap (λ (v : ℕ). used_slot r.sequence (eqb v 1)) (slot-first s)
