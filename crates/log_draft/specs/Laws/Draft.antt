-- A record that stands in the first free slot of a log: the parts of the bytes around it, and what issuing it leaves. Assumes nothing.
use Prim.Native.Nat.{ℕ, suc, ◌+◌, ◌*◌, ◌-◌, ◌<◌}
use Rattle.std.proofs.Common.{arith, ◌∙◌, subst, length-append, take_at, drop_at, drop-drop}
use Rattle.std.specs.Prelude.{◌≡◌, refl, true, take, drop}
use Rattle.std.proofs.Math.Path.{sym, ap, ap₂, subst⁻¹}
use mathlib.Core.List.{List, [], ◌∷◌, ◌++◌, append_assoc, append-nil}
use Rattle.std.proofs.Math.ListN.{length, replicate}
use Rattle.std.proofs.lemmas.List.{length-replicate}
use Rattle.volume_entry.specs.Laws.Entry.{length-padded}
use Rattle.buffer.specs.Numeral.{bytes}
use Rattle.buffer.specs.Laws.Numeral.{length-bytes}
use Rattle.buffer.specs.Patch.{patch}
use Rattle.record.specs.Operation.{Operation, Record, record_of, operands}
use Rattle.record.specs.Fields.{encode, valid}
use Rattle.record.proofs.Laws.Record.{encode-length}
use Rattle.volume_entry.specs.Stored.{padded}
use Rattle.volume_entry.specs.Laws.Write.{patch-between}
use Rattle.log_rules.specs.Programs.{with}
use Rattle.log_rules.specs.Slot.{Slot, Log, with_next}
use Rattle.log_rules.specs.Stored.{encode_head, next_at, head_bytes, slot_bytes, record_start, record_bytes, record_end, encode_slot, encode_slots, encode_log, log_bytes}
use Rattle.log_rules.proofs.Laws.Head.{length-head, behind-head, next-put}
use Rattle.log_rules.proofs.Laws.Stored.{length-slot, length-slots}
use Rattle.log_rules.proofs.Laws.Slot.{formed-inv}
use Rattle.log_rules.proofs.Laws.Geometry.{slots-append, slots-in, slotted-of}
use Rattle.log_rules.specs.Depend.{noted}
use Rattle.log_rules.specs.Change.{note, issue, waiting_slot}
use Rattle.log_rules.specs.Code.Slots.{slots_in, Slotted}
use Rattle.log_rules.proofs.Laws.Change.{noted-good, noted-length}
use Rattle.log_slots.specs.Laws.Slot.{head-limits}
use Rattle.log_draft.specs.declared.Issuer.{Issuer}
use Rattle.log_draft.specs.declared.Draft.{Draft}
use Rattle.log_draft.specs.Code.Draft.{behind, drafted, draft_of, Within, Placed}
use Rattle.log_draft.specs.Code.Issued.{issued_log}

-- A draft in a log with a free slot: the parts that it names lie in the log.
pub within : (l : Log) (by : Issuer) {m : ℕ} {d : Draft} {s : List ℕ} → d ≡ draft_of l by → length l.slots < m → length s ≡ log_bytes m → Within d s
within l by {m} {d} {s} e k w =
    subst⁻¹ (λ (x : Draft). Within x s) e
    (record { used = omega arith; slot = omega arith; part = omega arith; whole = omega arith; wide = omega arith })

-- The bytes of a slot whose operation waits.
slot-waiting : (q p : ℕ) (o : Operation) → (bytes 4 1 ++ bytes 4 (with 0 p)) ++ padded record_bytes (encode (record_of q p o)) ≡ encode_slot (waiting_slot (record_of q p o))
unfolding encode_slot bytes
slot-waiting q p o = refl

-- One more slot behind some, and zeros behind it.
slots-more : (m : ℕ) (k : List Slot) (q p : ℕ) (o : Operation) → valid (record_of q p o) ≡ true → length (encode_slots k) ≡ length k * slot_bytes → length k < m
    → encode_slots k ++ ((bytes 4 1 ++ bytes 4 (with 0 p)) ++ (padded record_bytes (encode (record_of q p o)) ++ replicate (behind m k) 0))
    ≡ padded (m * slot_bytes) (encode_slots (k ++ (waiting_slot (record_of q p o) ∷ [])))
unfolding encode_slots
slots-more m k q p o h w room =
    let t = waiting_slot (record_of q p o) in
    let e : encode_slots (k ++ (t ∷ [])) ≡ encode_slots k ++ encode_slot t = slots-append k (t ∷ []) ∙ ap (λ (y : List ℕ). encode_slots k ++ y) (append-nil (encode_slot t)) in
    let g : length (encode_slots k ++ encode_slot t) ≡ suc (length k) * slot_bytes = length-append (encode_slots k) (encode_slot t) ∙ omega (arith, length-slot t h) in
    let z : behind m k ≡ m * slot_bytes - length (encode_slots k ++ encode_slot t) = rw g (omega arith) in
    ap (λ (y : List ℕ). encode_slots k ++ y) (sym (append_assoc (bytes 4 1 ++ bytes 4 (with 0 p)) (padded record_bytes (encode (record_of q p o))) _) ∙ ap (λ (y : List ℕ). y ++ replicate (behind m k) 0) (slot-waiting q p o))
    ∙ sym (append_assoc (encode_slots k) (encode_slot t) (replicate (behind m k) 0))
    ∙ ap (λ (j : ℕ). (encode_slots k ++ encode_slot t) ++ replicate j 0) z ∙ rw e

module _ {n b m : ℕ} {d : Draft} {s : List ℕ} {l : Log} {r : Record} (h : Placed n b m d s l r) where
  -- The bytes of its used slots are so many.
  slots-long : length (encode_slots l.slots) ≡ length l.slots * slot_bytes
  slots-long = length-slots n b l.slots (formed-inv n b m l h.form).good

  tail-long : length (padded record_bytes (encode r)) ≡ record_bytes
  tail-long = length-padded record_bytes (encode r) (encode-length r h.sound).1

  -- The used slots, and the record, as parts of the bytes.
  draft-head : take head_bytes s ≡ encode_head l.head
  unfolding drafted
  draft-head = rw h.held (take_at (encode_head l.head) _ head_bytes (length-head l.head))

  draft-rest : drop head_bytes s ≡ encode_slots l.slots ++ (replicate record_start 0 ++ (padded record_bytes (encode r) ++ replicate (behind m l.slots) 0))
  unfolding drafted
  draft-rest = rw h.held (behind-head l.head _)

  draft-slots : take (length l.slots * slot_bytes) (drop head_bytes s) ≡ encode_slots l.slots
  draft-slots = rw draft-rest (take_at (encode_slots l.slots) _ (length l.slots * slot_bytes) slots-long)

  draft-free : drop (head_bytes + length l.slots * slot_bytes) s ≡ replicate record_start 0 ++ (padded record_bytes (encode r) ++ replicate (behind m l.slots) 0)
  draft-free = sym (drop-drop (length l.slots * slot_bytes) head_bytes s) ∙ rw draft-rest (drop_at (encode_slots l.slots) _ (length l.slots * slot_bytes) slots-long)

  draft-record : take record_bytes (drop (head_bytes + length l.slots * slot_bytes + record_start) s) ≡ padded record_bytes (encode r)
  draft-record =
      let behind : drop (head_bytes + length l.slots * slot_bytes + record_start) s ≡ padded record_bytes (encode r) ++ replicate (behind m l.slots) 0 =
      sym (drop-drop record_start (head_bytes + length l.slots * slot_bytes) s) ∙ ap (drop record_start) draft-free in
      ap (take record_bytes) behind
      ∙ take_at (padded record_bytes (encode r)) _ record_bytes tail-long

  -- It has a log's length.
  draft-long : length s ≡ head_bytes + m * slot_bytes
  unfolding drafted
  draft-long =
      let w = slots-long in
      let t = (encode-length r h.sound).1 in
      let k = h.room in
      rw h.held (simp (length-append, length-replicate) (omega (arith, length-head l.head)))

  -- The number that the draft has, and where its slot begins.
  pub draft-next : d.next ≡ l.head.next
  draft-next = ap (λ (x : Draft). x.next) h.place

  draft-at : d.at ≡ head_bytes + length l.slots * slot_bytes
  draft-at = ap (λ (x : Draft). x.at) h.place

  -- Its parts lie in the log.
  pub draft-within : Within d s
  draft-within = within l d.by h.place h.room draft-long

  -- The record, and the used slots, as the parts that are lent on.
  pub draft-part : take (d.end - d.start) (drop d.start s) ≡ padded record_bytes (encode r)
  draft-part = ap₂ (λ (i j : ℕ). take i (drop j s)) draft-within.wide (ap (λ (x : Draft). x.start) h.place) ∙ draft-record

  draft-used : take (d.at - head_bytes) (drop head_bytes s) ≡ encode_slots l.slots
  draft-used = let e = draft-at in let i : d.at - head_bytes ≡ length l.slots * slot_bytes = omega arith in ap (λ (x : ℕ). take x (drop head_bytes s)) i ∙ draft-slots

  pub draft-slotted : Slotted (take (d.at - head_bytes) (drop head_bytes s))
  draft-slotted =
      let room = h.room in
      let most = h.most in
      subst Slotted (sym draft-used) (slotted-of n b l.slots h.objects h.blocks (omega arith) (formed-inv n b m l h.form).good)

  draft-in : slots_in (take (d.at - head_bytes) (drop head_bytes s)) ≡ l.slots
  draft-in = ap slots_in draft-used ∙ slots-in n b l.slots (formed-inv n b m l h.form).good

  -- Issuing it: dependence noted in the used slots, the slot's state and dependents, and the next number.
  issued : (p : ℕ) (o : Operation) (ops : List ℕ) → r ≡ record_of l.head.next p o
      → length (encode_slots (noted p ops l.slots)) ≡ length l.slots * slot_bytes → length (noted p ops l.slots) ≡ length l.slots
      → patch (patch (take head_bytes s ++ (encode_slots (noted p ops l.slots) ++ drop (head_bytes + length l.slots * slot_bytes) s)) (head_bytes + length l.slots * slot_bytes) (bytes 4 1 ++ bytes 4 (with 0 p))) next_at
      (bytes 4 (l.head.next + 1))
      ≡ encode_log m (issue p o (note p ops l))
  unfolding encode_log issue
  issued p o ops e w c =
      let x = encode_slots (noted p ops l.slots) in
      let u = length l.slots in
      let z : List ℕ = replicate (behind m l.slots) 0 in
      let y : List ℕ = padded record_bytes (encode r) in
      let f = bytes 4 1 ++ bytes 4 (with 0 p) in
      let room = h.room in
      let k : head_bytes + u * slot_bytes ≡ length (encode_head l.head ++ x) = sym (length-append (encode_head l.head) x ∙ ap₂ (λ (i j : ℕ). i + j) (length-head l.head) w) in
      let front : length (replicate {A = ℕ} record_start 0) ≡ length f = sym (length-append (bytes 4 1) (bytes 4 (with 0 p)) ∙ ap₂ (λ (i j : ℕ). i + j) (length-bytes 4 1) (length-bytes 4 (with 0 p))) in
      let inner : patch (encode_head l.head ++ (x ++ (replicate record_start 0 ++ (y ++ z)))) (head_bytes + u * slot_bytes) f ≡ encode_head l.head ++ (x ++ (f ++ (y ++ z))) =
      ap (λ (t : List ℕ). patch t (head_bytes + u * slot_bytes) f) (sym (append_assoc (encode_head l.head) x (replicate record_start 0 ++ (y ++ z))))
      ∙ patch-between (encode_head l.head ++ x) (replicate record_start 0) (y ++ z) (head_bytes + u * slot_bytes) f (sym k) front
      ∙ append_assoc (encode_head l.head) x (f ++ (y ++ z)) in
      ap (λ (t : List ℕ). patch (patch t (head_bytes + u * slot_bytes) f) next_at (bytes 4 (l.head.next + 1))) (ap₂ (λ (a q : List ℕ). a ++ (x ++ q)) draft-head draft-free)
      ∙ ap (λ (t : List ℕ). patch t next_at (bytes 4 (l.head.next + 1))) inner ∙ next-put (l.head.next + 1) l (x ++ (f ++ (y ++ z)))
      ∙ ap (λ (t : List ℕ). encode_head (with_next (l.head.next + 1) l).head ++ t)
      (ap₂ (λ (i : ℕ) (q : Record). x ++ (f ++ (padded record_bytes (encode q) ++ replicate ((m - i) * slot_bytes - record_end) 0))) (sym c) e
      ∙ slots-more m (noted p ops l.slots) l.head.next p o (rw e at h.sound) (w ∙ ap (λ (i : ℕ). i * slot_bytes) (sym c)) (rw c h.room))

  -- The same from what the code puts there.
  pub issued-all : (x y z : List ℕ) → x ≡ encode_slots (noted d.by.program (operands r.operation ++ []) (slots_in (take (d.at - head_bytes) (drop head_bytes s))))
      → y ≡ patch (take head_bytes s ++ (x ++ drop (d.at - head_bytes) (drop head_bytes s))) d.at (bytes 4 1 ++ bytes 4 (with 0 d.by.program)) → z ≡ patch y next_at (bytes 4 (d.next + 1))
      → z ≡ encode_log m (issued_log r l)
  issued-all x y z hx hy hz =
      let p = r.program in
      let o = r.operation in
      let small = (head-limits r h.sound).1 in
      let good = (formed-inv n b m l h.form).good in
      let c = noted-length p (operands o) l.slots in
      let w = length-slots n b (noted p (operands o) l.slots) (noted-good n b p (operands o) l.slots small good) ∙ ap (λ (i : ℕ). i * slot_bytes) c in
      let t : x ≡ encode_slots (noted p (operands o) l.slots) = hx ∙ ap encode_slots (rw (← h.issuer, append-nil, draft-in)) in
      let e = draft-at in
      let i : head_bytes + (d.at - head_bytes) ≡ head_bytes + length l.slots * slot_bytes = omega arith in
      let v : drop (d.at - head_bytes) (drop head_bytes s) ≡ drop (head_bytes + length l.slots * slot_bytes) s = drop-drop (d.at - head_bytes) head_bytes s ∙ ap (λ (j : ℕ). drop j s) i in
      let is : r ≡ record_of l.head.next p o = ap (λ (j : ℕ). record_of j p o) h.first in
      hz ∙ ap₂ (λ (a : List ℕ) (j : ℕ). patch a next_at (bytes 4 (j + 1))) hy draft-next
      ∙ rw (t, v, e, ← h.issuer) (issued p o (operands o) is w c)
