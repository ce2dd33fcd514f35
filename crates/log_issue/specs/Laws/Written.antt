-- A record written into the first free slot of a log: there is room for it, it stands there, and it may be issued. Assumes nothing.
use Rattle.std.specs.Prelude.{ℕ, ◌+◌, ◌*◌, ◌-◌, ◌≤◌, ◌<◌, ◌≡◌, true, length}
use Rattle.std.proofs.Common.{arith, sym, ◌∙◌, length-append, length-drop, length-take}
use Rattle.std.proofs.Math.Path.{ap, ap₂}
use mathlib.Core.List.{List, ◌++◌, append_assoc}
use Rattle.std.proofs.Math.ListN.{take, drop, replicate}
use Rattle.std.proofs.lemmas.List.{length-replicate, replicate-append-replicate}
use Rattle.std.proofs.Math.Seq.{take_at, drop_at}
use Rattle.record.specs.Operation.{Record}
use Rattle.record.specs.Fields.{encode, valid}
use Rattle.record.proofs.Laws.Record.{encode-length}
use Rattle.volume_entry.specs.Stored.{padded}
use Rattle.log_rules.specs.Stored.{encode_head, head_bytes, slot_bytes, record_start, record_bytes, encode_slots, read_log}
use Rattle.log_rules.proofs.Laws.Head.{length-head}
use Rattle.log_rules.proofs.Laws.Stored.{length-slots}
use Rattle.log_rules.proofs.Laws.Geometry.{head-part, used-bytes, logged-parts, used-good}
use Rattle.log_rules.specs.Code.Slots.{Logged, used_in}
use Rattle.log_draft.specs.declared.Issuer.{Issuer}
use Rattle.log_draft.specs.declared.Draft.{Draft}
use Rattle.log_draft.specs.Code.Draft.{behind, drafted, draft_of, Within, Placed}
use Rattle.log_draft.specs.Code.Issued.{Issuable, Ready, Kept, Room}
use Rattle.log_draft.specs.Laws.Draft.{within}
use Rattle.volume_tree.specs.Volume.{Volume}
use Rattle.record_writer.specs.Code.Writer.{Writable, Written}

-- Zeros in two parts.
zeros-parts : (j k : ℕ) → j ≤ k → ◌≡◌ {A = List ℕ} (replicate k 0) (replicate j 0 ++ replicate (k - j) 0)
zeros-parts j k h = let e : k ≡ j + (k - j) = omega arith in ap (λ (i : ℕ). replicate i 0) e ∙ sym (replicate-append-replicate j (k - j) 0)

-- Zeros behind the first of them.
zeros-behind : (j k : ℕ) → j ≤ k → ◌≡◌ {A = List ℕ} (drop j (replicate k 0)) (replicate (k - j) 0)
zeros-behind j k h = ap (drop j) (zeros-parts j k h) ∙ drop_at (replicate j 0) (replicate (k - j) 0) j (length-replicate {A = ℕ} j 0)

-- A record written into the first free slot of a log is a draft.
module _ (n b m : ℕ) (s : List ℕ) (u : Logged n b m s) (r : Record) (sound : valid r ≡ true) (room : used_in m s < m) where
  -- The bytes before the place of the record, and those from it on.
  abbrev before : List ℕ
  before = encode_head (read_log m s).head ++ (encode_slots (read_log m s).slots ++ replicate record_start 0)

  abbrev rest : List ℕ
  rest = replicate (behind m (read_log m s).slots) 0

  before-long : length before ≡ head_bytes + used_in m s * slot_bytes + record_start
  before-long =
      let w = length-slots n b (read_log m s).slots (used-good n b m s u) in
      length-append (encode_head (read_log m s).head) _ ∙ ap (λ (i : ℕ). length (encode_head (read_log m s).head) + i) (length-append (encode_slots (read_log m s).slots) (replicate record_start 0) ∙ ap₂ (λ (i j : ℕ). i + j) w (length-replicate {A = ℕ} record_start 0))
      ∙ ap (λ (i : ℕ). i + (used_in m s * slot_bytes + record_start)) (length-head (read_log m s).head) ∙ omega arith

  parted : s ≡ before ++ (replicate record_bytes 0 ++ rest)
  parted =
      let k = used_in m s in
      let l = read_log m s in
      let j : (m - k) * slot_bytes ≡ record_start + (record_bytes + behind m l.slots) = omega arith in
      let z : ◌≡◌ {A = List ℕ} (replicate ((m - k) * slot_bytes) 0) (replicate record_start 0 ++ (replicate record_bytes 0 ++ rest)) =
      ap (λ (i : ℕ). replicate i 0) j ∙ sym (replicate-append-replicate record_start (record_bytes + behind m l.slots) 0)
      ∙ ap (λ (t : List ℕ). replicate record_start 0 ++ t) (sym (replicate-append-replicate record_bytes (behind m l.slots) 0)) in
      logged-parts n b m s u
      ∙ ap₂ (λ (x y : List ℕ). x ++ y) (head-part n b m s u) (ap₂ (λ (x y : List ℕ). x ++ y) (used-bytes n b m s u) z)
      ∙ ap (λ (t : List ℕ). encode_head l.head ++ t) (sym (append_assoc (encode_slots l.slots) (replicate record_start 0) (replicate record_bytes 0 ++ rest)))
      ∙ sym (append_assoc (encode_head l.head) (encode_slots l.slots ++ replicate record_start 0) (replicate record_bytes 0 ++ rest))

  pub written : (x : List ℕ) → x ≡ encode r ++ drop (length (encode r)) (take record_bytes (drop (head_bytes + used_in m s * slot_bytes + record_start) s))
      → take (head_bytes + used_in m s * slot_bytes + record_start) s ++ (x ++ drop record_bytes (drop (head_bytes + used_in m s * slot_bytes + record_start) s)) ≡ drafted m (read_log m s) r
  unfolding drafted
  written x e =
      let l = read_log m s in
      let at = head_bytes + used_in m s * slot_bytes + record_start in
      let t : take at s ≡ before = ap (take at) parted ∙ take_at before _ at before-long in
      let d : drop at s ≡ replicate record_bytes 0 ++ rest = ap (drop at) parted ∙ drop_at before _ at before-long in
      let y : take record_bytes (drop at s) ≡ replicate record_bytes 0 = ap (take record_bytes) d ∙ take_at (replicate record_bytes 0) rest record_bytes (length-replicate {A = ℕ} record_bytes 0) in
      let g : drop record_bytes (drop at s) ≡ rest = ap (drop record_bytes) d ∙ drop_at (replicate record_bytes 0) rest record_bytes (length-replicate {A = ℕ} record_bytes 0) in
      let v : x ≡ padded record_bytes (encode r) = e ∙ ap (λ (q : List ℕ). encode r ++ drop (length (encode r)) q) y
      ∙ ap (λ (q : List ℕ). encode r ++ q) (zeros-behind (length (encode r)) record_bytes (encode-length r sound).1) in
      ap₂ (λ (p q : List ℕ). p ++ q) t (ap₂ (λ (p q : List ℕ). p ++ q) v g)
      ∙ append_assoc (encode_head l.head) (encode_slots l.slots ++ replicate record_start 0) (padded record_bytes (encode r) ++ rest)
      ∙ ap (λ (q : List ℕ). encode_head l.head ++ q) (append_assoc (encode_slots l.slots) (replicate record_start 0) (padded record_bytes (encode r) ++ rest))

-- A draft in a log with a free slot, and a record by its sequence number that is written there.
module _ {n b m : ℕ} {s : List ℕ} {d : Draft} {by : Issuer} (u : Logged n b m s) (room : Room m s) (e : d ≡ draft_of (read_log m s) by) where
  -- The parts that the draft names lie in the log.
  pub draft-room : Within d s
  draft-room = within (read_log m s) by e room.0 u.whole

  module _ (f : ℕ → Record) where
    abbrev issued : Record
    issued = f (read_log m s).head.next

    numbered : f d.next ≡ issued
    numbered = ap (λ (x : Draft). f x.next) e

    -- There is room for any valid record.
    pub record-room : valid issued ≡ true → Writable (f d.next) (take (d.end - d.start) (drop d.start s))
    record-room h =
        let w = draft-room in
        let i : length (take (d.end - d.start) (drop d.start s)) ≡ record_bytes = simp (length-take, length-drop) (omega arith) in
        rw numbered (record { sound = h; room = omega (arith, i, (encode-length issued h).1) })

    -- What was written there stands in the first free slot.
    pub placed : Kept n b issued → issued.sequence ≡ (read_log m s).head.next → issued.program ≡ by.program → {x : List ℕ} {c : ℕ}
        → Written (f d.next) (take (d.end - d.start) (drop d.start s)) x c
        → Placed n b m d (take d.start s ++ (x ++ drop (d.end - d.start) (drop d.start s))) (read_log m s) issued
    placed kept first issuer {x} w =
        let i = draft-room.wide in
        let h : x ≡ encode issued ++ drop (length (encode issued)) (take record_bytes (drop (head_bytes + used_in m s * slot_bytes + record_start) s)) = rw (numbered, i, e) at w.held in
        record {
          objects = u.objects;
          blocks = u.blocks;
          most = u.most;
          form = u.form;
          room = room.0;
          numbers = room.1;
          sound = kept.sound;
          fit = kept.fit;
          first = first;
          held = rw (i, e) (written n b m s u issued kept.sound room.0 x h);
          place = e ∙ ap (λ (y : Draft). draft_of (read_log m s) y.by) (sym e);
          issuer = issuer ∙ ap (λ (y : Draft). y.by.program) (sym e);
        }

    -- And may be issued where it applies to the view.
    pub ready : {v : Volume} → Issuable n b v issued → issued.sequence ≡ (read_log m s).head.next → issued.program ≡ by.program → {x : List ℕ} {c : ℕ}
        → Written (f d.next) (take (d.end - d.start) (drop d.start s)) x c
        → Ready n b m d (take d.start s ++ (x ++ drop (d.end - d.start) (drop d.start s))) v (read_log m s) issued
    ready able first issuer w = record { placed = placed (record { sound = able.sound; fit = able.fit }) first issuer w; able = able }
