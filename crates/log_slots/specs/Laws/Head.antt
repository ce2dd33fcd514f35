-- The head of a log in its bytes, and which slots are used. Assumes nothing.
use Rattle.std.specs.Prelude.{ℕ, ◌+◌, ◌*◌, ◌-◌, ◌%◌, ◌≤◌, ◌<◌, ◌≡◌, true, List, ◌++◌, length, get_or, take, drop, replicate}
use Rattle.std.proofs.Common.{add-zero, arith, sym, ap, ap₂, ◌∙◌, get_or-take, get_or-drop, drop-drop}
use Rattle.std.proofs.lemmas.List.{get_or-replicate}
use Rattle.log_rules.specs.Slot.{State, waiting, lost, state_number, Slot, with_slots, good_slots}
use Rattle.log_rules.specs.Stored.{head_bytes, slot_bytes, encode_slots, encode_log, read_log}
use Rattle.log_rules.proofs.Laws.Stored.{slot-state}
use Rattle.log_rules.proofs.Laws.Geometry.{used-slots, used-slotted, free_part, slot-stored, slots-replaced, slots-fewer}
use Rattle.log_rules.specs.Code.Slots.{slots_in, slot_part, slot_at, Slotted, Logged, used_in, used_part}

-- the bytes behind a log's head that are lent on as so many slots
abbrev pub lent_part : ℕ → List ℕ → List ℕ
lent_part k s = take (head_bytes + k * slot_bytes - head_bytes) (drop head_bytes s)

-- A used slot's state is not 0.
state-some : (t : State) → state_number t % 256 ≡ 0 → ⊥
state-some waiting e = omega arith
state-some lost e = omega arith

module _ (n b m : ℕ) (s : List ℕ) (u : Logged n b m s) where
  -- The byte at the start of a used slot is its state.
  used-state : (i : ℕ) → i < used_in m s → get_or s (head_bytes + i * slot_bytes) 0 ≡ state_number (slot_at (slots_in (used_part m s)) i).state % 256
  used-state i h =
      let p = used_part m s in
      let k : i < length (slots_in p) = rw (used-slots n b m s u) h in
      let e₁ : get_or s (head_bytes + i * slot_bytes) 0 ≡ get_or p (i * slot_bytes) 0 = sym (get_or-take (used_in m s * slot_bytes) (drop head_bytes s) (i * slot_bytes) 0 (omega arith) ∙ get_or-drop head_bytes s (i * slot_bytes) 0) in
      let e₂ : get_or (slot_part p i) 0 0 ≡ get_or p (i * slot_bytes) 0 = get_or-take slot_bytes (drop (i * slot_bytes) p) 0 0 (omega arith) ∙ get_or-drop (i * slot_bytes) p 0 0 ∙ ap (λ (j : ℕ). get_or p j 0) (add-zero (i * slot_bytes)) in
      e₁ ∙ sym e₂ ∙ ap (λ (t : List ℕ). get_or t 0 0) (slot-stored p (used-slotted n b m s u) i k) ∙ slot-state (slot_at (slots_in p) i)

  -- A slot whose first byte is 0 is not used.
  pub free-unused : (i : ℕ) → get_or s (head_bytes + i * slot_bytes) 0 ≡ 0 → i < used_in m s → ⊥
  free-unused i e h = state-some (slot_at (slots_in (used_part m s)) i).state (sym (used-state i h) ∙ e)

  -- Behind the used slots each slot's first byte is 0.
  pub unused-free : (i : ℕ) → used_in m s ≤ i → i < m → get_or s (head_bytes + i * slot_bytes) 0 ≡ 0
  unused-free i h l =
      let k = used_in m s in
      let a : (head_bytes + k * slot_bytes) + (i - k) * slot_bytes ≡ head_bytes + i * slot_bytes = omega arith in
      ap (λ (j : ℕ). get_or s j 0) (sym a) ∙ sym (get_or-drop (head_bytes + k * slot_bytes) s ((i - k) * slot_bytes) 0)
      ∙ ap (λ (t : List ℕ). get_or t ((i - k) * slot_bytes) 0) (free_part n b m s u)
      ∙ get_or-replicate ((m - k) * slot_bytes) ((i - k) * slot_bytes) 0 0 (omega arith)

  -- What is lent on as the used slots is bytes of used slots, those of the log.
  pub used-lent : (k : ℕ) → k ≡ used_in m s → lent_part k s ≡ used_part m s
  used-lent k e = let j : head_bytes + k * slot_bytes - head_bytes ≡ used_in m s * slot_bytes = omega arith in ap (λ (i : ℕ). take i (drop head_bytes s)) j

  pub lent-slotted : (k : ℕ) → k ≡ used_in m s → Slotted (lent_part k s)
  lent-slotted k e = rw (used-lent k e) (used-slotted n b m s u)

  pub lent-slots : (k : ℕ) → k ≡ used_in m s → slots_in (lent_part k s) ≡ (read_log m s).slots
  lent-slots k e = ap slots_in (used-lent k e) ∙ used-slots n b m s u

  -- Behind it stands what stands behind the used slots.
  lent-behind : (k : ℕ) → k ≡ used_in m s → drop (head_bytes + k * slot_bytes - head_bytes) (drop head_bytes s) ≡ drop (head_bytes + used_in m s * slot_bytes) s
  lent-behind k e =
      let j : head_bytes + (head_bytes + k * slot_bytes - head_bytes) ≡ head_bytes + used_in m s * slot_bytes = omega arith in
      drop-drop (head_bytes + k * slot_bytes - head_bytes) head_bytes s ∙ ap (λ (i : ℕ). drop i s) j

  -- The log with other slots that came back in it, as many; and with fewer, and zeros behind them.
  pub used-back : (k : ℕ) → k ≡ used_in m s → (x : List ℕ) (l : List Slot) → x ≡ encode_slots l → length (encode_slots l) ≡ used_in m s * slot_bytes
      → take head_bytes s ++ (x ++ drop (head_bytes + k * slot_bytes - head_bytes) (drop head_bytes s)) ≡ encode_log m (with_slots l (read_log m s))
  used-back k e x l q w = ap₂ (λ (y z : List ℕ). take head_bytes s ++ (y ++ z)) q (lent-behind k e) ∙ slots-replaced n b m s u l w

  pub used-fewer : (k : ℕ) → k ≡ used_in m s → (x : List ℕ) (l : List Slot) (f : ℕ) → x ≡ encode_slots l ++ replicate (f * slot_bytes) 0
      → good_slots n b l ≡ true → length l + f ≡ used_in m s
      → take head_bytes s ++ (x ++ drop (head_bytes + k * slot_bytes - head_bytes) (drop head_bytes s)) ≡ encode_log m (with_slots l (read_log m s))
  used-fewer k e x l f q g w = ap₂ (λ (y z : List ℕ). take head_bytes s ++ (y ++ z)) q (lent-behind k e) ∙ slots-fewer n b m s u l f g w
