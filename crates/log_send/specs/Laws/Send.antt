-- What was sent: the record that the code reads in a slot, which operations are sent within k, and the server after them.
-- Assumes nothing.
use Rattle.std.specs.Prelude.{ℕ, zero, suc, ◌<◌, ◌≡◌, refl, List, [], ◌∷◌, Bool, true, false, cond, length, take, None, Some}
use Rattle.std.proofs.Common.{ap}
use Rattle.record_reader.specs.declared.Whole.{Whole}
use Rattle.record.specs.Operation.{Record}
use Rattle.record.specs.Fields.{encode, valid, fits}
use Rattle.record_reader.specs.Code.Reader.{record_at}
use Rattle.record_reader.specs.Code.Found.{record_from}
use Rattle.volume_entry.specs.Stored.{padded}
use Rattle.volume_tree.specs.Volume.{Volume}
use Rattle.volume_tree.specs.Form.{well_formed}
use Rattle.volume_tree.specs.Stored.{encode_volume, read_volume}
use Rattle.volume_tree.specs.Code.Lent.{Formed}
use Rattle.volume_tree.specs.Laws.Stored.{read-good}
use Rattle.volume_tree.specs.Laws.Lent.{encoded-formed}
use Rattle.volume_apply.specs.Apply.{applies, apply}
use Rattle.volume_apply.proofs.Laws.Apply.{apply-good}
use Rattle.volume_applies.specs.Code.Held.{Fitting}
use Rattle.volume_applies.specs.Laws.Held.{held-there, held_found, held-fitting}
use Rattle.log_rules.specs.Slot.{Slot, good_slots}
use Rattle.log_rules.specs.Stored.{record_bytes}
use Rattle.log_rules.proofs.Laws.Slot.{GoodSlot}
use Rattle.log_rules.proofs.Laws.Geometry.{good-at}
use Rattle.log_rules.specs.Code.Slots.{slot_at}
use Rattle.log_rules.specs.Sends.{applying}
use Rattle.log_send.specs.Code.Sends.{sendable}

module _ (n b : ℕ) (l : List Slot) (all_good : good_slots n b l ≡ true) (i : ℕ) (h : i < length l) (t : List ℕ) (e : t ≡ padded record_bytes (encode (slot_at l i).recorded)) where
  -- A slot's record is the one that the reader finds in its bytes.
  good : GoodSlot n b (slot_at l i)
  good = good-at n b l i all_good h

  pub record-there : None ≡ record_at t 0 → ⊥
  record-there q = held-there t (slot_at l i).recorded _ good.sound e q

  pub record-found : (w : Whole) → (Some w) ≡ record_at t 0 → record_from t w ≡ (slot_at l i).recorded
  record-found w q = held_found t (slot_at l i).recorded _ good.sound e w q

  pub record-fitting : (w : Whole) → (Some w) ≡ record_at t 0 → Fitting n b t w
  record-fitting w q = held-fitting t (slot_at l i).recorded _ good.sound e w q n b good.fit

-- What is sent within k is the first of the operations, up to the first that does not apply; and it is so many.
pub sendable-first : (k : ℕ) (rs : List Record) (v : Volume) → sendable k rs v ≡ take (applying (take k rs) v) rs
unfolding sendable applying
sendable-first zero rs v = refl
sendable-first (suc k) [] v = refl
sendable-first (suc k) (r ∷ rs) v = go (applies v r.operation) (sendable-first k rs (apply v r.operation))
  where
    go : (a : Bool) → sendable k rs (apply v r.operation) ≡ take (applying (take k rs) (apply v r.operation)) rs
        → cond a (r ∷ sendable k rs (apply v r.operation)) [] ≡ take (cond a (suc (applying (take k rs) (apply v r.operation))) 0) (r ∷ rs)
    go true e = rw e
    go false e = refl

pub sendable-count : (k : ℕ) (rs : List Record) (v : Volume) → length (sendable k rs v) ≡ applying (take k rs) v
unfolding sendable applying
sendable-count zero rs v = refl
sendable-count (suc k) [] v = refl
sendable-count (suc k) (r ∷ rs) v = go (applies v r.operation) (sendable-count k rs (apply v r.operation))
  where
    go : (a : Bool) → length (sendable k rs (apply v r.operation)) ≡ applying (take k rs) (apply v r.operation)
        → length (cond a (r ∷ sendable k rs (apply v r.operation)) []) ≡ cond a (suc (applying (take k rs) (apply v r.operation))) 0
    go true e = ap suc e
    go false e = refl

-- Of no operations none is sent.
pub sendable-none : (k : ℕ) (v : Volume) → sendable k [] v ≡ []
unfolding sendable
sendable-none zero v = refl
sendable-none (suc k) v = refl

module _ (n b : ℕ) (s : List ℕ) (f : Formed n b s) where
  -- the volume that the server holds
  abbrev v : Volume
  v = read_volume n b s

  -- The bytes of another well-formed volume are formed too, and tell of it.
  pub stored-formed : (u : Volume) → well_formed n b u ≡ true → Formed n b (encode_volume b u) × (read_volume n b (encode_volume b u) ≡ u)
  stored-formed u w =
      let l = f.lent in
      (encoded-formed n b u l.fewest l.most l.least l.blocks w, read-good n b u l.most l.blocks w)

  module _ (r : Record) (g : fits n b r ≡ true) (h : valid r ≡ true) where
    good-applied : applies v r.operation ≡ true → well_formed n b (apply v r.operation) ≡ true
    good-applied = apply-good n b v r f.form h g

    -- An operation that was applied leaves the server formed, and the server tells of what it left.
    pub applied-formed : applies v r.operation ≡ true → Formed n b (encode_volume b (apply v r.operation))
    applied-formed a = (stored-formed (apply v r.operation) (good-applied a)).0

    pub applied-read : applies v r.operation ≡ true → read_volume n b (encode_volume b (apply v r.operation)) ≡ apply v r.operation
    applied-read a = (stored-formed (apply v r.operation) (good-applied a)).1
