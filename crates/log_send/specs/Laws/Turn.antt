-- The turns of the slots, one after the other: what is sent, what is left in the set, and what can yet be sent.
-- Assumes nothing.
use Rattle.std.specs.Prelude.{ℕ, zero, suc, ◌+◌, ◌-◌, ◌<◌, ◌≡◌, ◌⊎◌, Bool, true, false, cond, get_or, take, drop, set, eqb}
use native.Mathlib.Omega.{arith}
use Rattle.std.proofs.Common.{add-one, sym, ap, ◌∙◌, inr, length-append, get_or-set_other, eqb-true}
use Rattle.std.proofs.Math.Path.{refl}
use Rattle.std.proofs.Math.Logic.{inl}
use mathlib.Core.List.{List, [], ◌∷◌, ◌++◌, append_assoc, append-nil}
use Rattle.std.proofs.lemmas.Bool.{false≢true, eqb-false}
use Rattle.std.proofs.Math.ListN.{length, length-set}
use Rattle.std.proofs.Math.Seq.{drop-length, take-set-le, get_or-set_same}
use Rattle.record.specs.Operation.{Record}
use Rattle.volume_tree.specs.Volume.{Volume}
use Rattle.volume_tree.specs.Stored.{encode_volume, read_volume}
use Rattle.volume_tree.specs.Code.Lent.{Formed}
use Rattle.volume_apply.specs.Apply.{applies, apply}
use Rattle.log_rules.specs.Slot.{Slot, good_slots}
use Rattle.log_rules.proofs.Laws.Geometry.{good-at}
use Rattle.log_rules.proofs.Laws.Needed.{chosen_at}
use Rattle.log_rules.specs.Sends.{applying, apply_all}
use Rattle.log_rules.specs.Code.Flags.{stands, chosen, AllWait}
use Rattle.log_rules.specs.Code.Slots.{slot_at}
use Rattle.log_send.specs.declared.Tally.{Tally}
use Rattle.log_send.specs.Code.Sends.{tally, Turn, passed, went, stopped, Left, SentFound, sendable}
use Rattle.log_send.specs.Laws.Send.{sendable-first, sendable-count, sendable-none, applied-formed, applied-read}

-- the records chosen before a position, and from it on
abbrev pub chosen_to : List ℕ → List Slot → ℕ → List Record
chosen_to fs l i = chosen (take i fs) (take i l)

abbrev pub chosen_from : List ℕ → List Slot → ℕ → List Record
chosen_from fs l i = chosen (drop i fs) (drop i l)

-- one slot more before a position: its record too, if it is in the set
chosen-next : (fs : List ℕ) (l : List Slot) (i : ℕ) → i < length fs → i < length l
    → chosen_to fs l (suc i) ≡ cond (stands fs i) (chosen_to fs l i ++ ((slot_at l i).recorded ∷ [])) (chosen_to fs l i)
unfolding chosen
chosen-next [] l i g h = absurd (omega arith)
chosen-next (f ∷ fs) [] i g h = absurd (omega arith)
chosen-next (f ∷ fs) (s ∷ l) zero g h = refl
chosen-next (f ∷ fs) (s ∷ l) (suc i) g h = rw (chosen-next fs l i (omega arith) (omega arith)) (go (eqb f 1) (stands fs i))
  where
    go : (p q : Bool) → cond p (s.recorded ∷ cond q (chosen_to fs l i ++ ((slot_at l i).recorded ∷ [])) (chosen_to fs l i)) (cond q (chosen_to fs l i ++ ((slot_at l i).recorded ∷ [])) (chosen_to fs l i))
        ≡ cond q (cond p (s.recorded ∷ chosen_to fs l i) (chosen_to fs l i) ++ ((slot_at l i).recorded ∷ [])) (cond p (s.recorded ∷ chosen_to fs l i) (chosen_to fs l i))
    go true true = refl
    go true false = refl
    go false true = refl
    go false false = refl

-- before the end all are chosen, and none from there on
chosen-all : (fs : List ℕ) (l : List Slot) → chosen_to fs l (length l) ≡ chosen fs l
unfolding chosen
chosen-all [] [] = refl
chosen-all [] (s ∷ l) = refl
chosen-all (f ∷ fs) [] = refl
chosen-all (f ∷ fs) (s ∷ l) = rw (chosen-all fs l)

chosen_none : (fs : List ℕ) → chosen fs [] ≡ []
unfolding chosen
chosen_none [] = refl
chosen_none (f ∷ fs) = refl

-- a slot that is taken out of a set: what is left waits too
waits-set : (fs : List ℕ) (l : List Slot) (i : ℕ) → AllWait fs l → AllWait (set fs i 0) l
waits-set [] l i h = h
waits-set (f ∷ fs) [] zero h = h
waits-set (f ∷ fs) [] (suc i) h = h
waits-set (f ∷ fs) (s ∷ l) zero h = (λ e. absurd (false≢true e), h.1)
waits-set (f ∷ fs) (s ∷ l) (suc i) h = (h.0, waits-set fs l i h.1)

-- one operation more behind others
applied-more : (rs : List Record) (r : Record) (v : Volume) → apply_all (rs ++ (r ∷ [])) v ≡ apply (apply_all rs v) r.operation
unfolding apply_all
applied-more [] r v = refl
applied-more (q ∷ rs) r v = applied-more rs r (apply v q.operation)

-- one that applies is sent first, if one can yet be sent; else nothing is
sendable-one : (k : ℕ) (r : Record) (rs : List Record) (v : Volume) → applies v r.operation ≡ true
    → sendable (suc k) (r ∷ rs) v ≡ r ∷ sendable k rs (apply v r.operation)
unfolding sendable
sendable-one k r rs v e = rw e

sendable-stops : (k : ℕ) (r : Record) (rs : List Record) (v : Volume) → (0 < k → applies v r.operation ≡ false) → sendable k (r ∷ rs) v ≡ []
unfolding sendable
sendable-stops zero r rs v e = refl
sendable-stops (suc k) r rs v e = rw (e (omega arith))

-- what is known before the turn of a slot: the server has what was sent, which is what the set holds before the slot; with what
-- can yet be sent from there on it is all that can be sent
pub record Sending (n b k : ℕ) (l : List Slot) (v : Volume) (found : List ℕ) (i : ℕ) (s kept : List ℕ) (t : Tally) : Type 0 where
  pub formed : Formed n b s
  pub server : read_volume n b s ≡ apply_all (chosen_to kept l i) v
  pub count : t.sent ≡ length (chosen_to kept l i)
  pub all : chosen_to kept l i ++ sendable (t.most - t.sent) (chosen_from kept l i) (read_volume n b s) ≡ sendable k (chosen found l) v
  pub waits : AllWait found l → AllWait kept l
  pub others : Left found l kept

-- One more slot taken out of the set.
left-set : (found : List ℕ) (l : List Slot) (kept : List ℕ) → Left found l kept → (i : ℕ) → i < length l → i < length kept → stands kept i ≡ true → Left found l (set kept i 0)
left-set found l kept h i k g on j = go (eqb j i) refl
  where
    here : (get_or kept i 0 ≡ get_or found i 0) ⊎ ((i < length l) × (stands found i ≡ true) × (get_or kept i 0 ≡ 0)) → stands found i ≡ true
    here (inl e) = ap (λ (x : ℕ). eqb x 1) (sym e) ∙ on
    here (inr z) = z.1

    go : (t : Bool) → eqb j i ≡ t → (get_or (set kept i 0) j 0 ≡ get_or found j 0) ⊎ ((j < length l) × (stands found j ≡ true) × (get_or (set kept i 0) j 0 ≡ 0))
    go true e = let z : j ≡ i = eqb-true j i e in rw z (inr (k, here (h i), get_or-set_same kept i 0 0 g))
    go false e = rw (get_or-set_other kept i j 0 0 (eqb-false j i e)) (h j)

module _ (n b k : ℕ) (l : List Slot) (v : Volume) (found : List ℕ) where
  -- Before the first turn nothing was sent.
  pub sending-first : (s : List ℕ) → Formed n b s → read_volume n b s ≡ v → Sending n b k l v found 0 s found (tally 0 k)
  unfolding chosen apply_all
  sending-first s f e = let m : k - 0 ≡ k = omega arith in record { formed = f; server = e; count = refl; all = rw m (ap (sendable k (chosen found l)) e); waits = λ h. h; others = λ j. inl refl }

  -- After the last turn all was sent that can be.
  pub sending-last : (i : ℕ) → i ≡ length l → (s kept : List ℕ) (t : Tally) → Sending n b k l v found i s kept t → SentFound b k l v found s kept t.sent
  sending-last i e s kept t x =
      let c : chosen_to kept l i ≡ chosen kept l = rw e (chosen-all kept l) in
      let d : chosen_from kept l i ≡ [] = rw (e, drop-length l) (chosen_none (drop (length l) kept)) in
      let o : sendable (t.most - t.sent) (chosen_from kept l i) (read_volume n b s) ≡ [] = rw d (sendable-none (t.most - t.sent) (read_volume n b s)) in
      let a : chosen_to kept l i ≡ sendable k (chosen found l) v = sym (append-nil (chosen_to kept l i)) ∙ ap (λ (z : List Record). chosen_to kept l i ++ z) (sym o) ∙ x.all in
      let u : t.sent ≡ applying (take k (chosen found l)) v = x.count ∙ ap length a ∙ sendable-count k (chosen found l) v in
      let q : chosen_to kept l i ≡ take t.sent (chosen found l) = a ∙ sendable-first k (chosen found l) v ∙ ap (λ (j : ℕ). take j (chosen found l)) (sym u) in
      record {
        count = u;
        server = sym x.formed.stored ∙ ap (encode_volume b) (x.server ∙ ap (λ (rs : List Record). apply_all rs v) q);
        first = sym c ∙ q;
        waits = x.waits;
        others = x.others;
      }

  module _ (good : good_slots n b l ≡ true) (i : ℕ) (s kept : List ℕ) (t : Tally) (x : Sending n b k l v found i s kept t) (h : i < length l) (g : i < length kept) where
    -- the record of the slot, and the volume that the server holds before its turn
    abbrev r : Record
    r = (slot_at l i).recorded

    abbrev w : Volume
    w = read_volume n b s

    -- the slot is not in the set
    after-passed : stands kept i ≡ false → Sending n b k l v found (i + 1) s kept t
    after-passed off =
        let c : chosen_to kept l (i + 1) ≡ chosen_to kept l i = rw (add-one, chosen-next kept l i g h, off) in
        let d : chosen_from kept l i ≡ chosen_from kept l (i + 1) = chosen_at kept l i g h ∙ rw off in
        record { formed = x.formed; server = rw c x.server; count = rw c x.count; all = rw (c, ← d) x.all; waits = x.waits; others = x.others }

    -- it was sent
    after-went : stands kept i ≡ true → t.sent < t.most → applies w r.operation ≡ true
        → Sending n b k l v found (i + 1) (encode_volume b (apply w r.operation)) kept (tally (t.sent + 1) t.most)
    after-went on lt e =
        let z = good-at n b l i good h in
        let a = applied-read n b s x.formed r z.fit z.sound e in
        let c : chosen_to kept l (i + 1) ≡ chosen_to kept l i ++ (r ∷ []) = rw (add-one, chosen-next kept l i g h, on) in
        let d : chosen_from kept l i ≡ r ∷ chosen_from kept l (i + 1) = chosen_at kept l i g h ∙ rw on in
        let m : t.most - t.sent ≡ suc (t.most - (t.sent + 1)) = omega arith in
        let o : sendable (t.most - t.sent) (chosen_from kept l i) w ≡ r ∷ sendable (t.most - (t.sent + 1)) (chosen_from kept l (i + 1)) (apply w r.operation) =
        rw (m, d) (sendable-one (t.most - (t.sent + 1)) r (chosen_from kept l (i + 1)) w e) in
        record {
          formed = applied-formed n b s x.formed r z.fit z.sound e;
          server = a ∙ ap (λ (y : Volume). apply y r.operation) x.server ∙ sym (ap (λ (rs : List Record). apply_all rs v) c ∙ applied-more (chosen_to kept l i) r v);
          count = let u = x.count in rw (c, length-append) (omega arith);
          all = rw (c, a, append_assoc) (ap (λ (y : List Record). chosen_to kept l i ++ y) (sym o) ∙ x.all);
          waits = x.waits;
          others = x.others;
        }

    -- it was not sent, and no later one will be
    after-stopped : stands kept i ≡ true → (t.sent < t.most → applies w r.operation ≡ false)
        → Sending n b k l v found (i + 1) s (set kept i 0) (tally t.sent t.sent)
    unfolding sendable
    after-stopped on e =
        let j : i < length (set kept i 0) = rw length-set g in
        let c : chosen_to (set kept i 0) l (i + 1) ≡ chosen_to kept l i = rw (add-one, chosen-next (set kept i 0) l i j h, get_or-set_same kept i 0 0 g, take-set-le i kept i 0 (omega arith)) in
        let d : chosen_from kept l i ≡ r ∷ chosen_from kept l (i + 1) = chosen_at kept l i g h ∙ rw on in
        let o : sendable (t.most - t.sent) (chosen_from kept l i) w ≡ [] = rw d (sendable-stops (t.most - t.sent) r (chosen_from kept l (i + 1)) w (λ y. e (omega arith))) in
        let m : t.sent - t.sent ≡ 0 = omega arith in
        record {
          formed = x.formed;
          server = rw c x.server;
          count = rw c x.count;
          all = rw (c, m) (ap (λ (y : List Record). chosen_to kept l i ++ y) (sym o) ∙ x.all);
          waits = λ y. waits-set kept l i (x.waits y);
          others = left-set found l kept x.others i h g on;
        }

    -- Each turn goes on to the next slot.
    pub sending-next : (s' kept' : List ℕ) (t' : Tally) → Turn b w r.operation i kept t s' kept' t' → Sending n b k l v found (i + 1) s' kept' t'
    sending-next s' kept' t' (passed off es ek et) = rw (es, x.formed.stored, ek, et) (after-passed off)
    sending-next s' kept' t' (went on lt e es ek et) = rw (es, ek, et) (after-went on lt e)
    sending-next s' kept' t' (stopped on e es ek et) = rw (es, x.formed.stored, ek, et) (after-stopped on e)
