-- The log's bits are what the history of calls says: each waiting slot's dependents, and the marks; and that each effect keeps it so.
use Rattle.std.specs.Prelude.{ℕ, ◌+◌, ◌<◌, ◌≡◌, ◌↔◌, ◌⊎◌, Bool, true, false, not, ◌&&◌, ◌||◌, cond, length, eqb}
use Rattle.std.proofs.Common.{arith, ◌∙◌, inr, eqb-true, eq-eqb}
use Rattle.std.proofs.Math.Path.{refl, sym, ap, subst}
use Rattle.std.proofs.Math.Logic.{inl, ⊎_elim}
use mathlib.Core.List.{List, [], ◌∷◌, ◌++◌, map, Memᴰ}
use Rattle.std.proofs.Math.Bool.{and-eq-true_iff}
use Rattle.std.specs.Prelude.{Some}
use Rattle.std.proofs.lemmas.Bool.{eqb-false}
use Rattle.buffer.specs.Laws.Test.{or_cases, or_left, or_right}
use Rattle.record.specs.Operation.{Operation, Record}
use Rattle.log_rules.specs.Programs.{holds, with}
use Rattle.log_rules.proofs.Laws.Program.{holds-with, holds-none}
use Rattle.log_rules.specs.Slot.{Slot, Log, sequence_of, is_waiting as slot_waits}
use Rattle.log_rules.specs.Order.{any}
use Rattle.log_rules.proofs.Laws.Order.{Rising, any-in, in-any}
use Rattle.log_rules.specs.Change
use Rattle.log_rules.specs.Change.{waiting_of, waiting_at, waiting_slot, is_sequence, is_loss_of}
use Rattle.log_rules.proofs.Laws.Change.{discard-waiting, depends_on, discard-marks, renewed-marks, waiting-in, in-waiting, removed-in, at-waiting}
use Rattle.log_rules.proofs.Laws.Chain.{Chain, NotedFrom, noted-slot}
use Rattle.log_rules.proofs.Laws.Partition.{picked}
use Rattle.session.specs.Effect.{note, issue, send, discard, take, renew}
use Rattle.register.specs.Register.{Register, Fate, lost, Acknowledged, Touch, Renewal, is_waiting, fated, recorded_of}
use Rattle.register.specs.Feed.{enter, sending, losing, acknowledged}
use Rattle.register.proofs.Laws.Happen.{happen}
use Rattle.register.specs.History.{Reaches, Depends, issuer, caller, Marked}
use Rattle.register.proofs.Laws.Fate.{Among, no_both, send_by, send-record, send-issued, send-waiting, send-fate, lose-by, lose-record, lose-issued}
use Rattle.register.proofs.Laws.Invariant.{Timed, NumberedFrom}
use Rattle.register.proofs.Laws.Pick.{map-in}
use Rattle.register.proofs.Laws.Send.{there-picked, rising-unique}
use Rattle.register.proofs.Laws.Operation.{numbers-rise, numbers-below, record-in, waits-of}
use Rattle.register.proofs.Laws.Reach.{reaches-chain, chain-reaches, not-waiting, Newest, Renamed, Recalled, Called, Discards, newest-none, depends-to, depends-called, depends-from, marked-to, marked_from}

-- a waiting slot holds the bits of just those programs that depend on its operation, and the marks those of just the marked programs
pub record Depended (r : Register) (l : Log) : Type 0 where
  pub dependents :
      (s : Slot) (a : Acknowledged) → Memᴰ s l.slots → slot_waits s ≡ true → Among a r.operations → is_waiting a ≡ true → a.recorded ≡ s.recorded → (p : ℕ) → p < 32
      → (holds s.dependents p ≡ true) ↔ Depends r p a
  pub marks : (p : ℕ) → p < 32 → (holds l.head.marks p ≡ true) ↔ Marked r p

pub mem-end : {A : Type 0} (l : List A) (a : A) → Memᴰ a (l ++ (a ∷ []))
mem-end l a = mathlib.Core.List.Memᴰ.append_right l (mathlib.Core.List.Memᴰ.head refl)

mem-by : {A : Type 0} {l k : List A} → l ≡ k → {a : A} → Memᴰ a l → Memᴰ a k
mem-by e {a} m = subst (λ l. Memᴰ a l) e m

-- the same operations, and perhaps a longer history
same-renamed : (r s : Register) → s.operations ≡ r.operations → ((t : Touch) → Memᴰ t r.touches → Memᴰ t s.touches)
    → ((t : Touch) → Memᴰ t s.touches → Memᴰ t r.touches ⊎ (t.time ≡ r.happened)) → ((n : Renewal) → Memᴰ n r.renewals → Memᴰ n s.renewals) → Renamed r s (λ a. a)
same-renamed r s so st sc sr =
    record {
      to = λ a m. mem-by (sym so) m;
      from = λ b m. inl (b, mem-by so m, refl);
      recorded = λ a. refl;
      issued = λ a. refl;
      still = λ a u m f. f;
      newly = λ a u f. inl f;
      touches = st;
      calls = sc;
      renewals = sr;
    }

-- one more call with its operands
pub note-renamed : (r : Register) (p : ℕ) (ops : List ℕ) → Renamed r (enter p ops r) (λ a. a)
note-renamed r p ops =
    let t : Touch = record { program = p; touched = ops; time = r.happened } in
    same-renamed r (enter p ops r) refl (λ u m. mathlib.Core.List.Memᴰ.append_left (t ∷ []) m)
    (λ u m. ⊎_elim (λ (k : Memᴰ u r.touches). inl k) (λ (k : Memᴰ u (t ∷ [])). inr (ap (λ (v : Touch). v.time) (mathlib.Core.List.Memᴰ.eq_of_singleton k))) (mathlib.Core.List.Memᴰ.append_cases r.touches m)) (λ z m. m)

module _ (r : Register) (timed : Timed r.operations r.happened) (known : Recalled r r.happened) (l : Log) (d : Depended r l) where
  module _ (s : Register) (h : Acknowledged → Acknowledged) (n : Renamed r s h) where
    -- the marks are the same where nobody is lost now and the program does not renew
    marks-kept : (p : ℕ) → p < 32 → ((z : Renewal) → Memᴰ z s.renewals → z.program ≡ p → Memᴰ z r.renewals)
        → ((a : Acknowledged) → is_waiting a ≡ true → (h a).fate ≡ lost r.happened → ⊥) → (holds l.head.marks p ≡ true) ↔ Marked s p
    marks-kept p lt old none =
        let e = d.marks p lt in (
          λ y. marked-to r s h timed known n p old (e.0 y),
          λ y. ⊎_elim (λ (m : Marked r p). e.1 m)
              (λ (w : Discards r s h p). absurd (none w.on w.waited w.gone))
              (marked_from r s h timed known n p y),
        )

    -- so are a slot's dependents, where no call is made now
    slot_kept : ((t : Touch) → Memᴰ t s.touches → Memᴰ t r.touches) → (x : Slot) (a : Acknowledged) → Memᴰ x l.slots → slot_waits x ≡ true → Among a r.operations → is_waiting a ≡ true
        → a.recorded ≡ x.recorded → (p : ℕ) → p < 32 → (holds x.dependents p ≡ true) ↔ Depends s p (h a)
    slot_kept quiet x a mx wx ma wa is p lt =
        let e = d.dependents x a mx wx ma wa is p lt in (
          λ y. depends-to r s h timed known n p a ma (e.0 y),
          λ y. ⊎_elim (λ (z : Depends r p a). e.1 z) (λ (c : Called r s p a). let v = known.touches c.call (quiet c.call c.among) in let w = c.now in absurd (omega arith))
              (depends-from r s h timed known n p a ma y),
        )

  module _ (same : waiting_of l.slots ≡ map recorded_of (picked is_waiting r.operations)) where
    -- an accepted call brings the dependence of its program
    pub note-depended : Rising sequence_of l.slots → (p : ℕ) (ops : List ℕ) → Depended (happen (note p ops) r) (Change.note p ops l)
    unfolding happen
    note-depended rise p ops =
        record {
          dependents = λ x a mx wx ma wa is q lt. slot x a wx ma wa is q lt (noted-slot p ops l.slots rise x mx);
          marks = λ q lt. marks-kept s (λ a. a) n q lt (λ z mz e. mz) (λ a w f. not-waiting a r.happened w f);
        }
      where
        t : Touch
        t = record { program = p; touched = ops; time = r.happened }

        s : Register
        s = happen (note p ops) r

        n : Renamed r s (λ a. a)
        n = note-renamed r p ops

        the_call : (q : ℕ) (a : Acknowledged) → Called r s q a → (p ≡ q) × Reaches r a t
        the_call q a c =
            ⊎_elim (λ (k : Memᴰ c.call r.touches). let v = known.touches c.call k in let w = c.now in absurd (omega arith))
            (λ (k : Memᴰ c.call (t ∷ [])). let z = mathlib.Core.List.Memᴰ.eq_of_singleton k in (ap (λ (v : Touch). v.program) (sym z) ∙ c.own, subst (Reaches r a) z c.reaches))
            (mathlib.Core.List.Memᴰ.append_cases r.touches c.among)

        slot : (x : Slot) (a : Acknowledged) → slot_waits x ≡ true → Among a r.operations → is_waiting a ≡ true → a.recorded ≡ x.recorded → (q : ℕ) → q < 32 → NotedFrom p ops l.slots x
            → (holds x.dependents q ≡ true) ↔ Depends s q a
        slot x a wx ma wa is q lt f =
            let w = sym f.state ∙ wx in
            let own : a.recorded ≡ f.was.recorded = is ∙ f.recorded in
            let e = d.dependents f.was a f.among w ma wa own q lt in
            let b = f.bits w q in (
              λ y. ⊎_elim (λ (z : holds f.was.dependents q ≡ true). depends-to r s (λ a. a) timed known n q a ma (e.0 z))
                  (λ (z : (p ≡ q) × Chain ops (waiting_of l.slots) f.was.recorded).
                  let g = chain-reaches r timed t refl (subst (λ (k : List Record). Chain ops k f.was.recorded) same z.1) a ma wa own in
                  depends-called r s (λ a. a) timed known n q a ma (record { call = t; among = mem-end r.touches t; now = refl; own = z.0; reaches = g }))
                  (b.0 y),
              λ y. b.1
                  (⊎_elim (λ (z : Depends r q a). inl (e.1 z))
                  (λ (c : Called r s q a).
                  let z = the_call q a c in
                  inr (z.0, subst (λ (k : Record). Chain ops (waiting_of l.slots) k) own (subst (λ (k : List Record). Chain ops k a.recorded) (sym same) (reaches-chain r timed t refl a ma wa z.1))))
                  (depends-from r s (λ a. a) timed known n q a ma y)),
            )

    module _ (numbers : NumberedFrom 1 r.operations) where
      -- one more operation, waiting, on which its issuer alone depends
      pub issue-depended : l.head.next ≡ length r.operations + 1 → (p : ℕ) (o : Operation) → Depended (happen (issue p o) r) (Change.issue p o l)
      unfolding happen Change.issue
      issue-depended number p o =
          record {
            dependents = λ x b mx wx mb wb is q lt.
                ⊎_elim
                (λ (ml : Memᴰ x l.slots).
                ⊎_elim (λ (mo : Among b r.operations). slot_kept s (λ a. a) n (λ t m. m) x b ml wx mo wb is q lt)
                (λ (mn : Among b (a ∷ [])).
                let w = waits-of r.operations x.recorded (mem-by same (in-waiting l.slots ml wx)) in
                let z = ap (λ (k : Record). k.sequence) (w.recorded ∙ sym is ∙ ap recorded_of (mathlib.Core.List.Memᴰ.eq_of_singleton mn)) in
                let v = above w.who w.among in absurd (omega arith))
                (mathlib.Core.List.Memᴰ.append_cases r.operations mb))
                (λ (mn : Memᴰ x (waiting_slot one ∷ [])).
                let ex = mathlib.Core.List.Memᴰ.eq_of_singleton mn in
                ⊎_elim
                (λ (mo : Among b r.operations). let g = ap (λ (k : Record). k.sequence) (is ∙ ap (λ (y : Slot). y.recorded) ex) in let v = above b mo in absurd (omega arith))
                (λ (mb : Among b (a ∷ [])).
                subst (λ (y : Slot). (holds y.dependents q ≡ true) ↔ Depends s q b) (sym ex) (subst (λ (y : Acknowledged). (holds (with 0 p) q ≡ true) ↔ Depends s q y) (sym (mathlib.Core.List.Memᴰ.eq_of_singleton mb)) (fresh q)))
                (mathlib.Core.List.Memᴰ.append_cases r.operations mb))
                (mathlib.Core.List.Memᴰ.append_cases l.slots mx);
            marks = λ q lt. marks-kept s (λ a. a) n q lt (λ z mz e. mz) (λ b w f. not-waiting b r.happened w f);
          }
        where
          a : Acknowledged
          a = acknowledged p o r

          one : Record
          one = record { sequence = l.head.next; program = p; operation = o }

          s : Register
          s = happen (issue p o) r

          above : (b : Acknowledged) → Among b r.operations → b.recorded.sequence < length r.operations + 1
          above b m = let y = numbers-below 1 r.operations numbers b m in omega arith

          newest : Newest s r.happened a
          newest =
              record {
                now = refl;
                waiting = refl;
                last = λ b m. ⊎_elim (λ (k : Among b r.operations). let y = above b k in omega arith)
                    (λ (k : Among b (a ∷ [])). let y = ap (λ (c : Acknowledged). c.recorded.sequence) (mathlib.Core.List.Memᴰ.eq_of_singleton k) in omega arith) (mathlib.Core.List.Memᴰ.append_cases r.operations m);
              }

          n : Renamed r s (λ b. b)
          n =
              record {
                to = λ b m. mathlib.Core.List.Memᴰ.append_left (a ∷ []) m;
                from = λ b m. ⊎_elim (λ (k : Among b r.operations). inl (b, k, refl)) (λ (k : Among b (a ∷ [])). inr (subst (Newest s r.happened) (sym (mathlib.Core.List.Memᴰ.eq_of_singleton k)) newest))
                    (mathlib.Core.List.Memᴰ.append_cases r.operations m);
                recorded = λ b. refl;
                issued = λ b. refl;
                still = λ b u m f. f;
                newly = λ b u f. inl f;
                touches = λ t m. m;
                calls = λ t m. inl m;
                renewals = λ z m. m;
              }

          only : (q : ℕ) → Depends s q a → p ≡ q
          only q (issuer e) = e
          only q (caller {t = u} m e x) = let v = known.touches u m in absurd (newest-none r s (λ b. b) timed known n newest x (omega arith))

          fresh : (q : ℕ) → (holds (with 0 p) q ≡ true) ↔ Depends s q a
          fresh q =
              let e = holds-with 0 p q in (
                λ y. ⊎_elim (λ (z : eqb p q ≡ true). issuer (eqb-true p q z)) (λ (z : holds 0 q ≡ true). no_both (holds 0 q) z (holds-none q)) (or_cases (eqb p q) (holds 0 q) (sym e ∙ y)),
                λ y. e ∙ or_left (eqb p q) (holds 0 q) (eq-eqb p q (only q y)),
              )

      -- a waiting operation is sent: nothing that the history tells depends on it
      pub send-depended : (q : ℕ) (z : Record) → waiting_at q l ≡ Some z → Depended (happen (send q) r) (Change.sent z.sequence l)
      unfolding happen
      send-depended q z found =
          record {
            dependents = λ x b mx wx mb wb is p lt.
                let f = map-in recorded_of (sending q) r.operations b mb in
                let wa = ((and-eq-true_iff (is_waiting f.0) (not (eqb f.0.recorded.sequence q))).0 (sym (send-waiting q f.0) ∙ ap is_waiting (sym f.2) ∙ wb)).0 in
                subst (λ (y : Acknowledged). (holds x.dependents p ≡ true) ↔ Depends s p y) (sym f.2)
                (slot_kept s (sending q) n (λ t m. m) x f.0 (removed-in (is_sequence z.sequence) l.slots mx) wx f.1 wa (sym (send-record q f.0) ∙ ap recorded_of (sym f.2) ∙ is) p lt);
            marks = λ p lt. marks-kept s (sending q) n p lt (λ y my e. my) (λ a w f. not-waiting a r.happened w (send-fate q a r.happened f));
          }
        where
          s : Register
          s = happen (send q) r

          own : (a : Acknowledged) → Among a r.operations → eqb a.recorded.sequence q ≡ true → is_waiting a ≡ true
          own a ma e =
              let at = at-waiting q l z found in
              let w = waits-of r.operations z (mem-by same at.0) in
              let is : a ≡ w.who =
              rising-unique recorded_of r.operations (numbers-rise 1 r.operations numbers) a w.who ma w.among (eqb-true a.recorded.sequence q e ∙ sym (ap (λ (k : Record). k.sequence) w.recorded ∙ at.1)) in
              ap is_waiting is ∙ w.waiting

          still : (a : Acknowledged) (u : ℕ) → Among a r.operations → a.fate ≡ lost u → (sending q a).fate ≡ lost u
          still a u ma f = go (eqb a.recorded.sequence q) refl
            where
              go : (b : Bool) → eqb a.recorded.sequence q ≡ b → (sending q a).fate ≡ lost u
              go true e = not-waiting a u (own a ma e) f
              go false e = ap (λ (c : Acknowledged). c.fate) (send_by q a false e) ∙ f

          n : Renamed r s (sending q)
          n =
              record {
                to = λ a m. mathlib.Core.List.Memᴰ.map (sending q) m;
                from = λ b m. inl (map-in recorded_of (sending q) r.operations b m);
                recorded = send-record q;
                issued = send-issued q;
                still = still;
                newly = λ a u f. inl (send-fate q a u f);
                touches = λ t m. m;
                calls = λ t m. inl m;
                renewals = λ y m. m;
              }

    -- a cut marks the dependents of all that waited
    pub discard-depended : Depended (happen discard r) (Change.discard l)
    unfolding happen
    discard-depended =
        record {
          dependents = λ x b mx wx mb wb is p lt. absurd (mathlib.Core.List.Memᴰ.not-nil (mem-by (discard-waiting l) (in-waiting (Change.discard l).slots mx wx)));
          marks = λ p lt.
              let e = discard-marks l p lt in (
                λ y. ⊎_elim (λ (z : holds l.head.marks p ≡ true). marked-to r s (losing r.happened) timed known n p (λ k m q. m) ((d.marks p lt).0 z))
                    (λ (z : any (depends_on p) l.slots ≡ true). marked-new p lt (any-in (depends_on p) l.slots z))
                    (or_cases (holds l.head.marks p) (any (depends_on p) l.slots) (sym e ∙ y)),
                λ y. e ∙ ⊎_elim (λ (m : Marked r p). or_left (holds l.head.marks p) (any (depends_on p) l.slots) ((d.marks p lt).1 m)) (bit p lt)
                    (marked_from r s (losing r.happened) timed known n p y),
              );
        }
      where
        s : Register
        s = happen discard r

        fate-by : (a : Acknowledged) (b : Bool) → is_waiting a ≡ b → (losing r.happened a).fate ≡ (cond b (fated (lost r.happened) a) a).fate
        fate-by a b e = ap (λ (c : Acknowledged). c.fate) (lose-by r.happened a b e)

        newly : (a : Acknowledged) (u : ℕ) → (losing r.happened a).fate ≡ lost u → (a.fate ≡ lost u) ⊎ ((is_waiting a ≡ true) × (u ≡ r.happened))
        newly a u f = go (is_waiting a) refl
          where
            go : (b : Bool) → is_waiting a ≡ b → (a.fate ≡ lost u) ⊎ ((is_waiting a ≡ true) × (u ≡ r.happened))
            go true e = let z : lost r.happened ≡ lost u = sym (fate-by a true e) ∙ f in inr (e, cc)
            go false e = inl (sym (fate-by a false e) ∙ f)

        n : Renamed r s (losing r.happened)
        n =
            record {
              to = λ a m. mathlib.Core.List.Memᴰ.map (losing r.happened) m;
              from = λ b m. inl (map-in recorded_of (losing r.happened) r.operations b m);
              recorded = lose-record r.happened;
              issued = lose-issued r.happened;
              still = λ a u m f. fate-by a false (ap (λ (k : Fate). is_waiting (fated k a)) f) ∙ f;
              newly = newly;
              touches = λ t m. m;
              calls = λ t m. inl m;
              renewals = λ z m. m;
            }

        marked-new : (p : ℕ) → p < 32 → ((x : Slot) × Memᴰ x l.slots × (depends_on p x ≡ true)) → Marked s p
        marked-new p lt y =
            let x = y.0 in
            let both = (and-eq-true_iff (slot_waits x) (holds x.dependents p)).0 y.2 in
            let w = waits-of r.operations x.recorded (mem-by same (in-waiting l.slots y.1 both.0)) in
            record {
              on = losing r.happened w.who;
              acknowledged = n.to w.who w.among;
              time = r.happened;
              discarded = fate-by w.who true w.waiting;
              renewed = λ z mz e. known.renewals z mz;
              depended = (slot_kept s (losing r.happened) n (λ t m. m) x w.who y.1 both.0 w.among w.waiting w.recorded p lt).0 both.1;
            }

        bit : (p : ℕ) → p < 32 → Discards r s (losing r.happened) p
            → (holds l.head.marks p || any (depends_on p) l.slots) ≡ true
        bit p lt y =
            let a = y.on in
            let u = waiting-in l.slots (mem-by (sym same) (record-in (picked is_waiting r.operations) a (there-picked recorded_of is_waiting r.operations a y.among y.waited))) in
            let b = (slot_kept s (losing r.happened) n (λ t m. m) u.0 a u.1 u.2 y.among y.waited u.3 p lt).1 y.depends in
            or_right (holds l.head.marks p) (any (depends_on p) l.slots) (in-any (depends_on p) l.slots u.1 ((and-eq-true_iff (slot_waits u.0) (holds u.0.dependents p)).1 (u.2, b)))

  -- a loss is fetched: its slot did not wait
  pub take-depended : (p : ℕ) → Depended (happen (take p) r) (Change.taken p l)
  unfolding happen
  take-depended p =
      let s = happen (take p) r in
      let n : Renamed r s (λ a. a) = same-renamed r s refl (λ t m. m) (λ t m. inl m) (λ z m. m) in
      record {
        dependents = λ x a mx wx ma wa is q lt. slot_kept s (λ a. a) n (λ t m. m) x a (removed-in (is_loss_of p) l.slots mx) wx ma wa is q lt;
        marks = λ q lt. marks-kept s (λ a. a) n q lt (λ z mz e. mz) (λ a w f. not-waiting a r.happened w f);
      }

  -- a renewal clears the mark of its program
  pub renew-depended : (p : ℕ) → Depended (happen (renew p) r) (Change.renewed p l)
  unfolding happen
  renew-depended p =
      record {
        dependents = λ x a mx wx ma wa is q lt. slot_kept s (λ a. a) n (λ t m. m) x a mx wx ma wa is q lt;
        marks = λ q lt. go q lt (eqb p q) refl;
      }
    where
      s : Register
      s = happen (renew p) r

      own : Renewal
      own = record { program = p; time = r.happened }

      n : Renamed r s (λ a. a)
      n = same-renamed r s refl (λ t m. m) (λ t m. inl m) (λ z m. mathlib.Core.List.Memᴰ.append_left (own ∷ []) m)

      go : (q : ℕ) → q < 32 → (b : Bool) → eqb p q ≡ b → (holds (Change.renewed p l).head.marks q ≡ true) ↔ Marked s q
      go q lt true e = (
        λ y. no_both (holds (Change.renewed p l).head.marks q) y (renewed-marks p q l ∙ ap (λ (b : Bool). not b && holds l.head.marks q) e),
        λ m.
            let x = m.renewed own (mem-end r.renewals own) (eqb-true p q e) in
            let y = timed.past m.on m.time m.acknowledged m.discarded in absurd (omega arith),
      )
      go q lt false e =
          let on : holds (Change.renewed p l).head.marks q ≡ holds l.head.marks q = renewed-marks p q l ∙ ap (λ (b : Bool). not b && holds l.head.marks q) e in
          let k =
          marks-kept s (λ a. a) n q lt
          (λ z mz i. ⊎_elim (λ (x : Memᴰ z r.renewals). x)
          (λ (x : Memᴰ z (own ∷ [])). absurd (eqb-false p q e (ap (λ (v : Renewal). v.program) (sym (mathlib.Core.List.Memᴰ.eq_of_singleton x)) ∙ i))) (mathlib.Core.List.Memᴰ.append_cases r.renewals mz))
          (λ a w f. not-waiting a r.happened w f) in
          ((λ y. k.0 (sym on ∙ y)), λ y. on ∙ k.1 y)
