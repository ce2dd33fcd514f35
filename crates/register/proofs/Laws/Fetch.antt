-- What programs have taken of their losses, over each effect.
use Rattle.std.specs.Prelude.{ℕ, ◌≡◌, Bool, true, false, not, ◌&&◌, ◌||◌, eqb}
use Rattle.std.proofs.Math.Path.{refl, ap}
use Rattle.std.proofs.Common.{sym, ◌∙◌, subst, ⊎_elim, eqb-true}
use mathlib.Core.List.Memᴰ
use mathlib.Core.List.{List, [], ◌∷◌, ◌++◌, map, Memᴰ, append-nil, append_assoc}
use Rattle.std.proofs.Math.Bool.{cond, and-eq-true_iff}
use Rattle.std.specs.Prelude.{Option, Some}
use Rattle.std.proofs.lemmas.Bool.{eqb-false}
use Rattle.record.specs.Operation.{Record}
use Rattle.log_rules.specs.Slot.{Slot}
use Rattle.log_rules.proofs.Laws.Slot.{formed-inv}
use Rattle.log_rules.specs.Change
use Rattle.log_rules.specs.Change.{waiting_of, is_sequence, removed, discarded, is_loss_of, earliest, losses_of}
use Rattle.log_rules.proofs.Laws.Change.{Ordered, rising-inv, at-waiting}
use Rattle.log_rules.proofs.Laws.Order.{Rising}
use Rattle.log_rules.proofs.Laws.Partition.{picked}
use Rattle.log_rules.proofs.Laws.Loss.{is_of, noted-lost, issue-lost, sent-lost, taken_own, taken-other, discard-lost}
use Rattle.session.specs.Call.{Geometry}
use Rattle.session.specs.Model.{Model}
use Rattle.session.specs.Effect.{Effect, note, issue, send, discard, take, renew, sent_found, perform, perform_all}
use Rattle.session.proofs.Laws.Possible.{Possible, AllPossible}
use Rattle.register.specs.Register.{Register, Acknowledged, is_waiting, is_sent, is_lost, chosen, recorded_of}
use Rattle.register.specs.Feed.{acknowledged, sending, losing}
use Rattle.register.proofs.Laws.Happen.{happen, happen_all}
use Rattle.register.specs.Takes.{lost_by}
use Rattle.register.proofs.Laws.Fate.{Among, no_both, waits-not-sent, send-record, send-lost, send-waiting, lose-record, lose-waiting, lose-lost}
use Rattle.register.proofs.Laws.Invariant.{Good}
use Rattle.register.proofs.Laws.Pick.{map-in}
use Rattle.register.proofs.Laws.Send.{rising-unique}
use Rattle.register.proofs.Laws.Operation.{numbers-rise, Waits, waits-of}
use Rattle.register.proofs.Laws.Fetched.{LostFirst, Fetched, one_or_none, fetches, fetched_in}

-- what is chosen of a list whose elements change but for their records
pub chosen-map : (f : Acknowledged → Bool) (h : Acknowledged → Acknowledged) → ((a : Acknowledged) → recorded_of (h a) ≡ recorded_of a) → (l : List Acknowledged) → chosen f (map h l) ≡ chosen (λ a. f (h a)) l
unfolding chosen
chosen-map f h k [] = refl
chosen-map f h k (a ∷ l) = λ i. cond (f (h a)) (k a i ∷ chosen-map f h k l i) (chosen-map f h k l i)

-- tests that agree on a list choose the same
pub chosen-same : (f h : Acknowledged → Bool) (l : List Acknowledged) → ((a : Acknowledged) → Among a l → f a ≡ h a) → chosen f l ≡ chosen h l
unfolding chosen
chosen-same f h [] e = refl
chosen-same f h (a ∷ l) e = λ i. cond (e a (Memᴰ.head refl) i) (a.recorded ∷ chosen-same f h l (λ b m. e b (Memᴰ.tail m)) i) (chosen-same f h l (λ b m. e b (Memᴰ.tail m)) i)

-- one more that does not pass
pub chosen-end : (f : Acknowledged → Bool) (l : List Acknowledged) (a : Acknowledged) → f a ≡ false → chosen f (l ++ (a ∷ [])) ≡ chosen f l
unfolding chosen
chosen-end f [] a e = ap (λ (b : Bool). cond b (a.recorded ∷ []) []) e
chosen-end f (c ∷ l) a e = ap (λ (x : List Record). cond (f c) (c.recorded ∷ x) x) (chosen-end f l a e)

-- who has the number of a waiting operation is that one
pub own-waits : (ops : List Acknowledged) → Rising (λ a. a.recorded.sequence) ops → (q : ℕ) (r : Record) → Waits ops r → r.sequence ≡ q
    → (a : Acknowledged) → Among a ops → eqb a.recorded.sequence q ≡ true → is_waiting a ≡ true
own-waits ops rise q r w s a m e =
    subst (λ (c : Acknowledged). is_waiting c ≡ true)
    (rising-unique recorded_of ops rise w.who a w.among m (ap (λ (z : Record). z.sequence) w.recorded ∙ s ∙ sym (eqb-true _ _ e))) w.waiting

not-lost : (a : Acknowledged) → is_waiting a ≡ true → is_lost a ≡ false
not-lost a e = ap (λ (b : Bool). not (b || is_sent a)) e

send-still : (q : ℕ) (a : Acknowledged) → is_waiting (sending q a) ≡ true → is_waiting a ≡ true
send-still q a e = ((and-eq-true_iff (is_waiting a) (not (eqb a.recorded.sequence q))).0 (sym (send-waiting q a) ∙ e)).0

-- the order of the lost and the waiting ones, over each change
first-send : (q : ℕ) (ops : List Acknowledged) → ((a : Acknowledged) → Among a ops → eqb a.recorded.sequence q ≡ true → is_waiting a ≡ true) → LostFirst ops → LostFirst (map (sending q) ops)
first-send q [] w o = tt
first-send q (a ∷ ops) w o = (
  (λ e b m.
      let x = map-in recorded_of (sending q) ops b m in
      ap is_lost x.2 ∙ send-lost q x.0 (w x.0 (Memᴰ.tail x.1)) ∙ o.0 (send-still q a e) x.0 x.1),
  first-send q ops (λ b m. w b (Memᴰ.tail m)) o.1,
)

first-cut : (t : ℕ) (ops : List Acknowledged) → LostFirst (map (losing t) ops)
first-cut t [] = tt
first-cut t (a ∷ ops) = ((λ e. no_both (is_waiting (losing t a)) e (lose-waiting t a)), first-cut t ops)

first-end : (ops : List Acknowledged) (a : Acknowledged) → is_lost a ≡ false → LostFirst ops → LostFirst (ops ++ (a ∷ []))
first-end [] a e o = ((λ w b m. absurd (Memᴰ.not-nil m)), tt)
first-end (c ∷ ops) a e o =
    ((λ w b m. ⊎_elim (λ (z : Among b ops). o.0 w b z) (λ (z : Among b (a ∷ [])). ap is_lost (Memᴰ.eq_of_singleton z) ∙ e) (Memᴰ.append_cases ops m)), first-end ops a e o.1)

none-lost : (p : ℕ) (l : List Acknowledged) → ((b : Acknowledged) → Among b l → is_lost b ≡ false) → chosen (lost_by p) l ≡ []
unfolding chosen
none-lost p [] h = refl
none-lost p (a ∷ l) h =
    ap (λ (b : Bool). cond (b && eqb a.recorded.program p) (a.recorded ∷ chosen (lost_by p) l) (chosen (lost_by p) l)) (h a (Memᴰ.head refl))
    ∙ none-lost p l (λ b m. h b (Memᴰ.tail m))

-- a cut puts a program's waiting operations behind its lost ones
pub cut-lost : (p t : ℕ) (ops : List Acknowledged) → LostFirst ops → chosen (lost_by p) (map (losing t) ops) ≡ chosen (lost_by p) ops ++ picked (is_of p) (map recorded_of (picked is_waiting ops))
unfolding chosen picked
cut-lost p t [] o = refl
cut-lost p t (a ∷ ops) o = head ∙ go (is_waiting a) (is_sent a) refl refl (cut-lost p t ops o.1)
  where
    head : cond (lost_by p (losing t a)) ((losing t a).recorded ∷ chosen (lost_by p) (map (losing t) ops)) (chosen (lost_by p) (map (losing t) ops))
        ≡ cond (not (is_sent a) && is_of p a.recorded) (a.recorded ∷ chosen (lost_by p) (map (losing t) ops)) (chosen (lost_by p) (map (losing t) ops))
    head = λ i. cond (lose-lost t a i && is_of p (lose-record t a i)) (lose-record t a i ∷ chosen (lost_by p) (map (losing t) ops)) (chosen (lost_by p) (map (losing t) ops))

    go : (w s : Bool) → is_waiting a ≡ w → is_sent a ≡ s → chosen (lost_by p) (map (losing t) ops) ≡ chosen (lost_by p) ops ++ picked (is_of p) (map recorded_of (picked is_waiting ops))
        → cond (not s && is_of p a.recorded) (a.recorded ∷ chosen (lost_by p) (map (losing t) ops)) (chosen (lost_by p) (map (losing t) ops))
        ≡ cond (not (w || s) && is_of p a.recorded) (a.recorded ∷ chosen (lost_by p) ops) (chosen (lost_by p) ops) ++ picked (is_of p) (map recorded_of (cond w (a ∷ picked is_waiting ops) (picked is_waiting ops)))
    go true true w s ih = no_both (is_sent a) s (waits-not-sent a w)
    go true false w s ih =
        let none = none-lost p ops (o.0 w) in
        let more = picked (is_of p) (map recorded_of (picked is_waiting ops)) in
        ap (λ (x : List Record). cond (is_of p a.recorded) (a.recorded ∷ x) x) (ih ∙ ap (λ (x : List Record). x ++ more) none)
        ∙ sym (ap (λ (x : List Record). x ++ cond (is_of p a.recorded) (a.recorded ∷ more) more) none)
    go false true w s ih = ih
    go false false w s ih = both (is_of p a.recorded)
      where
        both : (b : Bool) → cond b (a.recorded ∷ chosen (lost_by p) (map (losing t) ops)) (chosen (lost_by p) (map (losing t) ops))
            ≡ cond b (a.recorded ∷ chosen (lost_by p) ops) (chosen (lost_by p) ops) ++ picked (is_of p) (map recorded_of (picked is_waiting ops))
        both true = ap (λ (x : List Record). a.recorded ∷ x) ih
        both false = ih

module _ (ops : List Acknowledged) (slots : List Slot) (done : ℕ → List Record) (k : Fetched ops slots done) where
  -- a change of the log that keeps the losses: a call is noted, an operation issued or sent, a mark cleared
  pub fetched-log : (more : List Slot) → ((p : ℕ) → losses_of p more ≡ losses_of p slots) → Fetched ops more done
  fetched-log more e = record { order = k.order; losses = λ p. k.losses p ∙ ap (λ (x : List Record). done p ++ x) (sym (e p)) }

  pub fetched-same : (what : ℕ → List Record) → ((p : ℕ) → what p ≡ done p) → Fetched ops slots what
  fetched-same what e = record { order = k.order; losses = λ p. k.losses p ∙ ap (λ (x : List Record). x ++ losses_of p slots) (sym (e p)) }

  -- the send of a number that waiting operations only have
  pub fetched-send : (q : ℕ) → ((a : Acknowledged) → Among a ops → eqb a.recorded.sequence q ≡ true → is_waiting a ≡ true) → Fetched (map (sending q) ops) slots done
  fetched-send q own =
      record {
        order = first-send q ops own k.order;
        losses = λ p.
            chosen-map (lost_by p) (sending q) (send-record q) ops
            ∙ chosen-same (λ a. lost_by p (sending q a)) (lost_by p) ops (λ a m i. send-lost q a (own a m) i && eqb (send-record q a i).program p)
            ∙ k.losses p;
      }

  -- an operation that is issued
  pub fetched-issue : (a : Acknowledged) → is_waiting a ≡ true → Fetched (ops ++ (a ∷ [])) slots done
  fetched-issue a w =
      record {
        order = first-end ops a (not-lost a w) k.order;
        losses = λ p. chosen-end (lost_by p) ops a (ap (λ (b : Bool). b && eqb a.recorded.program p) (not-lost a w)) ∙ k.losses p;
      }

  -- a cut
  pub fetched-cut : (t next : ℕ) → Ordered next slots → waiting_of slots ≡ map recorded_of (picked is_waiting ops) → Fetched (map (losing t) ops) (map discarded slots) done
  fetched-cut t next o w =
      record {
        order = first-cut t ops;
        losses = λ p.
            cut-lost p t ops k.order ∙ (λ i. k.losses p i ++ picked (is_of p) (sym w i)) ∙ append_assoc (done p) (losses_of p slots) (picked (is_of p) (waiting_of slots))
            ∙ ap (λ (x : List Record). done p ++ x) (sym (discard-lost p next slots o));
      }

  -- a take
  pub fetched-take : (p : ℕ) (q : Record) → earliest (is_loss_of p) slots ≡ Some q → Fetched ops (removed (is_loss_of p) slots) (λ n. done n ++ cond (eqb p n) (q ∷ []) [])
  fetched-take p q e = record { order = k.order; losses = λ n. go n (eqb p n) refl }
    where
      go : (n : ℕ) (b : Bool) → eqb p n ≡ b → chosen (lost_by n) ops ≡ (done n ++ cond b (q ∷ []) []) ++ losses_of n (removed (is_loss_of p) slots)
      go n true z =
          k.losses n ∙ ap (λ (x : List Record). done n ++ x) (subst (λ (m : ℕ). losses_of m slots ≡ q ∷ losses_of m (removed (is_loss_of p) slots)) (eqb-true p n z) (taken_own p slots q e))
          ∙ sym (append_assoc (done n) (q ∷ []) (losses_of n (removed (is_loss_of p) slots)))
      go n false z =
          k.losses n ∙ ap (λ (x : List Record). done n ++ x) (sym (taken-other p n (eqb-false p n z) slots))
          ∙ ap (λ (x : List Record). x ++ losses_of n (removed (is_loss_of p) slots)) (sym (append-nil (done n)))

-- what one effect fetches
pub fetched_one : (p : ℕ) (x : Model) (e : Effect) → fetched_in p x (e ∷ []) ≡ fetches p x e
unfolding fetched_in
fetched_one p x e = append-nil (fetches p x e)

module _ (g : Geometry) (r : Register) (x : Model) (k : Good g r x) (done : ℕ → List Record) (f : Fetched r.operations x.log.slots done) where
  abbrev more : Effect → ℕ → List Record
  more e p = done p ++ fetched_in p x (e ∷ [])

  -- an effect that fetches nothing
  none-fetched : (ops : List Acknowledged) (slots : List Slot) (e : Effect) → ((p : ℕ) → fetches p x e ≡ []) → Fetched ops slots done → Fetched ops slots (more e)
  none-fetched ops slots e h d = fetched-same ops slots done d (more e) (λ p. ap (λ (l : List Record). done p ++ l) (fetched_one p x e ∙ h p) ∙ append-nil (done p))

  -- over one effect
  pub effect-fetched : (e : Effect) → Possible g x e → Fetched (happen e r).operations (perform e x).log.slots (λ p. done p ++ fetched_in p x (e ∷ []))
  unfolding happen perform Change.discard
  effect-fetched (note p ops) h =
      none-fetched r.operations (perform (note p ops) x).log.slots (note p ops) (λ q. refl)
      (fetched-log r.operations x.log.slots done f (perform (note p ops) x).log.slots (λ q. noted-lost q p ops x.log.slots))
  effect-fetched (issue p o) h =
      let a = acknowledged p o r in
      let ops = r.operations ++ (a ∷ []) in
      let slots = (Change.issue p o x.log).slots in
      let more = fetched-issue r.operations x.log.slots done f a refl in
      none-fetched ops slots (issue p o) (λ q. refl) (fetched-log ops x.log.slots done more slots (λ q. issue-lost q p o x.log))
  effect-fetched (send q) h =
      let rec = h.0 in
      let ops = map (sending q) r.operations in
      let slots = removed (is_sequence rec.sequence) x.log.slots in
      let at = at-waiting q x.log rec h.1.found in
      let waits = waits-of r.operations rec (subst (λ (l : List Record). Memᴰ rec l) k.kept.waiting at.0) in
      let own = own-waits r.operations (numbers-rise 1 r.operations k.kept.numbers) q rec waits at.1 in
      let gone = fetched-send r.operations x.log.slots done f q own in
      none-fetched ops (perform (send q) x).log.slots (send q) (λ p. refl)
      (subst (λ (y : Model). Fetched ops y.log.slots done) (ap (λ (o : Option Record). sent_found o x) (sym h.1.found))
      (fetched-log ops x.log.slots done gone slots (λ p. sent-lost p rec.sequence x.log.slots)))
  effect-fetched discard h =
      let order = rising-inv x.log.head.next x.log.slots (formed-inv g.objects g.blocks g.capacity x.log k.kept.sound.log).order in
      none-fetched (map (losing r.happened) r.operations) (map discarded x.log.slots) discard (λ q. refl)
      (fetched-cut r.operations x.log.slots done f r.happened x.log.head.next order k.kept.waiting)
  effect-fetched (take p) h =
      let slots = removed (is_loss_of p) x.log.slots in
      fetched-same r.operations slots (λ n. done n ++ cond (eqb p n) (h.0 ∷ []) []) (fetched-take r.operations x.log.slots done f p h.0 h.1) (more (take p))
      (λ n. ap (λ (l : List Record). done n ++ l) (fetched_one n x (take p) ∙ ap (λ (o : Option Record). cond (eqb p n) (one_or_none o) []) h.1))
  effect-fetched (renew p) h = none-fetched r.operations x.log.slots (renew p) (λ q. refl) f

-- what effects fetch, from the models in between
taken-first : (p : ℕ) (x : Model) (e : Effect) (es : List Effect) → fetched_in p x (e ∷ []) ++ fetched_in p (perform e x) es ≡ fetched_in p x (e ∷ es)
unfolding fetched_in
taken-first p x e es = ap (λ (l : List Record). l ++ fetched_in p (perform e x) es) (append-nil (fetches p x e))

-- over effects one after the other, of which each keeps what every list of calls keeps
pub fetched-all : (g : Geometry) (es : List Effect) (r : Register) (x : Model) → Good g r x → (done : ℕ → List Record) → Fetched r.operations x.log.slots done → AllPossible g x es
    → ((s : Register) (y : Model) (e : Effect) → Good g s y → Possible g y e → Good g (happen e s) (perform e y))
    → Fetched (happen_all es r).operations (perform_all es x).log.slots (λ p. done p ++ fetched_in p x es)
unfolding happen_all perform_all fetched_in
fetched-all g [] r x k done f a on = fetched-same r.operations x.log.slots done f (λ p. done p ++ []) (λ p. append-nil (done p))
fetched-all g (e ∷ es) r x k done f a on =
    let first : ℕ → List Record = λ p. done p ++ fetched_in p x (e ∷ []) in
    let rest = fetched-all g es (happen e r) (perform e x) (on r x e k a.0) first (effect-fetched g r x k done f e a.0) a.1 on in
    fetched-same (happen_all es (happen e r)).operations (perform_all es (perform e x)).log.slots (λ p. first p ++ fetched_in p (perform e x) es) rest
    (λ p. done p ++ fetched_in p x (e ∷ es))
    (λ p. sym (append_assoc (done p) (fetched_in p x (e ∷ [])) (fetched_in p (perform e x) es) ∙ ap (λ (l : List Record). done p ++ l) (taken-first p x e es)))

-- an accepted mount leaves nothing lost
pub begun-fetched : Fetched [] [] (λ p. [])
unfolding chosen losses_of
begun-fetched = record { order = tt; losses = λ p. refl }
