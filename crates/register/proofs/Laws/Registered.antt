-- What each call makes of the register, sentence by sentence.
use Rattle.std.specs.Prelude.{ℕ, ◌<◌, ◌≡◌, refl, Bool, true, false, cond, get_or, eqb}
use Rattle.std.proofs.Common.{arith, sym, ◌∙◌, eqb-true, ne_eqb}
use Rattle.std.proofs.Math.Path.{ap, subst}
use mathlib.Core.List.{List, [], ◌∷◌, map, Memᴰ}
use Rattle.std.proofs.Math.ListN.{length, take}
use Rattle.std.proofs.lemmas.Bool.{eqb-false}
use Rattle.returned.specs.Returned
use Rattle.record.specs.Operation.{Operation, Record, operands}
use Rattle.log_rules.proofs.Laws.Order.{Rising, has_operand}
use Rattle.session.specs.Class
use Rattle.session.specs.Call.{Geometry, Call, question, change, link, recovery, push, fsync, cut, renew, take as take_loss, Answer}
use Rattle.session.specs.Model.{Model}
use Rattle.session.specs.Step.{answer_of}
use Rattle.log_rules.proofs.Laws.Change.{at-waiting}
use Rattle.session.proofs.Laws.Call.{push-accepted}
use Rattle.session.proofs.Laws.Answer.{link-answered}
use Rattle.register.specs.Register.{Register, Acknowledged, is_waiting, recorded_of, view_of}
use Rattle.register.specs.History.{Is, Marked}
use Rattle.register.specs.Feed.{covered_in, has_object, needed_for, operations_in, operands_in, enter, send_all, lose_all, accepted, refused, feed}
use Rattle.register.specs.Fates.{Fates, Nobody, Adds, Enters}
use Rattle.register.specs.Claim.{Covers, First, Registered}
use Rattle.register.proofs.Laws.Invariant.{Good}
use Rattle.register.proofs.Laws.Operation.{numbers-rise}
use Rattle.register.proofs.Laws.Send.{rising-unique}
use Rattle.register.proofs.Laws.Kept.{waiting-same}
use Rattle.register.proofs.Laws.Covered.{Alike}
use Rattle.register.proofs.Laws.Precedes.{waits_in, covers-exact}
use Rattle.register.proofs.Laws.Known.{Known}
use Rattle.register.proofs.Laws.Fed.{needed-same}
use Rattle.register.proofs.Laws.Fates.{enters_none, enters-call, enters-renewal, adds-all, enters-all, sent-history, sent-operations, push-fates, cut-fates, sent-fates, broken-fates}
use Rattle.register.proofs.Laws.Could.{sending_all}
use Rattle.register.proofs.Laws.Caller.{own, left-operations, caller-marked}

feed-accepted : (c : Call) (a : Answer) (r : Register) → a.returned ≡ 0 → feed c a r ≡ accepted c r
unfolding feed
feed-accepted c a r e = ap (λ (n : ℕ). cond (eqb n 0) (accepted c r) (refused c a r)) e

feed-refused : (c : Call) (a : Answer) (r : Register) → (a.returned ≡ 0 → ⊥) → feed c a r ≡ refused c a r
unfolding feed
feed-refused c a r n = ap (λ (b : Bool). cond b (accepted c r) (refused c a r)) (ne_eqb a.returned 0 n)

-- fates by another test that is the same of the register's operations
fates-by : (r s : Register) (Sent Also Lost : Acknowledged → Type 0) → ((a : Acknowledged) → Is a r → Sent a → Also a) → ((a : Acknowledged) → Is a r → Also a → Sent a) → Fates r s Sent Lost → Fates r s Also Lost
fates-by r s Sent Also Lost to from f =
    record {
      records = f.records;
      sends = λ a m h. f.sends a m (from a m h);
      loses = f.loses;
      keeps = λ a m n k. f.keeps a m (λ h. n (to a m h)) k;
    }

module _ (g : Geometry) (r : Register) (x : Model) (good : Good g r x) (known : Known r x.log) where
  ordered : Rising (λ a. a.recorded.sequence) r.operations
  ordered = numbers-rise 1 r.operations good.kept.numbers

  -- the operation of an accepted push waits
  push-waits : (q : ℕ) → (answer_of g (push q) x).returned ≡ 0 → (b : Acknowledged) × Is b r × (b.recorded.sequence ≡ q) × (is_waiting b ≡ true)
  unfolding answer_of
  push-waits q e =
      let f = push-accepted q x e in
      let at = at-waiting q x.log f.0 f.1.found in
      let w = waits_in r f.0 (subst (λ (l : List Record). Memᴰ f.0 l) (sym (waiting-same g r x good.kept)) at.0) in
      (w.who, w.among, ap (λ (z : Record). z.sequence) w.recorded ∙ at.1, w.waiting)

  -- the sends of what a test picks, with their predecessors, send what is covered
  covered-fates : (pick : Acknowledged → Bool) (test : Record → Bool) → Alike pick test r.operations
      → (s : Register) → s.operations ≡ map (sending_all (covered_in pick r)) r.operations → Fates r s (Covers r pick) Nobody
  covered-fates pick test same s e =
      let exact = covers-exact r good.timed ordered pick test same in
      fates-by r s (λ a. Memᴰ a.recorded (covered_in pick r)) (Covers r pick) Nobody
      (λ a m h.
      let c = (exact a.recorded).0 h in
      subst (Covers r pick) (rising-unique recorded_of r.operations ordered c.0 a c.2.acknowledged m (ap (λ (q : Record). q.sequence) c.1)) c.2)
      (λ a m c. (exact a.recorded).1 (a, refl, c))
      (sent-fates r ordered (covered_in pick r) (λ q h. let c = (exact q).0 h in (c.0, c.2.acknowledged, c.1)) s e)

  -- an fsync that loses the link
  link-fates : (p o k : ℕ) → (answer_of g (fsync p o k) x).returned ≡ Returned.link_lost → (s : Register) → s ≡ lose_all (send_all (take k (needed_for o r)) (enter p (o ∷ []) r))
      → Fates r s (First k o r) (λ b. (is_waiting b ≡ true) × (First k o r b → ⊥)) × Enters r s ((p, o ∷ []) ∷ []) [] × Marked s p
  unfolding answer_of
  link-fates p o k e s is =
      let a = enter p (o ∷ []) r in
      let l = take k (needed_for o r) in
      let h = sent-history l a in
      let lt : k < length (needed_for o r) = subst (λ (w : List Record). k < length w) (sym (needed-same g r x good o)) (link-answered p o k x e).1 in (
        broken-fates r ordered l (own g r x good known p o k) a.happened s (omega arith) (ap (λ (z : Register). z.operations) is ∙ left-operations g r x good known p o k),
        enters-call p (o ∷ []) r s (ap (λ (z : Register). z.touches) is ∙ h.0) (ap (λ (z : Register). z.renewals) is ∙ h.1),
        subst (λ (z : Register). Marked z p) (sym is) (caller-marked g r x good known p o k lt),
      )

  -- nothing changes with any other refusal
  refused-same : (c : Call) (a : Answer) → (a.returned ≡ Returned.link_lost → ⊥) → (a.returned ≡ Returned.damaged → ⊥) → refused c a r ≡ r
  refused-same (question p q) a l d = refl
  refused-same (change i c) a l d = refl
  refused-same (link (Class.push q)) a l d = refl
  refused-same (link (Class.fsync p o k)) a l d =
      λ i. cond (ne_eqb a.returned Returned.link_lost l i) (lose_all (send_all (take k (needed_for o r)) (enter p (o ∷ []) r)))
      (cond (ne_eqb a.returned Returned.damaged d i) (send_all (take (get_or a.results 0 0) (needed_for o r)) r) r)
  refused-same (link Class.cut) a l d = refl
  refused-same (recovery p c) a l d = refl

  pub registered : (c : Call) → ((answer_of g c x).returned ≡ Returned.damaged → ⊥) → Registered r (feed c (answer_of g c x) r) c (answer_of g c x)
  registered c sound =
      record {
        changed = λ i d is e.
            let os = operations_in (view_of r) d in
            on (λ s. Adds r s i.program os × Enters r s (map (λ (o : Operation). (i.program, operands o)) os) []) (change i d) is e (adds-all i.program os r, enters-all i.program os r);
        pushed = λ q is e.
            let one = push-waits q (ap (λ (d : Call). (answer_of g d x).returned) (sym is) ∙ e) in
            let f = on (λ s. Fates r s (λ b. b.recorded.sequence ≡ q) Nobody × Enters r s [] []) (push q) is e (push-fates q r, enters_none r _ refl refl) in
            (one, f.0, f.1);
        synced = λ p o k is e.
            let a = enter p (o ∷ []) r in
            let l = needed_for o r in
            let h = sent-history l a in
            on (λ s. Fates r s (Covers r (has_object o)) Nobody × Enters r s ((p, o ∷ []) ∷ []) []) (fsync p o k) is e (covered-fates (has_object o) (has_operand o) (λ b m w. refl) (send_all l a) (sent-operations l a), enters-call p (o ∷ []) r (send_all l a) h.0 h.1);
        link_lost = λ p o k is e.
            let told : (answer_of g (fsync p o k) x).returned ≡ Returned.link_lost = ap (λ (d : Call). (answer_of g d x).returned) (sym is) ∙ e in
            link-fates p o k told _ (feed-refused c (answer_of g c x) r (λ z. let y : ◌≡◌ {A = ℕ} 0 17 = sym z ∙ e in omega arith) ∙ broken p o k is e);
        cut_off = λ is e. on (λ s. Fates r s Nobody (λ b. is_waiting b ≡ true) × Enters r s [] []) cut is e (cut-fates r, enters_none r _ refl refl);
        asked = λ p q is e.
            let ops = operands_in (view_of r) q in
            on (λ s. (s.operations ≡ r.operations) × Enters r s ((p, ops) ∷ []) []) (question p q) is e (refl, enters-call p ops r (enter p ops r) refl refl);
        renewed = λ p is e. on (λ s. (s.operations ≡ r.operations) × Enters r s [] (p ∷ [])) (renew p) is e (refl, enters-renewal p r);
        taken = λ p buffer is. took p buffer is (eqb (answer_of g c x).returned 0) refl;
        refused = λ n l. feed-refused c (answer_of g c x) r n ∙ refused-same c (answer_of g c x) l sound;
      }
    where
      on : (P : Register → Type 0) (d : Call) → c ≡ d → (answer_of g c x).returned ≡ 0 → P (accepted d r) → P (feed c (answer_of g c x) r)
      on P d is e h = subst P (sym (feed-accepted c (answer_of g c x) r e ∙ ap (λ (z : Call). accepted z r) is)) h

      broken : (p o k : ℕ) → c ≡ fsync p o k → (answer_of g c x).returned ≡ Returned.link_lost → refused c (answer_of g c x) r ≡ lose_all (send_all (take k (needed_for o r)) (enter p (o ∷ []) r))
      broken p o k is e =
          ap (λ (d : Call). refused d (answer_of g c x) r) is
          ∙ ap (λ (n : ℕ). cond (eqb n 17) (lose_all (send_all (take k (needed_for o r)) (enter p (o ∷ []) r))) (cond (eqb n 2) (send_all (take (get_or (answer_of g c x).results 0 0) (needed_for o r)) r) r)) e

      took : (p : ℕ) (buffer : List ℕ) → c ≡ take_loss p buffer → (b : Bool) → eqb (answer_of g c x).returned 0 ≡ b → feed c (answer_of g c x) r ≡ r
      took p buffer is true e = feed-accepted c (answer_of g c x) r (eqb-true _ 0 e) ∙ ap (λ (d : Call). accepted d r) is
      took p buffer is false e = feed-refused c (answer_of g c x) r (eqb-false _ 0 e) ∙ ap (λ (d : Call). refused d (answer_of g c x) r) is
