-- What an fsync's call depends on is what it needs: an accepted one sends all of it, and one that loses the link marks its caller, since
-- something of it is lost.
use Rattle.std.specs.Prelude.{ℕ, ◌≤◌, ◌<◌, ◌≡◌, ◌⊎◌, Bool, true, false, ◌||◌, cond, length, drop, eqb}
use Rattle.std.proofs.Common.{arith, ◌∙◌, inl, inr, ⊎_elim, take-append-drop, length-drop, eqb-true, eq-eqb}
use Rattle.std.proofs.Math.Path.{refl, sym, ap, subst}
use mathlib.Core.List.{List, [], ◌∷◌, ◌++◌, map, Memᴰ}
use Rattle.std.proofs.Math.Bool.{and-eq-true_iff}
use Rattle.std.proofs.Math.ListN.{take}
use Rattle.buffer.specs.Laws.Test.{or_cases, or_left, or_right}
use Rattle.record.specs.Operation.{Record, operands}
use Rattle.record.specs.Fields.{member}
use Rattle.log_rules.specs.Order.{shares, touches, directly_precedes, PrecedesIn, needed}
use Rattle.log_rules.specs.Change.{waiting_of}
use Rattle.log_rules.proofs.Laws.Order.{Rising, InOrder, before-earlier, before-ordered, before_of, needed-exact, needed-closed}
use Rattle.log_rules.proofs.Laws.Change.{waiting-in-order}
use Rattle.log_rules.proofs.Laws.Chain.{Chain, last, next}
use Rattle.log_rules.proofs.Laws.Partition.{picked}
use Rattle.session.specs.Call.{Geometry}
use Rattle.session.specs.Model.{Model}
use Rattle.session.specs.Effect.{note}
use Rattle.session.proofs.Laws.Ready.{needed-ready, in_take, order-apart}
use Rattle.register.specs.Register.{Register, Acknowledged, Touch, Renewal, Fate, sent, lost, is_waiting, recorded_of, fated}
use Rattle.register.specs.History.{Is, Precedes, Reaches, Marked}
use Rattle.register.specs.Feed.{has_object, needed_for, enter, send_all, losing, lose_all}
use Rattle.register.specs.Claim.{Covers}
use Rattle.register.proofs.Laws.Happen.{happen}
use Rattle.register.proofs.Laws.Fate.{Among, no_both, lose-record, lose-issued}
use Rattle.register.proofs.Laws.Invariant.{Timed, Good}
use Rattle.register.proofs.Laws.Pick.{map-in}
use Rattle.register.proofs.Laws.Send.{rising-unique}
use Rattle.register.proofs.Laws.Operation.{numbers-rise, in_map, chosen-picked, chosen-there, chosen-rising}
use Rattle.register.proofs.Laws.Timed.{timed-on}
use Rattle.register.proofs.Laws.Covered.{covered-needed}
use Rattle.register.proofs.Laws.Precedes.{waiting-precedes, needs-exact}
use Rattle.register.proofs.Laws.Reach.{Renamed, same_operands, reaches-chain, chain-reaches, depends-to, depends-called, not-waiting}
use Rattle.register.proofs.Laws.Depend.{note-renamed, mem-end}
use Rattle.register.proofs.Laws.Known.{Known, effect-recalled}
use Rattle.register.proofs.Laws.Fed.{needed-same}
use Rattle.register.proofs.Laws.Could.{sending_all, has_number, all-record, map-map}
use Rattle.register.proofs.Laws.Fates.{sent-history, sent-operations, broken-if, broken_at, broken-waiting, broken-kept}

-- what has an object shares it
shares-object : (o : ℕ) (l : List ℕ) → member o l ≡ true → shares l (o ∷ []) ≡ true
unfolding member shares
shares-object o [] e = e
shares-object o (b ∷ l) e =
    ⊎_elim (λ (h : eqb o b ≡ true). or_left (eqb b o || false) (shares l (o ∷ [])) (or_left (eqb b o) false (eq-eqb b o (sym (eqb-true o b h)))))
    (λ (h : member o l ≡ true). or_right (eqb b o || false) (shares l (o ∷ [])) (shares-object o l h)) (or_cases (eqb o b) (member o l) e)

object-shared : (o : ℕ) (l : List ℕ) → shares l (o ∷ []) ≡ true → member o l ≡ true
unfolding member shares
object-shared o [] e = e
object-shared o (b ∷ l) e =
    ⊎_elim (λ (h : (eqb b o || false) ≡ true). ⊎_elim (λ (y : eqb b o ≡ true). or_left (eqb o b) (member o l) (eq-eqb o b (sym (eqb-true b o y)))) (λ (y : false ≡ true). no_both false y refl) (or_cases (eqb b o) false h))
    (λ (h : shares l (o ∷ []) ≡ true). or_right (eqb o b) (member o l) (object-shared o l h)) (or_cases (eqb b o || false) (shares l (o ∷ [])) e)

-- what precedes one from which a chain leads leads on to it
chain-before : {ops : List ℕ} {l : List Record} {a b : Record} → PrecedesIn l a b → Memᴰ b l → Chain ops l b → Chain ops l a
unfolding directly_precedes
chain-before (PrecedesIn.direct {a = a} {b = b} h) m c =
    next m (before-earlier a b h) ((and-eq-true_iff (touches a.operation b.operation) _).0 (before-ordered a b h)).0 c
chain-before (PrecedesIn.through n p q) m c = chain-before p n (chain-before q m c)

module _ (r : Register) (timed : Timed r.operations r.happened) (o : ℕ) where
  covers-chain : (a : Acknowledged) → Covers r (has_object o) a → Chain (o ∷ []) (map recorded_of (picked is_waiting r.operations)) a.recorded
  covers-chain a c =
      subst (λ (l : List Record). Chain (o ∷ []) l a.recorded) (chosen-picked is_waiting r.operations)
      (⊎_elim (λ (h : member o (operands a.recorded.operation) ≡ true). last (shares-object o (operands a.recorded.operation) h))
      (λ (b : (b : Acknowledged) × Is b r × (is_waiting b ≡ true) × (member o (operands b.recorded.operation) ≡ true) × Precedes r a b).
      chain-before (waiting-precedes r timed b.4 c.acknowledged b.1 c.waits b.2) (chosen-there is_waiting r.operations b.0 b.1 b.2)
      (last (shares-object o (operands b.0.recorded.operation) b.3)))
      c.why)

-- a chain to the object leads from what is needed: who touches one without preceding it has its operands
chain-needed : {o : ℕ} {w : List Record} → InOrder w → {q : Record} → Chain (o ∷ []) w q → Memᴰ q w
    → (r : Record) → Memᴰ r w → r.sequence ≤ q.sequence → operands r.operation ≡ operands q.operation → Memᴰ r (needed o w)
chain-needed {o} {w} order {q} (last e) mq r mr le same =
    (needed-exact o w order r).1 (mr, inl (ap (member o) same ∙ object-shared o (operands q.operation) e))
chain-needed {o} {w} order {q} (next {q = s} ms lt sh x) mq r mr le same = go (directly_precedes r.operation s.operation) refl (chain-needed order x ms)
  where
    shared : touches r.operation s.operation ≡ true
    shared = ap (λ (l : List ℕ). shares l (operands s.operation)) same ∙ sh

    go : (d : Bool) → directly_precedes r.operation s.operation ≡ d
        → ((z : Record) → Memᴰ z w → z.sequence ≤ s.sequence → operands z.operation ≡ operands s.operation → Memᴰ z (needed o w)) → Memᴰ r (needed o w)
    go true e rest = needed-closed o w order mr (rest s ms (omega arith) refl) (PrecedesIn.direct (before_of r s (omega arith) e))
    go false e rest = rest r mr (omega arith) (same_operands r.operation s.operation shared e)

-- of a list that is longer than k, the first behind k
record Behind (k : ℕ) (l : List Record) : Type 0 where
  it : Record
  rest : List Record
  is : drop k l ≡ it ∷ rest

behind : (k : ℕ) (l : List Record) → k < length l → Behind k l
behind k l lt = go (drop k l) refl
  where
    go : (d : List Record) → drop k l ≡ d → Behind k l
    go [] e = let n = length-drop k l in let z = ap length e in absurd (omega arith)
    go (q ∷ d) e = record { it = q; rest = d; is = e }

module _ (g : Geometry) (r : Register) (x : Model) (good : Good g r x) (known : Known r x.log) (p o k : ℕ) where
  abbrev pub asked : Register
  asked = enter p (o ∷ []) r

  abbrev pub need : List Record
  need = needed_for o r

  rise : Rising (λ a. a.recorded.sequence) r.operations
  rise = numbers-rise 1 r.operations good.kept.numbers

  need-order : InOrder need
  need-order = subst InOrder (sym (needed-same g r x good o)) (needed-ready (waiting_of x.log.slots) o (waiting-in-order g.objects g.blocks g.capacity x.log good.kept.sound.log)).order

  -- each of the first k is the record of an operation that is covered
  pub own : (q : Record) → Memᴰ q (take k need) → (a : Acknowledged) × Is a r × (a.recorded ≡ q)
  own q m = let c = (needs-exact r good.timed rise o q).0 (in_take k need q m) in (c.0, c.2.acknowledged, c.1)

  own-waits : (a : Acknowledged) → Is a r → Memᴰ a.recorded (take k need) → is_waiting a ≡ true
  own-waits a m h =
      let c = (needs-exact r good.timed rise o a.recorded).0 (in_take k need a.recorded h) in
      let same : c.0 ≡ a = rising-unique recorded_of r.operations rise c.0 a c.2.acknowledged m (ap (λ (q : Record). q.sequence) c.1) in
      subst (λ (b : Acknowledged). is_waiting b ≡ true) same c.2.waits

  -- a waiting operation on which the call of an fsync depends is one that it covers
  pub reached-covered : (a : Acknowledged) → Is a r → is_waiting a ≡ true → Reaches r a (record { program = p; touched = o ∷ []; time = r.happened }) → Covers r (has_object o) a
  reached-covered a m w h =
      let t : Touch = record { program = p; touched = o ∷ []; time = r.happened } in
      let there = chosen-there is_waiting r.operations a m w in
      let c = subst (λ (l : List Record). Chain (o ∷ []) l a.recorded) (sym (chosen-picked is_waiting r.operations)) (reaches-chain r good.timed t refl a m w h) in
      let n = chain-needed (chosen-rising is_waiting r.operations rise) c there a.recorded there (omega arith) refl in
      let d = (needs-exact r good.timed rise o a.recorded).0 (subst (λ (l : List Record). Memᴰ a.recorded l) (sym (covered-needed o r.operations)) n) in
      subst (Covers r (has_object o)) (rising-unique recorded_of r.operations rise d.0 a d.2.acknowledged m (ap (λ (q : Record). q.sequence) d.1)) d.2

  abbrev pub left : Register
  left = lose_all (send_all (take k need) asked)

  abbrev pub turned : Acknowledged → Acknowledged
  turned = broken_at (take k need) asked.happened

  pub left-operations : left.operations ≡ map turned r.operations
  left-operations =
      (λ i. map (losing ((sent-history (take k need) asked).2 i)) (sent-operations (take k need) asked i))
      ∙ map-map (losing asked.happened) (sending_all (take k need)) r.operations

  -- the operations and the history after it, from those of the call
  renamed : Renamed asked left turned
  renamed =
      record {
        to = λ a m. subst (λ (l : List Acknowledged). Among (turned a) l) (sym left-operations) (in_map turned r.operations a m);
        from = λ b m. inl (map-in recorded_of turned r.operations b (subst (λ (l : List Acknowledged). Among b l) left-operations m));
        recorded = λ a. lose-record asked.happened (sending_all (take k need) a) ∙ all-record (take k need) a;
        issued = λ a. ap (λ (b : Acknowledged). b.issued) (broken-if (take k need) asked.happened a) ∙ same-issued a (has_number a.recorded.sequence (take k need));
        still = λ a u m f.
            ap (λ (b : Acknowledged). b.fate)
            (broken-kept r rise (take k need) own asked.happened a m (λ h. not-waiting a u (own-waits a m h) f) (ap (λ (z : Fate). is_waiting (fated z a)) f))
            ∙ f;
        newly = λ a u f. newly a u (has_number a.recorded.sequence (take k need)) (is_waiting a) refl (ap (λ (b : Acknowledged). b.fate) (sym (broken-if (take k need) asked.happened a)) ∙ f);
        touches = λ t m. subst (λ (l : List Touch). Memᴰ t l) (sym (sent-history (take k need) asked).0) m;
        calls = λ t m. inl (subst (λ (l : List Touch). Memᴰ t l) (sent-history (take k need) asked).0 m);
        renewals = λ n m. subst (λ (l : List Renewal). Memᴰ n l) (sym (sent-history (take k need) asked).1) m;
      }
    where
      same-issued : (a : Acknowledged) (b : Bool) → (cond b (fated sent a) (losing asked.happened a)).issued ≡ a.issued
      same-issued a true = refl
      same-issued a false = lose-issued asked.happened a

      newly : (a : Acknowledged) (u : ℕ) (b w : Bool) → is_waiting a ≡ w → (cond b (fated sent a) (cond w (fated (lost asked.happened) a) a)).fate ≡ lost u
          → (a.fate ≡ lost u) ⊎ ((is_waiting a ≡ true) × (u ≡ asked.happened))
      newly a u true w e f = let z : ◌≡◌ {A = ℕ} 0 1 = cc in absurd (omega arith)
      newly a u false true e f = let z : asked.happened ≡ u = cc in inr (e, sym z)
      newly a u false false e f = inl f

  pub caller-marked : k < length need → Marked left p
  unfolding happen
  caller-marked lt =
      let b = behind k need lt in
      let split : need ≡ take k need ++ (b.it ∷ b.rest) = sym (take-append-drop k need) ∙ ap (λ (l : List Record). take k need ++ l) b.is in
      let there : Memᴰ b.it need = subst (λ (l : List Record). Memᴰ b.it l) (sym split) (mathlib.Core.List.Memᴰ.append_right (take k need) (mathlib.Core.List.Memᴰ.head refl)) in
      let c = (needs-exact r good.timed rise o b.it).0 there in
      let a = c.0 in
      let late : Memᴰ a.recorded (take k need) → ⊥ =
      λ h. order-apart (take k need) b.rest b.it (subst InOrder split need-order) a.recorded (mathlib.Core.List.Memᴰ.append_left b.rest h) (ap (λ (q : Record). q.sequence) c.1) in
      let t : Touch = record { program = p; touched = o ∷ []; time = r.happened } in
      let reaches = chain-reaches r good.timed t refl (covers-chain r good.timed o a c.2) a c.2.acknowledged c.2.waits refl in
      let depends = depends-called r asked (λ a. a) good.timed known.recalled (note-renamed r p (o ∷ [])) p a c.2.acknowledged (record { call = t; among = mem-end r.touches t; now = refl; own = refl; reaches = reaches }) in
      let on = timed-on r.operations r.happened good.timed in
      let recalled = effect-recalled r known.recalled (note p (o ∷ [])) in
      record {
        on = turned a;
        acknowledged = renamed.to a c.2.acknowledged;
        time = asked.happened;
        discarded = ap (λ (z : Acknowledged). z.fate) (broken-waiting r rise (take k need) own asked.happened a c.2.acknowledged late c.2.waits);
        renewed = λ n m e. recalled.renewals n (subst (λ (l : List Renewal). Memᴰ n l) (sent-history (take k need) asked).1 m);
        depended = depends-to asked left turned on recalled renamed p a c.2.acknowledged depends;
      }
