-- What "precedes" of the history means among the operations that wait: what precedes in the list of their records.
use Rattle.std.specs.Prelude.{ℕ, ◌<◌, ◌≡◌, refl, ◌⊎◌, ◌↔◌, Bool, true, false, ◌&&◌}
use Rattle.std.proofs.Common.{arith, sym, ap, ◌∙◌, subst, inl, inr, ⊎_elim, lt-ltb}
use mathlib.Core.List.{List, Memᴰ}
use Rattle.std.proofs.Math.Bool.{and-eq-true_iff}
use Rattle.record.specs.Operation.{Record}
use Rattle.log_rules.specs.Order.{before, preceded, PrecedesIn}
use Rattle.log_rules.proofs.Laws.Order.{Rising, Reason, has_operand, before-earlier, before-ordered, before_of, closure-exact, preceded-exact}
use Rattle.register.specs.Register.{Register, Acknowledged, lost, is_waiting, is_sent, chosen, waiting_in}
use Rattle.register.specs.Feed.{covered_in, has_object, needed_for}
use Rattle.register.specs.History.{Is, gone_by, lost_before, directly, Precedes}
use Rattle.register.specs.Claim.{Covers, Unpreceded}
use Rattle.register.proofs.Laws.Covered.{Alike, covered-closure}
use Rattle.register.proofs.Laws.Fate.{FateIs, waits, went, gone, fate-is, no_both, waits-not-sent, waiting-there}
use Rattle.register.proofs.Laws.Invariant.{Timed}
use Rattle.register.proofs.Laws.Operation.{chosen-picked, chosen-there, chosen-in, chosen-rising, Waits, waits-of}
use Rattle.register.proofs.Laws.Timed.{directly-inv, directly-of}
use Rattle.session.proofs.Laws.Ready.{Ready}

-- whoever precedes has the smaller number
pub precedes-earlier : {r : Register} {a c : Acknowledged} → Precedes r a c → a.recorded.sequence < c.recorded.sequence
precedes-earlier (Precedes.direct {a = a} {b = c} d) = (directly-inv a c d).earlier
precedes-earlier (Precedes.through m p q l) = let g = precedes-earlier p in let h = precedes-earlier q in omega arith

-- whoever precedes was not lost before the other was issued
pub precedes-there : {r : Register} {a c : Acknowledged} → Precedes r a c → lost_before a c ≡ false
precedes-there (Precedes.direct {a = a} {b = c} d) = (directly-inv a c d).there
precedes-there (Precedes.through m p q l) = l

-- a chain of predecessors of a sent operation is sent
pub precedes-sent : (r : Register) → Timed r.operations r.happened → {a c : Acknowledged} → Precedes r a c → Is a r → Is c r → is_sent c ≡ true → is_sent a ≡ true
precedes-sent r t (Precedes.direct d) ma mc s = t.shut _ _ ma mc s d
precedes-sent r t (Precedes.through mb p q l) ma mc s = precedes-sent r t p ma mb (precedes-sent r t q mb mc s)

-- a lost operation precedes no waiting one: it was lost before that one was issued
pub lost-precedes : {C : Type 0} (r : Register) → Timed r.operations r.happened → {a b : Acknowledged} → Precedes r a b → Is a r → Is b r → is_waiting b ≡ true → (u : ℕ) → a.fate ≡ lost u → C
lost-precedes r t {a} {b} p ma mb wb u f = no_both (lost_before a b) (ap (gone_by b.issued) f ∙ lt-ltb u b.issued (t.later a b u ma mb f wb)) (precedes-there p)

-- of a chain from a waiting to a waiting operation each one between them waits: a sent one has no waiting predecessor, and a lost one
-- precedes no waiting one
between-waits : (r : Register) → Timed r.operations r.happened → {a b c : Acknowledged} → Precedes r a c → Precedes r c b → Is a r → Is b r → Is c r
    → is_waiting a ≡ true → is_waiting b ≡ true → is_waiting c ≡ true
between-waits r t {a} {b} {c} p q ma mb mc wa wb = go (fate-is c)
  where
    go : FateIs c → is_waiting c ≡ true
    go (waits w s) = w
    go (went s w) = no_both (is_sent a) (precedes-sent r t p ma mc s) (waits-not-sent a wa)
    go (gone u f s w) = lost-precedes r t q mc mb wb u f

-- a record of the waiting ones is some operation's that waits
pub waits_in : (r : Register) (q : Record) → Memᴰ q (waiting_in r) → Waits r.operations q
waits_in r q m = waits-of r.operations q (subst (λ (x : List Record). Memᴰ q x) (chosen-picked is_waiting r.operations) m)

-- among waiting operations, to precede is to precede in the list of their records
pub waiting-precedes : (r : Register) → Timed r.operations r.happened → {a b : Acknowledged} → Precedes r a b → Is a r → Is b r → is_waiting a ≡ true → is_waiting b ≡ true
    → PrecedesIn (waiting_in r) a.recorded b.recorded
waiting-precedes r t (Precedes.direct {a = a} {b = b} d) ma mb wa wb = let x = directly-inv a b d in PrecedesIn.direct (before_of a.recorded b.recorded x.earlier x.ordered)
waiting-precedes r t (Precedes.through {a = a} {b = b} {c = c} mc p q l) ma mb wa wb =
    let wc = between-waits r t p q ma mb mc wa wb in
    PrecedesIn.through (chosen-there is_waiting r.operations c mc wc) (waiting-precedes r t p ma mc wa wc) (waiting-precedes r t q mc mb wc wb)

-- one waiting operation's record directly before another's
waiting-directly : {p q : Record} → before p q ≡ true → (a b : Acknowledged) → is_waiting a ≡ true → a.recorded ≡ p → b.recorded ≡ q → directly a b ≡ true
waiting-directly {p} {q} h a b wa ea eb =
    let k : before a.recorded b.recorded ≡ true = (λ i. before (ea i) (eb i)) ∙ h in
    directly-of a b (record { earlier = before-earlier a.recorded b.recorded k; there = waiting-there a b.issued wa; ordered = before-ordered a.recorded b.recorded k })

pub precedes-waiting : (r : Register) → {p q : Record} → PrecedesIn (waiting_in r) p q → (a b : Acknowledged) → is_waiting a ≡ true → a.recorded ≡ p → b.recorded ≡ q → Precedes r a b
precedes-waiting r (PrecedesIn.direct h) a b wa ea eb = Precedes.direct (waiting-directly h a b wa ea eb)
precedes-waiting r (PrecedesIn.through {a = p} {b = q} {c = s} m x y) a b wa ea eb =
    let w = waits_in r s m in
    Precedes.through w.among (precedes-waiting r x a w.who wa ea w.recorded) (precedes-waiting r y w.who b w.waiting w.recorded eb) (waiting-there a b.issued wa)

-- a predecessor waits, by the list of waiting records, if and only if a waiting operation precedes
pub unpreceded : (r : Register) → Timed r.operations r.happened → (a : Acknowledged) → Is a r → is_waiting a ≡ true → (preceded (waiting_in r) a.recorded ≡ false) ↔ Unpreceded r a
unpreceded r t a ma wa = (
  λ e b mb wb p. no_both (preceded (waiting_in r) a.recorded) (exact.1 (b.recorded, chosen-there is_waiting r.operations b mb wb, waiting-precedes r t p mb ma wb wa)) e,
  λ u. go u (preceded (waiting_in r) a.recorded) refl,
)
  where
    exact : (preceded (waiting_in r) a.recorded ≡ true) ↔ ((q : Record) × Memᴰ q (waiting_in r) × PrecedesIn (waiting_in r) q a.recorded)
    exact = preceded-exact (waiting_in r) a.recorded

    go : Unpreceded r a → (t : Bool) → preceded (waiting_in r) a.recorded ≡ t → t ≡ false
    go u true e =
        let x = exact.0 e in
        let w = waits_in r x.0 x.1 in
        absurd (u w.who w.among w.waiting (precedes-waiting r x.2 w.who a w.waiting w.recorded refl))
    go u false e = refl

module _ (r : Register) (t : Timed r.operations r.happened) (rise : Rising (λ a. a.recorded.sequence) r.operations) where
  -- what a test picks and what precedes that is exactly what is covered
  pub covers-exact : (pick : Acknowledged → Bool) (test : Record → Bool) → Alike pick test r.operations → (q : Record)
      → Memᴰ q (covered_in pick r) ↔ ((a : Acknowledged) × (a.recorded ≡ q) × Covers r pick a)
  covers-exact pick test same q = (
    λ m. let x = exact.0 m in let w = waits_in r q x.0 in (w.who, w.recorded, record { acknowledged = w.among; waits = w.waiting; why = covers w x.1 }),
    λ c. exact.1 (
      subst (λ (z : Record). Memᴰ z (waiting_in r)) c.1 (chosen-there is_waiting r.operations c.0 c.2.acknowledged c.2.waits),
      subst (Reason test (waiting_in r)) c.1 (reason c.0 c.2),
    ),
  )
    where
      exact : Memᴰ q (covered_in pick r) ↔ (Memᴰ q (waiting_in r) × Reason test (waiting_in r) q)
      exact =
          subst (λ (l : List Record). Memᴰ q l ↔ (Memᴰ q (waiting_in r) × Reason test (waiting_in r) q)) (sym (covered-closure pick test r.operations same))
          (closure-exact test (waiting_in r) (chosen-rising is_waiting r.operations rise) q)

      Other : Acknowledged → Type 0
      Other a = (b : Acknowledged) × Is b r × (is_waiting b ≡ true) × (pick b ≡ true) × Precedes r a b

      covers : (w : Waits r.operations q) → Reason test (waiting_in r) q → (pick w.who ≡ true) ⊎ Other w.who
      covers w (inl h) = inl (same w.who w.among w.waiting ∙ ap test w.recorded ∙ h)
      covers w (inr b) =
          let v = waits_in r b.0 b.1 in
          inr (v.who, v.among, v.waiting, same v.who v.among v.waiting ∙ ap test v.recorded ∙ b.2, precedes-waiting r b.3 w.who v.who w.waiting w.recorded v.recorded)

      reason : (a : Acknowledged) → Covers r pick a → Reason test (waiting_in r) a.recorded
      reason a c =
          ⊎_elim (λ (h : pick a ≡ true). inl (sym (same a c.acknowledged c.waits) ∙ h))
          (λ (b : Other a).
          inr (b.0.recorded, chosen-there is_waiting r.operations b.0 b.1 b.2, sym (same b.0 b.1 b.2) ∙ b.3, waiting-precedes r t b.4 c.acknowledged b.1 c.waits b.2))
          c.why

  -- what fsync of an object needs is exactly what it covers
  pub needs-exact : (o : ℕ) (q : Record) → Memᴰ q (needed_for o r) ↔ ((a : Acknowledged) × (a.recorded ≡ q) × Covers r (has_object o) a)
  needs-exact o q = covers-exact (has_object o) (has_operand o) (λ a m w. refl) q

-- the waiting members of a set that leaves out no waiting predecessor of a waiting member may be sent one after another
pub members-ready : (r : Register) → Rising (λ a. a.recorded.sequence) r.operations → (set : ℕ → Bool)
    → ((a b : Acknowledged) → Is a r → Is b r → is_waiting a ≡ true → is_waiting b ≡ true → Precedes r a b → set b.recorded.sequence ≡ true → set a.recorded.sequence ≡ true)
    → Ready (waiting_in r) (chosen (λ a. set a.recorded.sequence && is_waiting a) r.operations)
members-ready r rise set closed =
    let test : Acknowledged → Bool = λ a. set a.recorded.sequence && is_waiting a in
    record {
      order = chosen-rising test r.operations rise;
      wait = λ q m.
          let b = chosen-in test r.operations q m in
          let y = (and-eq-true_iff (set b.0.recorded.sequence) (is_waiting b.0)).0 b.2 in
          subst (λ (z : Record). Memᴰ z (waiting_in r)) b.3 (chosen-there is_waiting r.operations b.0 b.1 y.1);
      full = λ q p m n h.
          let b = chosen-in test r.operations q m in
          let y = (and-eq-true_iff (set b.0.recorded.sequence) (is_waiting b.0)).0 b.2 in
          let w = waits_in r p n in
          let s = closed w.who b.0 w.among b.1 w.waiting y.1 (Precedes.direct (waiting-directly h w.who b.0 w.waiting w.recorded b.3)) y.0 in
          subst (λ (z : Record). Memᴰ z (chosen test r.operations)) w.recorded
          (chosen-there test r.operations w.who w.among ((and-eq-true_iff (set w.who.recorded.sequence) (is_waiting w.who)).1 (s, w.waiting)));
    }
