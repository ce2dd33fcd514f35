-- What later effects leave as it was: an operation's record and time of issue, that it was sent, whether it was lost before a time that
-- is past, and who precedes whom.
use Rattle.std.specs.Prelude.{ℕ, ◌≤◌, ◌<◌, ◌≡◌, refl, Bool, true, ◌&&◌, ◌||◌, eqb}
use Rattle.std.proofs.Common.{arith, sym, ap, ◌∙◌, subst, le-ltb, eqb-true}
use mathlib.Core.List.Memᴰ
use mathlib.Core.List.{List, [], ◌∷◌, map, Memᴰ}
use Rattle.record.specs.Operation.{Record}
use Rattle.log_rules.specs.Order.{directly_precedes}
use Rattle.log_rules.proofs.Laws.Order.{Rising}
use Rattle.log_rules.proofs.Laws.Change.{at-waiting}
use Rattle.session.specs.Call.{Geometry}
use Rattle.session.specs.Model.{Model}
use Rattle.session.specs.Effect.{Effect, note, issue, send, discard, take, renew, perform}
use Rattle.session.proofs.Laws.Possible.{Possible, AllPossible}
use Rattle.register.specs.Register.{Register, Acknowledged, Fate, waiting, sent, lost, is_waiting, is_sent, chosen, waiting_in, fated, recorded_of}
use Rattle.register.specs.Feed.{sending, losing}
use Rattle.register.proofs.Laws.Happen.{happen, happen_all}
use Rattle.register.specs.History.{Is, gone_by, Precedes}
use Rattle.register.specs.Claim.{SentAt, ClosedSet}
use Rattle.register.proofs.Laws.Fate.{send-record, send-issued, send-sent, send-gone, lose-record, lose-issued, lose-sent}
use Rattle.register.proofs.Laws.Invariant.{Kept, Timed, Good}
use Rattle.register.proofs.Laws.Send.{rising-unique}
use Rattle.register.proofs.Laws.Operation.{numbers-rise, in_map, waits-of}
use Rattle.session.proofs.Laws.Ready.{Ready}
use Rattle.register.proofs.Laws.Timed.{directly-inv, directly-of}
use Rattle.register.proofs.Laws.Precedes.{members-ready}

-- an operation a as it stands, as b, when a time is past
pub record Stands (happened : ℕ) (a b : Acknowledged) : Type 0 where
  pub recorded : b.recorded ≡ a.recorded
  pub issued : b.issued ≡ a.issued
  pub sent : is_sent a ≡ true → is_sent b ≡ true
  pub gone : (time : ℕ) → time ≤ happened → gone_by time b.fate ≡ gone_by time a.fate

-- a register s that came later than r: each operation of r stands in it
pub record Since (r s : Register) : Type 0 where
  pub happened : r.happened ≤ s.happened
  pub stands : (a : Acknowledged) → Is a r → (b : Acknowledged) × Is b s × Stands r.happened a b

pub stands_same : (happened : ℕ) (a : Acknowledged) → Stands happened a a
stands_same happened a = record { recorded = refl; issued = refl; sent = λ e. e; gone = λ n le. refl }

pub since-same : (r : Register) → Since r r
since-same r = record { happened = omega arith; stands = λ a m. (a, m, stands_same r.happened a) }

pub since-then : (r s t : Register) → Since r s → Since s t → Since r t
since-then r s t f g =
    let le₁ = f.happened in
    let le₂ = g.happened in
    record {
      happened = omega arith;
      stands = λ a m.
          let x = f.stands a m in
          let y = g.stands x.0 x.1 in (
            y.0,
            y.1,
            record {
              recorded = y.2.recorded ∙ x.2.recorded;
              issued = y.2.issued ∙ x.2.issued;
              sent = λ e. y.2.sent (x.2.sent e);
              gone = λ n k. y.2.gone n (omega arith) ∙ x.2.gone n k;
            },
          );
    }

-- a register whose operations are those of another, each changed so that it stands
pub since-map : (r s : Register) (f : Acknowledged → Acknowledged) → s.operations ≡ map f r.operations → r.happened ≤ s.happened
    → ((a : Acknowledged) → Is a r → Stands r.happened a (f a)) → Since r s
since-map r s f e le h = record { happened = le; stands = λ a m. (f a, subst (λ (l : List Acknowledged). Memᴰ (f a) l) (sym e) (in_map f r.operations a m), h a m) }

-- what was sent stays sent
pub sent-since : (r s : Register) → Since r s → (q : ℕ) → SentAt r q → SentAt s q
sent-since r s f q w =
    let x = f.stands w.0 w.1 in
    (x.0, x.1, ap (λ (z : Record). z.sequence) x.2.recorded ∙ w.2, x.2.sent w.3)

-- who precedes whom stays so
pub precedes-since : (r s : Register) → Since r s → Timed r.operations r.happened → {a b : Acknowledged} → Precedes r a b → Is a r → Is b r
    → {c d : Acknowledged} → Stands r.happened a c → Stands r.happened b d → Precedes s c d
precedes-since r s f t (Precedes.direct {a = a} {b = b} h) ma mb {c} {d} x y =
    let k = directly-inv a b h in
    let old = t.issued b mb in
    let earlier : c.recorded.sequence < d.recorded.sequence =
    subst (λ (z : Record). z.sequence < d.recorded.sequence) (sym x.recorded) (subst (λ (z : Record). a.recorded.sequence < z.sequence) (sym y.recorded) k.earlier) in
    Precedes.direct (directly-of c d (record {
      earlier = earlier;
      there = ap (λ (n : ℕ). gone_by n c.fate) y.issued ∙ x.gone b.issued (omega arith) ∙ k.there;
      ordered = (λ i. directly_precedes (x.recorded i).operation (y.recorded i).operation) ∙ k.ordered;
    }))
precedes-since r s f t (Precedes.through {a = a} {b = b} {c = e} me p q l) ma mb {c} {d} x y =
    let old = t.issued b mb in
    let z = f.stands e me in
    Precedes.through z.1 (precedes-since r s f t p ma me x z.2) (precedes-since r s f t q me mb z.2 y)
    (ap (λ (n : ℕ). gone_by n c.fate) y.issued ∙ x.gone b.issued (omega arith) ∙ l)

-- a set that is closed later was closed before
pub closed-since : (r s : Register) → Since r s → Timed r.operations r.happened → (set : ℕ → Bool) → ClosedSet r s set
    → (a b : Acknowledged) → Is a r → Is b r → Precedes r a b → set b.recorded.sequence ≡ true → set a.recorded.sequence ≡ true
closed-since r s f t set k a b ma mb p e =
    let x = f.stands a ma in
    let y = f.stands b mb in
    ap (λ (z : Record). set z.sequence) (sym x.2.recorded)
    ∙ k.closed x.0 y.0 x.1 y.1 (precedes-since r s f t p ma mb x.2 y.2) (ap (λ (z : Record). set z.sequence) y.2.recorded ∙ e)

-- so its members that waited before may be sent one after another
pub closed-ready : (r s : Register) → Since r s → Timed r.operations r.happened → Rising (λ a. a.recorded.sequence) r.operations → (set : ℕ → Bool) → ClosedSet r s set
    → Ready (waiting_in r) (chosen (λ a. set a.recorded.sequence && is_waiting a) r.operations)
closed-ready r s f t rise set k = members-ready r rise set (λ a b ma mb wa wb p e. closed-since r s f t set k a b ma mb p e)

-- and it holds what was sent before
pub closed-sent : (r s : Register) → Since r s → (set : ℕ → Bool) → ClosedSet r s set → (a : Acknowledged) → Is a r → is_sent a ≡ true → set a.recorded.sequence ≡ true
closed-sent r s f set k a m e =
    let x = f.stands a m in
    ap (λ (z : Record). set z.sequence) (sym x.2.recorded) ∙ k.sent x.0 x.1 (x.2.sent e)

-- an effect sends no operation but a waiting one
abbrev pub SendsWaiting : Effect → Register → Type 0
SendsWaiting (note p ops) r = Unit {0}
SendsWaiting (issue p o) r = Unit {0}
SendsWaiting (send q) r = (a : Acknowledged) → Is a r → a.recorded.sequence ≡ q → is_waiting a ≡ true
SendsWaiting discard r = Unit {0}
SendsWaiting (take p) r = Unit {0}
SendsWaiting (renew p) r = Unit {0}

lose-gone : (t : ℕ) (a : Acknowledged) (time : ℕ) → time ≤ t → gone_by time (losing t a).fate ≡ gone_by time a.fate
lose-gone t a time le = go a.fate
  where
    go : (f : Fate) → gone_by time (losing t (fated f a)).fate ≡ gone_by time f
    go waiting = le-ltb t time le
    go sent = refl
    go (lost u) = refl

-- after an effect
pub happen-since : (e : Effect) (r : Register) → SendsWaiting e r → Since r (happen e r)
unfolding happen
happen-since (note p ops) r h = record { happened = omega arith; stands = λ a m. (a, m, stands_same r.happened a) }
happen-since (issue p o) r h = record { happened = omega arith; stands = λ a m. (a, Memᴰ.append_left _ m, stands_same r.happened a) }
happen-since (send q) r h =
    since-map r (happen (send q) r) (sending q) refl (omega arith)
    (λ a m. record {
      recorded = send-record q a;
      issued = send-issued q a;
      sent = λ e. send-sent q a ∙ ap (λ (t : Bool). t || eqb a.recorded.sequence q) e;
      gone = λ n le. send-gone q a (λ e. h a m (eqb-true a.recorded.sequence q e)) n;
    })
happen-since discard r h =
    since-map r (happen discard r) (losing r.happened) refl (omega arith)
    (λ a m. record { recorded = lose-record r.happened a; issued = lose-issued r.happened a; sent = λ e. lose-sent r.happened a ∙ e; gone = λ n le. lose-gone r.happened a n le })
happen-since (take p) r h = record { happened = omega arith; stands = λ a m. (a, m, stands_same r.happened a) }
happen-since (renew p) r h = record { happened = omega arith; stands = λ a m. (a, m, stands_same r.happened a) }

-- as where it may take place
pub possible-waiting : (g : Geometry) (r : Register) (x : Model) → Kept g r x → (e : Effect) → Possible g x e → SendsWaiting e r
possible-waiting g r x k (note p ops) h = tt
possible-waiting g r x k (issue p o) h = tt
possible-waiting g r x k (send q) h =
    let y = at-waiting q x.log h.0 h.1.found in
    let w = waits-of r.operations h.0 (subst (λ (l : List Record). Memᴰ h.0 l) k.waiting y.0) in
    λ a m e.
    let same : w.who ≡ a = rising-unique recorded_of r.operations (numbers-rise 1 r.operations k.numbers) w.who a w.among m (ap (λ (z : Record). z.sequence) w.recorded ∙ y.1 ∙ sym e) in
    subst (λ (z : Acknowledged). is_waiting z ≡ true) same w.waiting
possible-waiting g r x k discard h = tt
possible-waiting g r x k (take p) h = tt
possible-waiting g r x k (renew p) h = tt

-- after all effects of a list, where what is kept is kept by each
pub all-since : (g : Geometry) → ((e : Effect) (r : Register) (x : Model) → Good g r x → Possible g x e → Good g (happen e r) (perform e x))
    → (es : List Effect) (r : Register) (x : Model) → Good g r x → AllPossible g x es → Since r (happen_all es r)
unfolding happen_all
all-since g keeps [] r x k h = since-same r
all-since g keeps (e ∷ es) r x k h =
    since-then r (happen e r) (happen_all es (happen e r)) (happen-since e r (possible-waiting g r x k.kept e h.0))
    (all-since g keeps es (happen e r) (perform e x) (keeps e r x k h.0) h.1)
