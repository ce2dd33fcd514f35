-- The two operations of a write across the end of a file, on every list of calls: what the register adds, that pushes and a cut may
-- keep the overwrite without the append, and that nothing keeps the append without the overwrite.
use Rattle.std.specs.Prelude.{ℕ, ◌+◌, ◌<◌, ◌≡◌, refl, Bool, true, false, not, ◌&&◌, ◌||◌, length, ltb}
use Rattle.std.proofs.Common.{arith, sym, ◌∙◌, subst, subst₂, ⊎_elim, lt-ltb, le-ltb, ltb-true}
use Rattle.std.proofs.Math.Path.{ap}
use mathlib.Core.List.Memᴰ
use mathlib.Core.List.{List, [], ◌∷◌, ◌++◌, map, Memᴰ, append_assoc}
use Rattle.std.proofs.Math.Bool.{and-eq-true_iff}
use Rattle.std.proofs.Math.ListN.{length-append}
use Rattle.buffer.specs.Laws.Test.{or_cases, or_left}
use Rattle.record.specs.Operation.{Operation, Record, record_of, operands}
use Rattle.volume_tree.specs.Volume.{Volume}
use Rattle.volume_apply.proofs.Laws.Local.{member-first}
use Rattle.log_rules.specs.Order.{shares, directly_precedes}
use Rattle.log_rules.proofs.Laws.Order.{Rising}
use Rattle.log_rules.specs.Change.{waiting_of}
use Rattle.session.specs.Call.{Geometry, Buffers, Call, push, cut, Answer}
use Rattle.session.specs.Model.{Model, mounted_model}
use Rattle.session.specs.Class
use Rattle.session.proofs.Laws.Write.{writes-both}
use Rattle.session.specs.Effect.{Effect, issuing, accepted_effects}
use Rattle.session.specs.Step.{answer_of, effects_in, leaves_of, mount}
use Rattle.session.proofs.Laws.Answer.{change-answered}
use Rattle.register.specs.Register.{Register, begun, Acknowledged, waiting, is_waiting, is_sent, is_lost, chosen, recorded_of}
use Rattle.register.proofs.Laws.Happen.{happen, happen_all}
use Rattle.register.specs.History.{Is, Precedes}
use Rattle.register.specs.Run.{State, Moment, Mounted, next, run, play}
use Rattle.register.specs.Claim.{SentAt, ClosedSet}
use Rattle.register.specs.Across.{length_in, Across, first_operation, second_operation, WaitsAt, KeepsOnly, TwoOperations}
use Rattle.register.proofs.Laws.Fate.{FateIs, waits, went, gone, fate-is, is_live, no_both, and_none, waits-not-sent, sent-live, waiting-live}
use Rattle.register.proofs.Laws.Invariant.{Timed}
use Rattle.register.proofs.Laws.Send.{rising-unique}
use Rattle.register.proofs.Laws.Operation.{numbers-rise}
use Rattle.register.proofs.Laws.Kept.{view-replayed}
use Rattle.register.proofs.Laws.Timed.{directly-of}
use Rattle.register.proofs.Laws.Precedes.{precedes-earlier, precedes-sent, lost-precedes}
use Rattle.register.proofs.Laws.Since.{Since, since-same, precedes-since}
use Rattle.register.proofs.Laws.Loss.{Settled, discard-settled}
use Rattle.register.proofs.Laws.Run.{Led, led-fed, next-led, run-led, run-since, run-met, mounted-led}
use Rattle.register.proofs.Laws.Could.{has_number, number-chosen, cut-effects, could}
use Rattle.register.proofs.Laws.Claim.{accepted-effects}

-- an overwrite directly precedes an append to the same file
same-file : (o f n : ℕ) (c d : List ℕ) → directly_precedes (Operation.overwrite o f c) (Operation.append o n d) ≡ true
unfolding directly_precedes shares operands
same-file o f n c d = rw (member-first o [])

-- two operations that one call issues, as the register adds them
module _ (p : ℕ) (a b : Operation) (r : Register) where
  abbrev first_of : Acknowledged
  first_of = record { recorded = record_of (length r.operations + 1) p a; issued = r.happened + 1; fate = waiting }

  abbrev second_of : Acknowledged
  second_of = record { recorded = record_of (length r.operations + 2) p b; issued = r.happened + 1 + 1 + 1; fate = waiting }

  both-issued : (happen_all (issuing p (a ∷ b ∷ [])) r).operations ≡ r.operations ++ (first_of ∷ second_of ∷ [])
  unfolding issuing happen_all happen
  both-issued =
      append_assoc r.operations (first_of ∷ []) _
      ∙ ap (λ (n : ℕ). r.operations ++ (first_of ∷ record { recorded = record_of n p b; issued = second_of.issued; fate = waiting } ∷ [])) (omega (arith, length-append r.operations (first_of ∷ [])))

-- after a list of calls that ends in a cut nothing waits
cut-settled : (g : Geometry) (v : Volume) (cs : List Call) (s : State) (x : Model) → Led g v s x → Settled (run g (cs ++ (cut ∷ [])) s).last.register.operations
unfolding run
cut-settled g v [] s x l =
    subst (λ (r : Register). Settled r.operations) (sym (led-fed g v s x l cut ∙ ap (λ (es : List Effect). happen_all es s.register) (cut-effects g x))) (discard-settled [] s.register)
cut-settled g v (c ∷ cs) s x l = cut-settled g v cs (next g c s) (leaves_of g c x) (next-led g v s x l c)

-- of the operations with two records, the second is not sent without the first, and the first may be sent and the second lost, as long
-- as the second waits
abbrev Fates : Geometry → State → Record → Record → Type 0
Fates g s a b =
    (SentAt s.register b.sequence → SentAt s.register a.sequence) × (WaitsAt s.register b.sequence → KeepsOnly g s a.sequence b.sequence)

-- what was sent, and what waits with a number below n
abbrev below : ℕ → Acknowledged → Bool
below n a = is_sent a || (ltb a.recorded.sequence n && is_waiting a)

module _ (g : Geometry) (v : Volume) (s : State) (x : Model) (l : Led g v s x) where
  -- the numbers rise, so what holds of an operation holds of every one with its number
  rises : Rising (λ a. a.recorded.sequence) s.register.operations
  rises = numbers-rise 1 s.register.operations l.good.kept.numbers

  of_number : (f : Acknowledged → Bool) {b : Acknowledged} → Is b s.register → (a : Acknowledged) × Is a s.register × (a.recorded.sequence ≡ b.recorded.sequence) × (f a ≡ true) → f b ≡ true
  of_number f {b} mb (a, ma, e, h) = ap f (sym (rising-unique recorded_of s.register.operations rises a b ma mb e)) ∙ h

  -- whoever precedes a waiting operation was sent or waits
  before-waiting : {a b : Acknowledged} → Precedes s.register a b → Is a s.register → Is b s.register → is_waiting b ≡ true → (n : ℕ) → a.recorded.sequence < n → below n a ≡ true
  before-waiting {a} {b} p ma mb wb n lt = ap (λ (t : Bool). is_sent a || (t && is_waiting a)) (lt-ltb _ n lt) ∙ go (fate-is a)
    where
      go : FateIs a → is_live a ≡ true
      go (waits w e) = waiting-live a w
      go (went e w) = sent-live a e
      go (gone u f e w) = lost-precedes s.register l.good.timed p ma mb wb u f

  -- so what was sent and what waits with a number below n leave out no predecessor of a member
  below-closed : (n : ℕ) → ClosedSet s.register s.register (λ q. has_number q (chosen (below n) s.register.operations))
  below-closed n =
      record {
        sent = λ a m e. is a m ∙ or_left (is_sent a) _ e;
        added = λ a m e. is a m ∙ none a e (fate-is a);
        closed = λ a b ma mb p e.
            is a ma
            ∙ ⊎_elim (λ (h : is_sent b ≡ true). or_left (is_sent a) _ (precedes-sent s.register l.good.timed p ma mb h))
            (λ (h : (ltb b.recorded.sequence n && is_waiting b) ≡ true).
            let k = (and-eq-true_iff (ltb b.recorded.sequence n) (is_waiting b)).0 h in
            let lt = ltb-true b.recorded.sequence n k.0 in
            let earlier = precedes-earlier p in
            before-waiting p ma mb k.1 n (omega arith))
            (or_cases (is_sent b) _ (sym (is b mb) ∙ e));
      }
    where
      is : (a : Acknowledged) → Is a s.register → has_number a.recorded.sequence (chosen (below n) s.register.operations) ≡ below n a
      is a m = number-chosen (below n) s.register.operations rises a m

      none : (a : Acknowledged) → is_lost a ≡ true → FateIs a → below n a ≡ false
      none a e (waits w k) = no_both (is_lost a) e (ap (λ (t : Bool). not (t || is_sent a)) w)
      none a e (went k w) = no_both (is_lost a) e (λ i. not (w i || k i))
      none a e (gone u f k w) = (λ i. k i || (ltb a.recorded.sequence n && w i)) ∙ and_none (ltb a.recorded.sequence n)

  -- of two operations of which one precedes the other
  fates : {a b : Acknowledged} → Precedes s.register a b → Is a s.register → Is b s.register → Fates g s a.recorded b.recorded
  fates {a} {b} p ma mb = (
    λ h. (a, ma, refl, precedes-sent s.register l.good.timed p ma mb (of_number is_sent mb h)),
    λ h.
        let ops = s.register.operations in
        let n = b.recorded.sequence in
        let wb = of_number is_waiting mb h in
        let set : ℕ → Bool = λ q. has_number q (chosen (below n) ops) in
        let pushes : List Call = map (λ (q : Record). push q.sequence) (chosen (λ c. set c.recorded.sequence && is_waiting c) ops) in
        let can = could g v s x l s.register (since-same s.register) set (below-closed n) in
        let since = run-since g v (pushes ++ (cut ∷ [])) s x l in
        let y = since.stands a ma in
        let z = since.stands b mb in
        let yes = can.just y.0 y.1 ∙ ap (λ (q : Record). set q.sequence) y.2.recorded ∙ number-chosen (below n) ops rises a ma ∙ before-waiting p ma mb wb n (precedes-earlier p) in
        let no =
        can.just z.0 z.1 ∙ ap (λ (q : Record). set q.sequence) z.2.recorded ∙ number-chosen (below n) ops rises b mb
        ∙ (λ i. waits-not-sent b wb i || (le-ltb n n (omega arith) i && is_waiting b)) in
        record {
          set = set;
          could = can;
          sent = (y.0, y.1, ap (λ (q : Record). q.sequence) y.2.recorded, yes);
          lost = (z.0, z.1, ap (λ (q : Record). q.sequence) z.2.recorded, λ i. not (cut-settled g v pushes s x l z.0 z.1 i || no i));
        },
  )

  -- and of two of which one preceded the other in an earlier register
  fates-since : (r : Register) → Timed r.operations r.happened → Since r s.register → {a b : Acknowledged} → Precedes r a b → Is a r → Is b r → Fates g s a.recorded b.recorded
  fates-since r t f {a} {b} p ma mb =
      let y = f.stands a ma in
      let z = f.stands b mb in
      subst₂ (Fates g s) y.2.recorded z.2.recorded (fates (precedes-since r s.register f t p ma mb y.2 z.2) y.1 z.1)

-- on every list of calls from an accepted mount on
pub across : (g : Geometry) (s : Buffers) (v : Volume) → Mounted g s v → (cs : List Call) → (m : Moment) → Memᴰ m (play g s v cs).moments → (w : Across m)
    → TwoOperations g m w (play g s v cs)
across g s v mounted cs m h w =
    let begin : State = record { buffers = (mount g s).leaves; register = begun v } in
    let start = mounted-led g s v mounted in
    let led = run-led g v cs begin (mounted_model v) start in
    let k = run-met g v cs begin (mounted_model v) start m h in
    let x = k.model in
    let r = m.before.register in
    let after = (next g m.call m.before).register in
    let p = w.by.program in
    let a = first_of p (first_operation w) (second_operation w) r in
    let b = second_of p (first_operation w) (second_operation w) r in
    let accepted : (answer_of g m.call x).returned ≡ 0 = ap (λ (y : Answer). y.returned) (sym k.answer) ∙ w.accepted in
    let effects : effects_in g m.call x ≡ issuing p (first_operation w ∷ second_operation w ∷ []) =
    accepted-effects g m.call x accepted ∙ (λ i. accepted_effects (w.call i) (record { view = sym (view-replayed g r x k.led.good.kept) i; waiting = waiting_of x.log.slots }))
    ∙ ap (issuing p) (writes-both (length_in r w.object) w.object w.offset w.bytes (omega arith) w.begins (omega arith)) in
    let added : after.operations ≡ r.operations ++ (a ∷ b ∷ []) =
    ap (λ (y : Register). y.operations) (led-fed g v m.before x k.led m.call ∙ ap (λ (es : List Effect). happen_all es r) effects) ∙ both-issued p (first_operation w) (second_operation w) r in
    let ma : Is a after = rw added (Memᴰ.append_right r.operations (Memᴰ.head refl)) in
    let mb : Is b after = rw added (Memᴰ.append_right r.operations (Memᴰ.tail (Memᴰ.head refl))) in
    let direct : Precedes after a b = Precedes.direct (directly-of a b (record { earlier = omega arith; there = refl; ordered = same-file w.object w.offset _ _ _ })) in
    let f = fates-since g v (play g s v cs).last _ led after (next-led g v m.before x k.led m.call).good.timed k.since direct ma mb in
    record {
      overwrite = a;
      append = b;
      added = added;
      first = refl;
      second = refl;
      wait = (refl, refl);
      told =
          ap (λ (y : Answer). y.results) k.answer ∙ ap (λ (c : Call). (answer_of g c x).results) w.call
          ∙ (change-answered g x k.led.good.kept.sound w.by (Class.write w.object w.offset w.bytes) (ap (λ (c : Call). (answer_of g c x).returned) (sym w.call) ∙ accepted)).results
          ∙ ap (λ (n : ℕ). n ∷ []) k.led.good.kept.next;
      may = f.1;
      never = f.0;
    }
