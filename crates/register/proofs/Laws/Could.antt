-- Pushes of waiting operations that leave out no waiting predecessor of a member, in issue order, and then a cut: all are accepted, and
-- just the members are sent besides.
use Rattle.std.specs.Prelude.{ℕ, ◌≡◌, refl, Bool, true, false, not, ◌&&◌, ◌||◌, cond, eqb}
use Rattle.std.proofs.Common.{sym, ◌∙◌, ⊎_elim, eqb-true, eq-eqb}
use Rattle.std.proofs.Math.Path.{ap, subst}
use mathlib.Core.List.Memᴰ
use mathlib.Core.List.{List, [], ◌∷◌, ◌++◌, map, Memᴰ}
use Rattle.std.proofs.Math.Bool.{or-false, or_assoc}
use Rattle.record.specs.Operation.{Record}
use Rattle.volume_tree.specs.Volume.{Volume}
use Rattle.log_rules.specs.Order.{any}
use Rattle.log_rules.proofs.Laws.Order.{Rising, any-in, in-any}
use Rattle.log_rules.specs.Change.{waiting_of}
use Rattle.session.specs.Call.{Geometry, Call, push, cut, Answer}
use Rattle.session.specs.Model.{Model}
use Rattle.session.specs.Send.{push_of}
use Rattle.session.specs.Effect.{Effect, send, discard, perform, perform_all, effects_of}
use Rattle.session.specs.Step.{answer_of, effects_in, leaves_of, step}
use Rattle.session.proofs.Laws.Answer.{push-passes}
use Rattle.session.proofs.Laws.Ready.{Ready, first-sent}
use Rattle.session.proofs.Laws.Step.{step-holds}
use Rattle.register.specs.Register.{Register, Acknowledged, is_waiting, is_sent, is_lost, chosen, recorded_of}
use Rattle.register.specs.Feed.{sending, losing}
use Rattle.register.proofs.Laws.Happen.{happen, happen_all}
use Rattle.register.specs.Run.{State, Moment, Run, next, run, AllAccepted, CouldHaveBeenSent}
use Rattle.register.specs.Claim.{ClosedSet}
use Rattle.register.proofs.Laws.Fate.{Among, FateIs, waits, went, gone, fate-is, no_both, and_none, and-all, send-sent, send-record, lose-sent, lose-record}
use Rattle.register.proofs.Laws.Pick.{map-in}
use Rattle.register.proofs.Laws.Send.{rising-unique}
use Rattle.register.proofs.Laws.Operation.{numbers-rise, chosen-in, chosen-there}
use Rattle.register.proofs.Laws.Kept.{waiting-same}
use Rattle.register.proofs.Laws.Good.{good-applies}
use Rattle.register.proofs.Laws.Since.{Since, closed-ready, closed-sent}
use Rattle.register.proofs.Laws.Run.{Led, led-fed, next-led}

-- an operation after the sends of a list
unfoldable pub sending_all : List Record → Acknowledged → Acknowledged
sending_all [] a = a
sending_all (q ∷ l) a = sending_all l (sending q.sequence a)

-- whether a list has a record of a number
abbrev pub has_number : ℕ → List Record → Bool
has_number n l = any (λ q. eqb n q.sequence) l

pub all-record : (l : List Record) (a : Acknowledged) → recorded_of (sending_all l a) ≡ recorded_of a
unfolding sending_all
all-record [] a = refl
all-record (q ∷ l) a = all-record l (sending q.sequence a) ∙ send-record q.sequence a

all-sent : (l : List Record) (a : Acknowledged) → is_sent (sending_all l a) ≡ (is_sent a || has_number a.recorded.sequence l)
unfolding sending_all any
all-sent [] a = sym (or-false (is_sent a))
all-sent (q ∷ l) a =
    all-sent l (sending q.sequence a) ∙ (λ i. send-sent q.sequence a i || has_number (send-record q.sequence a i).sequence l)
    ∙ or_assoc (is_sent a) (eqb a.recorded.sequence q.sequence) (has_number a.recorded.sequence l)

pub map-map : (f h : Acknowledged → Acknowledged) (l : List Acknowledged) → map f (map h l) ≡ map (λ a. f (h a)) l
map-map f h [] = refl
map-map f h (a ∷ l) = ap (λ (k : List Acknowledged). f (h a) ∷ k) (map-map f h l)

same_map : (l : List Record) (q : Record) (ops : List Acknowledged) → map (sending_all l) (map (sending q.sequence) ops) ≡ map (sending_all (q ∷ l)) ops
unfolding sending_all
same_map l q ops = map-map (sending_all l) (sending q.sequence) ops

pub no-map : (ops : List Acknowledged) → map (sending_all []) ops ≡ ops
unfolding sending_all
no-map [] = refl
no-map (a ∷ l) = ap (λ (k : List Acknowledged). a ∷ k) (no-map l)

-- a number is among those of what is chosen exactly if the operation of the number is
pub number-chosen : (f : Acknowledged → Bool) (l : List Acknowledged) → Rising (λ a. a.recorded.sequence) l → (a : Acknowledged) → Among a l → has_number a.recorded.sequence (chosen f l) ≡ f a
number-chosen f l rise a m = go (f a) refl (has_number a.recorded.sequence (chosen f l)) refl
  where
    go : (t : Bool) → f a ≡ t → (u : Bool) → has_number a.recorded.sequence (chosen f l) ≡ u → has_number a.recorded.sequence (chosen f l) ≡ f a
    go true e u h = in-any (λ q. eqb a.recorded.sequence q.sequence) (chosen f l) (chosen-there f l a m e) (eq-eqb a.recorded.sequence a.recorded.sequence refl) ∙ sym e
    go false e true h =
        let z = any-in (λ (q : Record). eqb a.recorded.sequence q.sequence) (chosen f l) h in
        let c = chosen-in f l z.0 z.1 in
        let own : a ≡ c.0 = rising-unique recorded_of l rise a c.0 m c.1 (eqb-true _ _ z.2 ∙ ap (λ (r : Record). r.sequence) (sym c.3)) in
        no_both (f a) (ap f own ∙ c.2) e
    go false e false h = h ∙ sym e

-- the effects of an accepted push, and of a cut
pub push-effects : (g : Geometry) (q : ℕ) (x : Model) → (answer_of g (push q) x).returned ≡ 0 → effects_in g (push q) x ≡ send q ∷ []
unfolding effects_of
push-effects g q x e = ap (λ (n : ℕ). cond (eqb n 0) (send q ∷ []) []) e

pub cut-effects : (g : Geometry) (x : Model) → effects_in g cut x ≡ discard ∷ []
unfolding effects_of answer_of
cut-effects g x = refl

push-is : (g : Geometry) (q : ℕ) (x : Model) → answer_of g (push q) x ≡ push_of q x
unfolding answer_of
push-is g q x = refl

cut-is : (g : Geometry) (x : Model) → (answer_of g cut x).returned ≡ 0
unfolding answer_of
cut-is g x = refl

send-operations : (q : ℕ) (r : Register) → (happen_all (send q ∷ []) r).operations ≡ map (sending q) r.operations
unfolding happen_all happen
send-operations q r = refl

cut-operations : (r : Register) → (happen_all (discard ∷ []) r).operations ≡ map (losing r.happened) r.operations
unfolding happen_all happen
cut-operations r = refl

perform-one : (e : Effect) (x : Model) → perform_all (e ∷ []) x ≡ perform e x
unfolding perform_all
perform-one e x = refl

one_more : (m : Moment) (r : Run) → m.answer.returned ≡ 0 → AllAccepted r → AllAccepted (record { moments = m ∷ r.moments; last = r.last })
one_more m r e h n k = ⊎_elim (λ (z : n ≡ m). ap (λ (y : Moment). y.answer.returned) z ∙ e) (λ (z : Memᴰ n r.moments). h n z) (Memᴰ.cases_cons k)

abbrev pushes : List Record → List Call
pushes l = map (λ (q : Record). push q.sequence) l ++ (cut ∷ [])

-- all of a list's calls are accepted, and what the operations are then
pub record Sends (g : Geometry) (s : State) (l : List Record) : Type 0 where
  pub accepted : AllAccepted (run g (map (λ (q : Record). push q.sequence) l ++ (cut ∷ [])) s)
  pub time : ℕ
  pub operations : (run g (map (λ (q : Record). push q.sequence) l ++ (cut ∷ [])) s).last.register.operations ≡ map (losing time) (map (sending_all l) s.register.operations)

module _ (g : Geometry) (v : Volume) where
  -- the push of the first of a list that is ready
  record Pushed (s : State) (x : Model) (q : Record) (l : List Record) : Type 0 where
    accepted : (step g (push q.sequence) s.buffers).gives.returned ≡ 0
    operations : (next g (push q.sequence) s).register.operations ≡ map (sending q.sequence) s.register.operations
    ready : Ready (waiting_of (leaves_of g (push q.sequence) x).log.slots) l

  push-ready : (s : State) (x : Model) → Led g v s x → (q : Record) (l : List Record) → Ready (waiting_of x.log.slots) (q ∷ l) → Pushed s x q l
  unfolding leaves_of
  push-ready s x led q l d =
      let n = q.sequence in
      let f = first-sent g x q l led.good.kept.sound d in
      let fit = good-applies g s.register x led.good q (d.wait q (Memᴰ.head refl)) f.free in
      let yes : (answer_of g (push n) x).returned ≡ 0 = ap (λ (a : Answer). a.returned) (push-is g n x ∙ push-passes n x q f.found f.free fit) in
      let es = push-effects g n x yes in
      record {
        accepted = ap (λ (a : Answer). a.returned) (step-holds g (push n) s.buffers x led.holds).gives ∙ yes;
        operations =
            ap (λ (r : Register). r.operations) (led-fed g v s x led (push n)) ∙ ap (λ (k : List Effect). (happen_all k s.register).operations) es ∙ send-operations n s.register;
        ready = subst (λ (y : Model). Ready (waiting_of y.log.slots) l) (sym (ap (λ (k : List Effect). perform_all k x) es ∙ perform-one (send n) x)) f.ready;
      }

  pub pushes-sent : (l : List Record) (s : State) (x : Model) → Led g v s x → Ready (waiting_of x.log.slots) l → Sends g s l
  unfolding run
  pushes-sent [] s x led d =
      let fed = ap (λ (r : Register). r.operations) (led-fed g v s x led cut) ∙ ap (λ (k : List Effect). (happen_all k s.register).operations) (cut-effects g x) ∙ cut-operations s.register in
      record {
        accepted =
            one_more (record { call = cut; before = s; answer = (step g cut s.buffers).gives }) (run g [] (next g cut s))
            (ap (λ (a : Answer). a.returned) (step-holds g cut s.buffers x led.holds).gives ∙ cut-is g x) (λ m h. absurd (Memᴰ.not-nil h));
        time = s.register.happened;
        operations = fed ∙ ap (map (losing s.register.happened)) (sym (no-map s.register.operations));
      }
  pushes-sent (q ∷ l) s x led d =
      let c = push q.sequence in
      let p = push-ready s x led q l d in
      let rest = pushes-sent l (next g c s) (leaves_of g c x) (next-led g v s x led c) p.ready in
      record {
        accepted = one_more (record { call = c; before = s; answer = (step g c s.buffers).gives }) (run g (pushes l) (next g c s)) p.accepted rest.accepted;
        time = rest.time;
        operations = rest.operations ∙ ap (λ (k : List Acknowledged). map (losing rest.time) (map (sending_all l) k)) p.operations ∙ ap (map (losing rest.time)) (same_map l q s.register.operations);
      }

  -- every set that is closed in a later register could have been sent here
  pub could : (s : State) (x : Model) → Led g v s x → (after : Register) → Since s.register after → (set : ℕ → Bool) → ClosedSet s.register after set → CouldHaveBeenSent g s set
  could s x led after since set closed =
      record {
        accepted = sends.accepted;
        just = λ a h.
            let m₁ = map-in recorded_of (losing sends.time) (map (sending_all l) ops) a (subst (λ (k : List Acknowledged). Among a k) sends.operations h) in
            let m₂ = map-in recorded_of (sending_all l) ops m₁.0 m₁.1 in
            let b = m₂.0 in
            let loss : a.recorded ≡ b.recorded = ap recorded_of m₁.2 ∙ lose-record sends.time m₁.0 ∙ ap recorded_of m₂.2 ∙ all-record l b in
            ap is_sent m₁.2 ∙ lose-sent sends.time m₁.0 ∙ ap is_sent m₂.2 ∙ all-sent l b ∙ member b m₂.1 ∙ ap (λ (r : Record). set r.sequence) (sym loss);
      }
    where
      ops : List Acknowledged
      ops = s.register.operations

      l : List Record
      l = chosen (λ a. set a.recorded.sequence && is_waiting a) s.register.operations

      rise : Rising (λ a. a.recorded.sequence) s.register.operations
      rise = numbers-rise 1 s.register.operations led.good.kept.numbers

      sends : Sends g s (chosen (λ a. set a.recorded.sequence && is_waiting a) s.register.operations)
      sends =
          pushes-sent _ s x led
          (subst (λ (w : List Record). Ready w (chosen (λ a. set a.recorded.sequence && is_waiting a) s.register.operations)) (waiting-same g s.register x led.good.kept) (closed-ready s.register after since led.good.timed rise set closed))

      lost-one : (b : Acknowledged) → is_sent b ≡ false → is_waiting b ≡ false → is_lost b ≡ true
      lost-one b e w = λ i. not (w i || e i)

      member : (b : Acknowledged) → Among b ops → (is_sent b || has_number b.recorded.sequence l) ≡ set b.recorded.sequence
      member b m = go (fate-is b)
        where
          picked : has_number b.recorded.sequence l ≡ (set b.recorded.sequence && is_waiting b)
          picked = number-chosen (λ a. set a.recorded.sequence && is_waiting a) ops rise b m

          go : FateIs b → (is_sent b || has_number b.recorded.sequence l) ≡ set b.recorded.sequence
          go (waits w e) = (λ i. e i || picked i) ∙ ap (λ (t : Bool). set b.recorded.sequence && t) w ∙ and-all (set b.recorded.sequence)
          go (went e w) = ap (λ (t : Bool). t || has_number b.recorded.sequence l) e ∙ sym (closed-sent s.register after since set closed b m e)
          go (gone u f e w) =
              (λ i. e i || picked i) ∙ ap (λ (t : Bool). set b.recorded.sequence && t) w ∙ and_none (set b.recorded.sequence) ∙ sym (closed.added b m (lost-one b e w))
