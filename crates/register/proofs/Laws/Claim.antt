-- The claim on every list of calls, clause by clause.
use Prim.Native.Nat.{ℕ, suc, ◌<◌, ◌≤◌}
use native.Mathlib.Omega.{arith}
use Rattle.std.specs.Prelude.{◌≡◌, ◌↔◌, Bool, true, ◌||◌, eqb}
use Rattle.std.proofs.Math.Path.{refl, sym, ap, subst}
use Rattle.std.proofs.Common.{◌∙◌, ⊎_elim, eq-eqb}
use mathlib.Core.List.{List, [], ◌∷◌, ◌++◌, map, Memᴰ, append-nil, map-append}
use Rattle.std.proofs.Math.Bool.{false, cond}
use Rattle.std.specs.Prelude.{Some}
use Rattle.std.proofs.Math.ListN.{length}
use Rattle.std.proofs.Math.ListN
use Rattle.returned.specs.Returned
use Rattle.record.specs.Operation.{Record}
use Rattle.record.specs.Fields.{encode, valid}
use Rattle.volume_tree.specs.Volume.{Volume}
use Rattle.volume_tree.specs.Stored.{encode_volume}
use Rattle.volume_apply.specs.Apply.{applies, apply}
use Rattle.log_rules.specs.Programs.{holds}
use Rattle.log_rules.specs.Order.{any, before, needed, preceded}
use Rattle.log_rules.proofs.Laws.Order.{Rising, direct-decides}
use Rattle.log_rules.specs.Change.{waiting_of, losses_of}
use Rattle.log_rules.proofs.Laws.Change.{at-waiting, waiting-at, waiting-in-order}
use Rattle.session.specs.Class.{Change}
use Rattle.session.specs.Call.{Geometry, Buffers, Issuer, Call, change, fsync, push, take as take_loss, Answer}
use Rattle.session.specs.Model.{Model, mounted_model, told_of}
use Rattle.log_rules.specs.Sends.{applying}
use Rattle.session.specs.Effect.{Effect, note, send, sends, perform, accepted_effects, refused_effects, effects_of}
use Rattle.session.specs.Step.{answer_of, effects_in, step, mount, decode_model}
use Rattle.session.proofs.Laws.Possible.{Sendable}
use Rattle.session.proofs.Laws.Ready.{Ready, needed-ready, ready-take, first-sent}
use Rattle.session.proofs.Laws.Call.{push-accepted}
use Rattle.session.proofs.Laws.Answer.{Damaged, by_push, by_sync, damaged-why, push-passes, Changes, change-answered, sync-answered, link-answered}
use Rattle.session.proofs.Laws.Step.{step-holds}
use Rattle.register.specs.Replay.{replay}
use Rattle.register.specs.Register.{Register, begun, Acknowledged, is_waiting, is_sent, chosen, sent_in}
use Rattle.register.specs.Feed.{feed, has_object, needed_for, sending}
use Rattle.register.proofs.Laws.Happen.{happen, happen_all}
use Rattle.register.specs.History.{Is, Marked}
use Rattle.register.specs.Run.{State, Moment, Run, next, Mounted, play}
use Rattle.register.specs.Takes.{lost_by, lost_records, fetched_by, Distinct}
use Rattle.register.specs.Claim.{AppliesInTurn, SentAt, Covers, Unpreceded, Registered, Answers, Demand, own_losses}
use Rattle.register.proofs.Laws.Fate.{Among, no_both, or-true, send-sent, send-record}
use Rattle.register.proofs.Laws.Invariant.{Kept, Good}
use Rattle.register.proofs.Laws.Operation.{numbers-rise, in_map}
use Rattle.register.proofs.Laws.Kept.{server-replayed, view-replayed, waiting-same, sent-applies, waiting-logged}
use Rattle.register.proofs.Laws.Good.{good-applies}
use Rattle.register.proofs.Laws.Fed.{needed-same, operations-same}
use Rattle.register.proofs.Laws.Registered.{registered}
use Rattle.register.proofs.Laws.Precedes.{precedes-sent, unpreceded, needs-exact}
use Rattle.register.proofs.Laws.Since.{since-same, since-then, sent-since}
use Rattle.register.proofs.Laws.Fetch.{begun-fetched}
use Rattle.register.proofs.Laws.Take.{refused_none, none_left, takes-fetched, all-fetched}
use Rattle.register.proofs.Laws.Loss.{fetched-distinct, distinct-prefix, decoded-own}
use Rattle.register.proofs.Laws.Run.{Led, effect-kept, led-fed, last_model, run-led, next-since, Met, run-met, Took, run-took, mounted-led, read-once}
use Rattle.register.proofs.Laws.Could.{could}

module _ (g : Geometry) where
  -- all of what is ready applies to the server, one after the other
  pub ready-applies : (l : List Record) (r : Register) (x : Model) → Good g r x → Ready (waiting_of x.log.slots) l → length l ≤ applying l x.server
  unfolding applying
  ready-applies [] r x k d = omega arith
  ready-applies (q ∷ l) r x k d =
      let f = first-sent g x q l k.kept.sound d in
      let fit = good-applies g r x k q (d.wait q (mathlib.Core.List.Memᴰ.head refl)) f.free in
      let can : Sendable x q.sequence q = record { found = f.found; fit = fit; free = f.free } in
      let rest = ready-applies l (happen (send q.sequence) r) (perform (send q.sequence) x) (effect-kept g r x (send q.sequence) k (q, can)) f.ready in
      subst (λ (t : Bool). suc (length l) ≤ cond t (suc (applying l (apply x.server q.operation))) 0) (sym fit) (on (subst (λ (v : Volume). length l ≤ applying l v) f.server rest))
    where
      on : {a b : ℕ} → a ≤ b → suc a ≤ suc b
      on h = omega arith

  -- so no call says that something is damaged
  pub never-damaged : (r : Register) (x : Model) → Good g r x → (c : Call) → (answer_of g c x).returned ≡ Returned.damaged → ⊥
  never-damaged r x k c e = go c (damaged-why g x c e)
    where
      go : (d : Call) → Damaged x d → ⊥
      go d (by_push q z is free fails) =
          no_both (applies x.server z.operation) (good-applies g r x k z (at-waiting q x.log z is).0 free) fails
      go d (by_sync p o j lt) =
          let w = waiting_of x.log.slots in
          let all = ready-applies (ListN.take j (needed o w)) r x k (ready-take w (needed o w) j (needed-ready w o (waiting-in-order g.objects g.blocks g.capacity x.log k.kept.sound.log))) in
          omega arith

-- the effects of an accepted call
pub accepted-effects : (g : Geometry) (c : Call) (x : Model) → (answer_of g c x).returned ≡ 0 → effects_in g c x ≡ accepted_effects c (told_of x)
unfolding effects_of
accepted-effects g c x e = ap (λ (n : ℕ). cond (eqb n 0) (accepted_effects c (told_of x)) (refused_effects c (answer_of g c x) (told_of x))) e

-- what is sent stays sent over further sends
sends-stay : (l : List Record) (r : Register) (q : ℕ) → SentAt r q → SentAt (happen_all (sends l) r) q
unfolding happen_all happen
sends-stay [] r q s = s
sends-stay (z ∷ l) r q (a, m, n, e) =
    sends-stay l (happen (send z.sequence) r) q (
      sending z.sequence a,
      in_map (sending z.sequence) r.operations a m,
      ap (λ (y : Record). y.sequence) (send-record z.sequence a) ∙ n,
      send-sent z.sequence a ∙ ap (λ (t : Bool). t || eqb a.recorded.sequence z.sequence) e,
    )

-- an operation of which a record is sent is sent
sends-send : (l : List Record) (r : Register) (a : Acknowledged) → Is a r → (z : Record) → Memᴰ z l → a.recorded ≡ z → SentAt (happen_all (sends l) r) a.recorded.sequence
unfolding happen_all happen
sends-send [] r a m z k e = absurd (mathlib.Core.List.Memᴰ.not-nil k)
sends-send (y ∷ l) r a m z k e =
    let b = sending y.sequence a in
    let mb = in_map (sending y.sequence) r.operations a m in
    ⊎_elim
    (λ (h : z ≡ y).
    let own : eqb a.recorded.sequence y.sequence ≡ true = eq-eqb _ _ (ap (λ (u : Record). u.sequence) (e ∙ h)) in
    sends-stay l (happen (send y.sequence) r) a.recorded.sequence
    (b, mb, ap (λ (u : Record). u.sequence) (send-record y.sequence a), send-sent y.sequence a ∙ ap (λ (t : Bool). is_sent a || t) own ∙ or-true (is_sent a)))
    (λ (h : Memᴰ z l).
    subst (λ (u : Record). SentAt (happen_all (sends l) (happen (send y.sequence) r)) u.sequence) (send-record y.sequence a)
    (sends-send l (happen (send y.sequence) r) b mb z h (send-record y.sequence a ∙ e)))
    (mathlib.Core.List.Memᴰ.cases_cons k)

module _ (g : Geometry) (v : Volume) where
  -- an accepted fsync sends what it covers
  fsync-sends : (s : State) (x : Model) → Led g v s x → (p o k : ℕ) → (answer_of g (fsync p o k) x).returned ≡ 0 → (a : Acknowledged) → Covers s.register (has_object o) a
      → SentAt (next g (fsync p o k) s).register a.recorded.sequence
  unfolding happen_all happen
  fsync-sends s x l p o k e a c =
      let r = s.register in
      let w = waiting_of x.log.slots in
      let rise = numbers-rise 1 r.operations l.good.kept.numbers in
      let need : Memᴰ a.recorded (needed o w) =
      subst (λ (z : List Record). Memᴰ a.recorded z) (needed-same g r x l.good o) ((needs-exact r l.good.timed rise o a.recorded).1 (a, refl, c)) in
      subst (λ (z : Register). SentAt z a.recorded.sequence) (sym (led-fed g v s x l (fsync p o k) ∙ ap (λ (es : List Effect). happen_all es r) (accepted-effects g (fsync p o k) x e)))
      (sends-send (needed o w) (happen (note p (o ∷ [])) r) a c.acknowledged a.recorded need refl)

  -- what a call answers
  answers : (m : Moment) (r : Run) → Met g v m r → Answers m.before.register m.call m.answer
  unfolding answer_of
  answers m r k =
      record {
        number = λ i d is e o os q. ap (λ (a : Answer). a.results) (same (change i d) is) ∙ (made i d is e).results ∙ ap (λ (n : ℕ). n ∷ []) k.led.good.kept.next;
        some = λ i d is e.
            let c = made i d is e in
            (c.first, c.others, operations-same g m.before.register x k.led.good i d (by (change i d) is 0 e) ∙ c.issued);
        sync = λ p o j is e.
            ap (λ (a : Answer). a.results) (same (fsync p o j) is) ∙ sync-answered p o j x (by (fsync p o j) is 0 e) ∙ ap (λ (l : List Record). length l ∷ []) (sym (need o));
        link = λ p o j is e.
            let a = link-answered p o j x (by (fsync p o j) is Returned.link_lost e) in
            (ap (λ (b : Answer). b.results) (same (fsync p o j) is) ∙ a.0, subst (λ (l : List Record). j < length l) (sym (need o)) a.1);
      }
    where
      x : Model
      x = k.model

      same : (c : Call) → m.call ≡ c → m.answer ≡ answer_of g c k.model
      same c is = k.answer ∙ ap (λ (d : Call). answer_of g d k.model) is

      by : (c : Call) → m.call ≡ c → (n : ℕ) → m.answer.returned ≡ n → (answer_of g c k.model).returned ≡ n
      by c is n e = ap (λ (a : Answer). a.returned) (sym (same c is)) ∙ e

      need : (o : ℕ) → needed_for o m.before.register ≡ needed o (waiting_of k.model.log.slots)
      need o = needed-same g m.before.register k.model k.led.good o

      made : (i : Issuer) (d : Change) → m.call ≡ change i d → m.answer.returned ≡ 0 → Changes g (change i d) k.model
      made i d is e = change-answered g k.model k.led.good.kept.sound i d (by (change i d) is 0 e)

  -- the push of a waiting operation
  push-exact : (s : State) (x : Model) → Led g v s x → (a : Acknowledged) → Is a s.register → is_waiting a ≡ true
      → ((step g (push a.recorded.sequence) s.buffers).gives.returned ≡ 0) ↔ Unpreceded s.register a
  unfolding answer_of
  push-exact s x l a m wa =
      let r = s.register in
      let w = waiting_of x.log.slots in
      let q = a.recorded.sequence in
      let same = waiting-same g r x l.good.kept in
      let u = unpreceded r l.good.timed a m wa in
      let is = (step-holds g (push q) s.buffers x l.holds).gives in
      let there = waiting-logged g r x l.good.kept a m wa in
      let at = waiting-at g.objects g.blocks g.capacity x.log l.good.kept.sound.log there in (
        (λ e.
            let f = push-accepted q x (ap (λ (b : Answer). b.returned) (sym is) ∙ e) in
            let z : Some f.0 ≡ Some a.recorded = sym f.1.found ∙ at in
            let own : f.0 ≡ a.recorded = cc in
            u.0 (ap (λ (k : List Record). preceded k a.recorded) same ∙ direct-decides w a.recorded ∙ ap (λ (y : Record). any (λ b. before b y) w) (sym own) ∙ f.1.free)),
        λ h.
            let free : any (λ b. before b a.recorded) w ≡ false = sym (direct-decides w a.recorded) ∙ ap (λ (k : List Record). preceded k a.recorded) (sym same) ∙ u.1 h in
            ap (λ (b : Answer). b.returned) (is ∙ push-passes q x a.recorded at free (good-applies g r x l.good a.recorded there free)),
      )

-- what stands in the register and the log of a program's losses
fetched-is : (p : ℕ) (r : Register) (slots : List Record) (all : List Record) → chosen (lost_by p) r.operations ≡ all ++ slots → lost_records p r ≡ map encode all ++ map encode slots
fetched-is p r slots all e = ap (map encode) e ∙ map-append encode all slots

pub demand : (g : Geometry) (s : Buffers) (v : Volume) → Mounted g s v → (cs : List Call) → Demand g v (play g s v cs)
demand g s v m cs =
    record {
      replayed =
          ap (λ (y : Buffers). y.server) (sym l.holds.stored)
          ∙ ap (encode_volume g.blocks) (sym (server-replayed g r x kept) ∙ ap (λ (w : Volume). replay w (sent_in r)) l.mounted);
      applied = subst (λ (w : Volume). AppliesInTurn w (sent_in r)) l.mounted (sent-applies g r x kept);
      undamaged = λ n h e. let k = met n h in never-damaged g n.before.register k.model k.led.good n.call (ap (λ (a : Answer). a.returned) (sym k.answer) ∙ e);
      viewed = ap (λ (y : Buffers). y.view) (sym l.holds.stored) ∙ ap (encode_volume g.blocks) (sym (view-replayed g r x kept));
      stored = (x, l.holds.read);
      waits = λ y e. ap (λ (z : Model). waiting_of z.log.slots) (sym (same y e)) ∙ sym (waiting-same g r x kept);
      losses = λ y e p. held p ∙ ap (λ (z : Model). own_losses p (play g s v cs) z) (same y e);
      closed = λ a c ma mc sc pr. precedes-sent r l.good.timed pr ma mc sc;
      needs = λ o q. needs-exact r l.good.timed rise o q;
      covered = λ n h p o k is e a c.
          let t = met n h in
          sent-since (next g n.call n.before).register r t.since a.recorded.sequence
          (subst (λ (d : Call). SentAt (next g d n.before).register a.recorded.sequence) (sym is)
          (fsync-sends g v n.before t.model t.led p o k (ap (λ (d : Call). (answer_of g d t.model).returned) (sym is) ∙ ap (λ (b : Answer). b.returned) (sym t.answer) ∙ e) a c));
      registered = λ n h.
          let t = met n h in
          let r₀ = n.before.register in
          let c = n.call in
          let a = answer_of g c t.model in
          let never : a.returned ≡ Returned.damaged → ⊥ = never-damaged g r₀ t.model t.led.good c in
          subst (λ (b : Answer). Registered r₀ (feed c b r₀) c n.answer) (sym (step-holds g c n.before.buffers t.model t.led.holds).gives)
          (subst (Registered r₀ (feed c a r₀) c) (sym t.answer) (registered g r₀ t.model t.led.good t.led.known c never));
      answered = λ n h. answers g v n (play g s v cs) (met n h);
      pushed = λ a ma wa. push-exact g v (play g s v cs).last x l a ma wa;
      could_have_been_sent = λ n h set c.
          let t = met n h in
          could g v n.before t.model t.led r
          (since-then n.before.register (next g n.call n.before).register r (next-since g v n.before t.model t.led n.call) t.since) set c;
      can_be_sent = λ set c. could g v (play g s v cs).last x l r (since-same r) set c;
      marked = λ y e p lt. subst (λ (z : Model). (holds z.log.head.marks p ≡ true) ↔ Marked r p) (same y e) (l.known.depended.marks p lt);
      fetched = λ p. (map encode (losses_of p x.log.slots), held p);
      fetched_once = λ p. distinct-prefix (fetched_by p (play g s v cs).moments) (map encode (losses_of p x.log.slots)) (subst Distinct (held p) (fetched-distinct r.operations p rise valid-all));
      fetched_all = λ p own e.
          let none = none_left p x.log.slots (refused_none g p own x (ap (λ (a : Answer). a.returned) (sym (step-holds g (take_loss p own) (play g s v cs).last.buffers x l.holds).gives) ∙ e)) in
          sym (held p ∙ ap (λ (k : List Record). fetched_by p (play g s v cs).moments ++ map encode k) none ∙ append-nil (fetched_by p (play g s v cs).moments));
      fetched_count = λ p e. all-fetched (fetched_by p (play g s v cs).moments) (map encode (losses_of p x.log.slots)) (lost_records p r) (held p) (sym e ∙ takes-fetched p (play g s v cs).moments);
      decoded = λ p b h. decoded-own r.operations p valid-all b (subst (λ (k : List (List ℕ)). Memᴰ b k) (sym (held p)) (mathlib.Core.List.Memᴰ.append_left (map encode (losses_of p x.log.slots)) h));
    }
  where
    begin : State
    begin = record { buffers = (mount g s).leaves; register = begun v }

    x : Model
    x = last_model g v cs (mounted_model v)

    l : Led g v (play g s v cs).last x
    l = run-led g v cs begin (mounted_model v) (mounted-led g s v m)

    r : Register
    r = (play g s v cs).last.register

    kept : Kept g r x
    kept = l.good.kept

    rise : Rising (λ a. a.recorded.sequence) r.operations
    rise = numbers-rise 1 r.operations kept.numbers

    valid-all : (a : Acknowledged) → Among a r.operations → valid a.recorded ≡ true
    valid-all a h = (kept.fit a h).0

    met : (n : Moment) → Memᴰ n (play g s v cs).moments → Met g v n (play g s v cs)
    met n h = run-met g v cs begin (mounted_model v) (mounted-led g s v m) n h

    same : (y : Model) → decode_model g (play g s v cs).last.buffers ≡ Some y → x ≡ y
    same y e = read-once g (play g s v cs).last.buffers x y l.holds e

    took : Took g v cs begin (mounted_model v) (λ p. [])
    took = run-took g v cs begin (mounted_model v) (mounted-led g s v m) (λ p. []) begun-fetched

    held : (p : ℕ) → lost_records p r ≡ fetched_by p (play g s v cs).moments ++ map encode (losses_of p x.log.slots)
    held p = fetched-is p r (losses_of p x.log.slots) (took.all p) (took.kept.losses p) ∙ ap (λ (k : List (List ℕ)). k ++ map encode (losses_of p x.log.slots)) (took.told p)
