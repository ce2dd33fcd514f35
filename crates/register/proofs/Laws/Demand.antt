-- The whole claim: every list of calls, two lists, and calls on any buffers.
use Rattle.std.specs.Prelude.{ℕ, zero, suc, ◌<◌, ◌≤◌, ◌≡◌, refl, ◌↔◌, Bool, true, false, ◌&&◌, cond, length, take, drop, get_or, eqb}
use Rattle.std.proofs.Common.{arith, sym, ap, ◌∙◌, subst, take-append-drop, ne_eqb}
use mathlib.Core.List.{List, [], ◌∷◌, ◌++◌, map, Memᴰ, append_assoc}
use Rattle.std.proofs.lemmas.Bool.{false≢true}
use Rattle.std.specs.Prelude.{Option, None, Some}
use Rattle.std.proofs.lemmas.List.{take-append-le}
use Rattle.std.proofs.Math.Seq.{take-length}
use Rattle.session.specs.Told.{Told}
use Rattle.session.proofs.Laws.Refusal.{same_number}
use Rattle.returned.specs.Returned
use Rattle.record.specs.Operation.{Record}
use Rattle.record.specs.Decode.{decode_record}
use Rattle.record.proofs.Laws.Decode.{decode-sound, decode-encoded}
use Rattle.volume_tree.specs.Volume.{Volume}
use Rattle.volume_tree.specs.Stored.{encode_volume, decode_volume}
use Rattle.volume_apply.specs.Apply.{applies, apply}
use Rattle.log_rules.specs.Order.{any, before, needed, preceded, PrecedesIn}
use Rattle.log_rules.proofs.Laws.Order.{Rising, direct-decides, preceded-exact}
use Rattle.log_rules.specs.Change.{waiting_of}
use Rattle.log_rules.proofs.Laws.Change.{waiting-at, waiting-in-order}
use Rattle.session.specs.Class
use Rattle.session.specs.Call.{Geometry, Buffers, Call, question, change, link, recovery, push, fsync, cut, Answer, in_range, lengths_fit}
use Rattle.session.specs.Model.{Model, mounted_model, told_of}
use Rattle.log_rules.specs.Sends.{applying}
use Rattle.session.specs.Send.{sync_answer, fsync_of}
use Rattle.session.specs.Effect.{Effect, note, discard, sends, perform_all, accepted_effects, refused_effects, effects_of}
use Rattle.session.specs.Step.{Stores, answer_of, effects_in, leaves_of, turned_down, encode_model, decode_model, on_model, step, mount}
use Rattle.session.proofs.Laws.Call.{push-accepted, Synced, whole, partly, broken, synced-is, sync-damaged}
use Rattle.session.proofs.Laws.Answer.{refused-plain, push-passes}
use Rattle.session.proofs.Laws.Step.{Holds, model-read, step-holds}
use Rattle.session.proofs.Laws.Ready.{Ready, needed-ready, ready-take}
use Rattle.register.specs.Replay.{replay}
use Rattle.register.specs.Register.{Register, begun, recorded_of}
use Rattle.register.proofs.Laws.Happen.{happen_all}
use Rattle.register.specs.Run.{State, Moment, next, run, Mounted, play}
use Rattle.register.specs.Claim.{AppliesInTurn, Breaks, by_cut, by_fsync, Broken, Determined, Unchanged, Stopped, Demands}
use Rattle.register.proofs.Laws.Operation.{numbers-rise}
use Rattle.register.proofs.Laws.Loss.{AllValid, Settled, discard-settled, same-lost-sent, same-sent-lost, same-records-sent, same-sent-records}
use Rattle.register.proofs.Laws.Run.{Led, led-fed, run-led, last_model, run-met, mounted-led}
use Rattle.register.proofs.Laws.Leaves.{left_of, sends-leave, push-leaves}
use Rattle.register.proofs.Laws.Claim.{demand}

-- the last call of a run is the one that left the last state
run-empty : (g : Geometry) (cs : List Call) (s : State) → (run g cs s).moments ≡ [] → (run g cs s).last ≡ s
unfolding run
run-empty g [] s e = refl
run-empty g (c ∷ cs) s e = let z : ◌≡◌ {A = ℕ} 0 1 = cc in absurd (omega arith)

run-last : (g : Geometry) (cs : List Call) (s : State) (ms : List Moment) (m : Moment) → (run g cs s).moments ≡ ms ++ (m ∷ []) → (run g cs s).last ≡ next g m.call m.before
unfolding run
run-last g [] s [] m e = let z : ◌≡◌ {A = ℕ} 0 1 = cc in absurd (omega arith)
run-last g [] s (n ∷ ms) m e = let z : ◌≡◌ {A = ℕ} 0 1 = cc in absurd (omega arith)
run-last g (c ∷ cs) s [] m e =
    let n : Moment = record { call = c; before = s; answer = (step g c s.buffers).gives } in
    let first : n ≡ m = cc in
    let rest : (run g cs (next g c s)).moments ≡ [] = cc in
    run-empty g cs (next g c s) rest ∙ ap (λ (k : Moment). next g k.call k.before) first
run-last g (c ∷ cs) s (n ∷ ms) m e = let rest : (run g cs (next g c s)).moments ≡ ms ++ (m ∷ []) = cc in run-last g cs (next g c s) ms m rest

-- the effects of a call that breaks the link end in a discard
cut-ends : (g : Geometry) (x : Model) → effects_in g cut x ≡ [] ++ (discard ∷ [])
unfolding effects_of answer_of
cut-ends g x = refl

link-ends : (g : Geometry) (p o k : ℕ) (x : Model) → (answer_of g (fsync p o k) x).returned ≡ Returned.link_lost
    → effects_in g (fsync p o k) x ≡ (note p (o ∷ []) ∷ sends (take k (needed o (waiting_of x.log.slots)))) ++ (discard ∷ [])
unfolding effects_of
link-ends g p o k x e = by (answer_of g (fsync p o k) x).returned e
  where
    need : List Record
    need = needed o (waiting_of x.log.slots)

    by : (n : ℕ) → n ≡ Returned.link_lost
        → cond (eqb n 0) (note p (o ∷ []) ∷ sends need)
        (cond (eqb n 17) (note p (o ∷ []) ∷ (sends (take k need) ++ (discard ∷ []))) (cond (eqb n 2) (sends (take (get_or (answer_of g (fsync p o k) x).results 0 0) need)) []))
        ≡ note p (o ∷ []) ∷ (sends (take k need) ++ (discard ∷ []))
    by n h =
        ap (λ (j : ℕ).
        cond (eqb j 0) (note p (o ∷ []) ∷ sends need)
        (cond (eqb j 17) (note p (o ∷ []) ∷ (sends (take k need) ++ (discard ∷ []))) (cond (eqb j 2) (sends (take (get_or (answer_of g (fsync p o k) x).results 0 0) need)) []))) h

module _ (g : Geometry) (s : Buffers) (v : Volume) (m : Mounted g s v) (cs : List Call) where
  begin : State
  begin = record { buffers = (mount g s).leaves; register = begun v }

  led : Led g v (play g s v cs).last (last_model g v cs (mounted_model v))
  led = run-led g v cs (record { buffers = (mount g s).leaves; register = begun v }) (mounted_model v) (mounted-led g s v m)

  rises : Rising (λ a. a.recorded.sequence) (play g s v cs).last.register.operations
  rises = numbers-rise 1 (play g s v cs).last.register.operations led.good.kept.numbers

  all_valid : AllValid (play g s v cs).last.register.operations
  all_valid a h = (led.good.kept.fit a h).0

  -- after a broken link nothing waits
  broken-settled : Broken (play g s v cs) → Settled (play g s v cs).last.register.operations
  broken-settled b =
      let n = b.moment in
      let h : Memᴰ n (play g s v cs).moments = subst (λ (k : List Moment). Memᴰ n k) (sym b.ends) (mathlib.Core.List.Memᴰ.append_right b.others (mathlib.Core.List.Memᴰ.head refl)) in
      let t = run-met g v cs (record { buffers = (mount g s).leaves; register = begun v }) (mounted_model v) (mounted-led g s v m) n h in
      let last = run-last g cs (record { buffers = (mount g s).leaves; register = begun v }) b.others n b.ends in
      let fed : (play g s v cs).last.register ≡ happen_all (effects_in g n.call t.model) n.before.register =
      ap (λ (y : State). y.register) last ∙ led-fed g v n.before t.model t.led n.call in
      subst (λ (y : Register). Settled y.operations) (sym fed) (ended n t.model (ap (λ (a : Answer). a.returned) (sym t.answer)) b.breaks)
    where
      ended : (n : Moment) (x : Model) → (answer_of g n.call x).returned ≡ n.answer.returned → Breaks n → Settled (happen_all (effects_in g n.call x) n.before.register).operations
      ended n x told (by_cut is) =
          subst (λ (es : List Effect). Settled (happen_all es n.before.register).operations) (sym (ap (λ (c : Call). effects_in g c x) is ∙ cut-ends g x)) (discard-settled [] n.before.register)
      ended n x told (by_fsync p o k is e) =
          subst (λ (es : List Effect). Settled (happen_all es n.before.register).operations)
          (sym (ap (λ (c : Call). effects_in g c x) is ∙ link-ends g p o k x (ap (λ (c : Call). (answer_of g c x).returned) (sym is) ∙ told ∙ e)))
          (discard-settled (note p (o ∷ []) ∷ sends (take k (needed o (waiting_of x.log.slots)))) n.before.register)

-- "Same mounted volume: equal bytes, n and b"
same-mounted : (g h : Geometry) (s t : Buffers) (v w : Volume) → Mounted g s v → Mounted h t w → g.objects ≡ h.objects → g.blocks ≡ h.blocks
    → (mount g s).leaves.server ≡ (mount h t).leaves.server → v ≡ w
same-mounted g h s t v w m k n b bytes = let both : Some v ≡ Some w = sym m.server ∙ (λ i. decode_volume (n i) (b i) (bytes i)) ∙ k.server in cc

pub determined : (g h : Geometry) (s t : Buffers) (v w : Volume) → Mounted g s v → Mounted h t w
    → g.objects ≡ h.objects → g.blocks ≡ h.blocks → (mount g s).leaves.server ≡ (mount h t).leaves.server
    → (cs ds : List Call) → Broken (play g s v cs) → Broken (play h t w ds)
    → map recorded_of (play g s v cs).last.register.operations ≡ map recorded_of (play h t w ds).last.register.operations
    → Determined g h (play g s v cs) (play h t w ds)
determined g h s t v w m k n b bytes cs ds eb fb same =
    let da = demand g s v m cs in
    let db = demand h t w k ds in
    let l = (play g s v cs).last.register.operations in
    let q = (play h t w ds).last.register.operations in
    let ra = rises g s v m cs in
    let rb = rises h t w k ds in
    let sa = broken-settled g s v m cs eb in
    let sb = broken-settled h t w k ds fb in
    record {
      from_lost = same-lost-sent l q ra rb sa sb same;
      from_sent = same-sent-lost l q ra rb sa sb same;
      bytes = λ e. da.replayed ∙ (λ i. encode_volume (b i) (replay (same-mounted g h s t v w m k n b bytes i) (e i))) ∙ sym db.replayed;
      from_fetched = λ x y rx ry f. same-records-sent l q ra rb sa sb same (all_valid g s v m cs) (all_valid h t w k ds) (λ p lt. da.losses x rx p ∙ f p lt ∙ sym (db.losses y ry p));
      to_fetched = λ x y rx ry e p. sym (da.losses x rx p) ∙ same-sent-records l q ra rb sa sb same e p ∙ db.losses y ry p;
    }

-- a waiting operation that applies, on any buffers
pub push-any : (g : Geometry) (s : Buffers) (x : Model) → Stores g s x → (q : Record) → Memᴰ q (waiting_of x.log.slots) → applies x.server q.operation ≡ true
    → ((step g (push q.sequence) s).gives.returned ≡ 0) ↔ ((a : Record) → Memᴰ a (waiting_of x.log.slots) → PrecedesIn (waiting_of x.log.slots) a q → ⊥)
unfolding answer_of
push-any g s x st q m fit =
    let w = waiting_of x.log.slots in
    let h = model-read g s x st in
    let is = (step-holds g (push q.sequence) s x h).gives in
    let at = waiting-at g.objects g.blocks g.capacity x.log h.sound.log m in (
      (λ e a ma pr.
          let f = push-accepted q.sequence x (ap (λ (b : Answer). b.returned) (sym is) ∙ e) in
          let z : Some f.0 ≡ Some q = sym f.1.found ∙ at in
          let own : f.0 ≡ q = cc in
          false≢true (sym (direct-decides w q ∙ ap (λ (y : Record). any (λ b. before b y) w) (sym own) ∙ f.1.free) ∙ (preceded-exact w q).1 (a, ma, pr))),
      λ clear. ap (λ (b : Answer). b.returned) (is ∙ push-passes q.sequence x q at (sym (direct-decides w q) ∙ first (preceded w q) refl clear) fit),
    )
  where
    first : (t : Bool) → preceded (waiting_of x.log.slots) q ≡ t
        → ((a : Record) → Memᴰ a (waiting_of x.log.slots) → PrecedesIn (waiting_of x.log.slots) a q → ⊥) → preceded (waiting_of x.log.slots) q ≡ false
    first true e clear = let z = (preceded-exact (waiting_of x.log.slots) q).0 e in absurd (clear z.0 z.1 z.2)
    first false e clear = e

-- a refused call other than fsync has no effects, and fsync only with 17 and 2
no-effects : (g : Geometry) (c : Call) (x : Model) → ((answer_of g c x).returned ≡ 0 → ⊥) → ((answer_of g c x).returned ≡ Returned.link_lost → ⊥)
    → ((answer_of g c x).returned ≡ Returned.damaged → (p o k : ℕ) → c ≡ fsync p o k → ⊥) → effects_in g c x ≡ []
unfolding effects_of
no-effects g c x n l d = ap (λ (b : Bool). cond b (accepted_effects c w) (refused_effects c (answer_of g c x) w)) (ne_eqb _ 0 n) ∙ none c refl (answer_of g c x) l d
  where
    w : Told
    w = told_of x

    none : (e : Call) → c ≡ e → (a : Answer) → (a.returned ≡ Returned.link_lost → ⊥) → (a.returned ≡ Returned.damaged → (p o k : ℕ) → e ≡ fsync p o k → ⊥) → refused_effects e a w ≡ []
    none (question p q) is a l d = refl
    none (change i c) is a l d = refl
    none (link (Class.push q)) is a l d = refl
    none (link (Class.fsync p o k)) is a l d =
        (λ i. cond (ne_eqb a.returned 17 l i) (note p (o ∷ []) ∷ (sends (take k (needed o w.waiting)) ++ (discard ∷ []))) (cond (ne_eqb a.returned 2 (λ z. d z p o k refl) i) (sends (take (get_or a.results 0 0) (needed o w.waiting))) []))
    none (link Class.cut) is a l d = refl
    none (recovery p t) is a l d = refl

pub refused-unchanged : (g : Geometry) (c : Call) (s : Buffers) → ((step g c s).gives.returned ≡ 0 → ⊥) → ((step g c s).gives.returned ≡ Returned.link_lost → ⊥)
    → ((step g c s).gives.returned ≡ Returned.damaged → (x : Model) → Stores g s x → (p o k : ℕ) → c ≡ fsync p o k → ⊥) → Unchanged c s (step g c s)
unfolding step leaves_of perform_all
refused-unchanged g c s n l d = go (in_range g) (lengths_fit g s) (decode_model g s) refl refl refl n l d
  where
    plain : (k : ℕ) → Unchanged c s (turned_down k c s)
    plain k = record { buffers = refl; results = refl; own = refl }

    go : (r f : Bool) (e : Option Model) → in_range g ≡ r → lengths_fit g s ≡ f → decode_model g s ≡ e
        → ((cond (r && f) (on_model g c s e) (turned_down Returned.wrong_buffer c s)).gives.returned ≡ 0 → ⊥)
        → ((cond (r && f) (on_model g c s e) (turned_down Returned.wrong_buffer c s)).gives.returned ≡ Returned.link_lost → ⊥)
        → ((cond (r && f) (on_model g c s e) (turned_down Returned.wrong_buffer c s)).gives.returned ≡ Returned.damaged → (x : Model) → Stores g s x → (p o k : ℕ) → c ≡ fsync p o k → ⊥)
        → Unchanged c s (cond (r && f) (on_model g c s e) (turned_down Returned.wrong_buffer c s))
    go false f e hr hf he n l d = plain Returned.wrong_buffer
    go true false e hr hf he n l d = plain Returned.wrong_buffer
    go true true None hr hf he n l d = plain Returned.damaged
    go true true (Some x) hr hf he n l d =
        let st : Stores g s x = record { range = hr; lengths = hf; read = he } in
        let h = model-read g s x st in
        let second : (answer_of g c x).returned ≡ Returned.damaged → (p o k : ℕ) → c ≡ fsync p o k → ⊥ = λ e. d e x st in
        let p = refused-plain g x c n l second in
        record {
          buffers = ap (λ (es : List Effect). encode_model g (perform_all es x)) (no-effects g c x n l second) ∙ h.stored;
          results = p.results;
          own = p.own;
        }

-- where not all of a list apply, one does not, and those before it do
record Split (l : List Record) (v : Volume) : Type 0 where
  before : List Record
  bad : Record
  after : List Record
  among : l ≡ before ++ (bad ∷ after)
  count : length before ≡ applying l v
  applied : AppliesInTurn v before
  fails : applies (replay v before) bad.operation ≡ false

none-in-turn : (v : Volume) → AppliesInTurn v []
none-in-turn v [] after r e = let z : ◌≡◌ {A = ℕ} 0 1 = cc in absurd (omega arith)
none-in-turn v (b ∷ before) after r e = let z : ◌≡◌ {A = ℕ} 0 1 = cc in absurd (omega arith)

one-in-turn : (v : Volume) (q : Record) (l : List Record) → applies v q.operation ≡ true → AppliesInTurn (apply v q.operation) l → AppliesInTurn v (q ∷ l)
unfolding replay
one-in-turn v q l fit t [] after r e = let z : q ≡ r = cc in subst (λ (y : Record). applies v y.operation ≡ true) z fit
one-in-turn v q l fit t (b ∷ before) after r e =
    let z : q ≡ b = cc in
    let rest : l ≡ before ++ (r ∷ after) = cc in
    subst (λ (y : Record). applies (replay (cond (applies v y.operation) (apply v y.operation) v) before) r.operation ≡ true) z
    (subst (λ (c : Bool). applies (replay (cond c (apply v q.operation) v) before) r.operation ≡ true) (sym fit) (t before after r rest))

split : (l : List Record) (v : Volume) → applying l v < length l → Split l v
unfolding applying replay
split [] v h = absurd (omega arith)
split (q ∷ l) v h = go (applies v q.operation) refl h (split l (apply v q.operation))
  where
    go : (t : Bool) → applies v q.operation ≡ t → cond t (suc (applying l (apply v q.operation))) 0 < suc (length l)
        → (applying l (apply v q.operation) < length l → Split l (apply v q.operation)) → Split (q ∷ l) v
    go true e k rest =
        let s = rest (omega arith) in
        let n = s.count in
        record {
          before = q ∷ s.before;
          bad = s.bad;
          after = s.after;
          among = ap (λ (z : List Record). q ∷ z) s.among;
          count = ap suc n ∙ sym (ap (λ (t : Bool). cond t (suc (applying l (apply v q.operation))) 0) e);
          applied = one-in-turn v q s.before e s.applied;
          fails = ap (λ (t : Bool). applies (replay (cond t (apply v q.operation) v) s.before) s.bad.operation) e ∙ s.fails;
        }
    go false e k rest =
        record {
          before = [];
          bad = q;
          after = l;
          among = refl;
          count = sym (ap (λ (t : Bool). cond t (suc (applying l (apply v q.operation))) 0) e);
          applied = none-in-turn v;
          fails = e;
        }

take_short : (k : ℕ) (l : List Record) → length (take k l) ≤ k
take_short zero l = omega arith
take_short (suc k) [] = omega arith
take_short (suc k) (r ∷ l) = let h = take_short k l in omega arith

-- the effects of an fsync that stops: the sends of as many as it reports
stopped-effects : (g : Geometry) (p o k j : ℕ) (x : Model) → (answer_of g (fsync p o k) x).returned ≡ Returned.damaged → (answer_of g (fsync p o k) x).results ≡ j ∷ []
    → effects_in g (fsync p o k) x ≡ sends (take j (needed o (waiting_of x.log.slots)))
unfolding effects_of
stopped-effects g p o k j x e told = (λ i. cond (eqb (e i) 0) whole (cond (eqb (e i) 17) cut_off (cond (eqb (e i) 2) (sends (take (get_or (told i) 0 0) need)) [])))
  where
    need : List Record
    need = needed o (waiting_of x.log.slots)

    whole : List Effect
    whole = note p (o ∷ []) ∷ sends (needed o (waiting_of x.log.slots))

    cut_off : List Effect
    cut_off = note p (o ∷ []) ∷ (sends (take k (needed o (waiting_of x.log.slots))) ++ (discard ∷ []))

pub stopped-before : (g : Geometry) (s : Buffers) (x : Model) → Stores g s x → (p o k : ℕ) → (step g (fsync p o k) s).gives.returned ≡ Returned.damaged
    → Stopped g k x (needed o (waiting_of x.log.slots)) (step g (fsync p o k) s)
unfolding answer_of leaves_of
stopped-before g s x st p o k e = go (synced-is k need x.server)
  where
    need : List Record
    need = needed o (waiting_of x.log.slots)

    held : Holds g s x
    held = model-read g s x st

    is : (step g (fsync p o k) s).gives ≡ fsync_of p o k x
    is = (step-holds g (fsync p o k) s x (model-read g s x st)).gives

    same : (step g (fsync p o k) s).gives ≡ sync_answer k need x.server
    same = is ∙ (sync-damaged p o k x (ap (λ (a : Answer). a.returned) (sym is) ∙ e)).answer

    -- what is left where those before the bad one are the first of what it needs
    left : (before after : List Record) (bad : Record) → need ≡ before ++ (bad ∷ after) → AppliesInTurn x.server before → (step g (fsync p o k) s).gives.results ≡ length before ∷ []
        → (step g (fsync p o k) s).leaves ≡ encode_model g (left_of before x)
    left before after bad among turn told =
        let w = waiting_of x.log.slots in
        let first : take (length before) need ≡ before = ap (take (length before)) among ∙ take-append-le (length before) before (bad ∷ after) (omega arith) ∙ take-length before in
        let ready = needed-ready w o (waiting-in-order g.objects g.blocks g.capacity x.log held.sound.log) in
        let es = stopped-effects g p o k (length before) x (ap (λ (a : Answer). a.returned) (sym is) ∙ e) (ap (λ (a : Answer). a.results) (sym is) ∙ told) ∙ ap sends first in
        sym (step-holds g (fsync p o k) s x held).holds.stored
        ∙ ap (λ (l : List Effect). encode_model g (perform_all l x)) es
        ∙ ap (encode_model g) (sends-leave g before x held.sound (subst (Ready w) first (ready-take w need (length before) ready)) turn)

    go : Synced k need x.server (sync_answer k need x.server) → Stopped g k x need (step g (fsync p o k) s)
    go (whole le all z) = let y : ◌≡◌ {A = ℕ} 0 2 = same_number (same ∙ z) e in absurd (omega arith)
    go (partly lt all z) = let y : ◌≡◌ {A = ℕ} 17 2 = same_number (same ∙ z) e in absurd (omega arith)
    go (broken lt z) =
        let t = split (take k need) x.server lt in
        let n = t.count in
        let short = take_short k need in
        let among = sym (take-append-drop k need) ∙ ap (λ (y : List Record). y ++ drop k need) t.among ∙ append_assoc t.before (t.bad ∷ t.after) (drop k need) in
        let told = ap (λ (b : Answer). b.results) (same ∙ z) ∙ ap (λ (j : ℕ). j ∷ []) (sym n) in
        record {
          before = t.before;
          bad = t.bad;
          after = t.after ++ drop k need;
          among = among;
          carried = omega arith;
          applied = t.applied;
          fails = t.fails;
          told = told;
          leaves = left t.before (t.after ++ drop k need) t.bad among t.applied told;
        }

-- the demands
pub demands : Demands
demands =
    record {
      lists = λ g s v m cs. demand g s v m cs;
      determined = λ g h s t v w m k n b bytes cs ds eb fb same. determined g h s t v w m k n b bytes cs ds eb fb same;
      pushed = λ g s x st q m fit. push-any g s x st q m fit;
      unchanged = λ g c s n l d. refused-unchanged g c s n l d;
      stopped = λ g s x st p o k e. stopped-before g s x st p o k e;
      sends = λ g s x st q e. push-leaves g s x st q e;
      read = λ s q. ((λ e. decode-sound s q e), λ h. ap decode_record h.1.1 ∙ decode-encoded q h.1.0 h.0);
    }
