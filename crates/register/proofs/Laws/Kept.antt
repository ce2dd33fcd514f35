-- What is kept tells the server and the view from the register; and it is kept over each effect.
use Rattle.std.specs.Prelude.{ℕ, ◌+◌, ◌<◌, ◌≡◌, Bool, false, not, ◌&&◌, cond, eqb}
use Rattle.std.proofs.Common.{arith, ◌∙◌, length-append, eqb-true, eq-eqb, ne_eqb, lt-ltb}
use Rattle.std.proofs.Math.Path.{refl, sym, ap, subst}
use Rattle.std.proofs.Math.Logic.{⊎_elim}
use mathlib.Core.List.Memᴰ
use mathlib.Core.List.{List, [], ◌∷◌, ◌++◌, map, Memᴰ, append-nil}
use Rattle.std.proofs.Math.Bool.{true}
use Rattle.std.specs.Prelude.{Some}
use Rattle.buffer.specs.Laws.Test.{or_cases}
use Rattle.record.specs.Operation.{Operation, Record, record_of}
use Rattle.record.specs.Fields.{valid, fits}
use Rattle.volume_tree.specs.Volume.{Volume}
use Rattle.volume_apply.specs.Apply.{applies, apply}
use Rattle.log_rules.specs.Order.{directly_precedes, any, before}
use Rattle.log_rules.proofs.Laws.Order.{Rising, InOrder, any_none}
use Rattle.log_rules.proofs.Laws.Swap.{swap}
use Rattle.log_rules.proofs.Laws.Slot.{formed-inv}
use Rattle.log_rules.specs.Change
use Rattle.log_rules.specs.Change.{waiting_of}
use Rattle.log_rules.proofs.Laws.Change.{sent-waiting, waiting-at, waiting-in-order, discard-waiting, issue-waiting}
use Rattle.log_rules.proofs.Laws.Partition.{apply_each, EachApplies, AllFit, picked, picked-yes, picked-no, picked-in, Closed, partition}
use Rattle.session.specs.Call.{Geometry}
use Rattle.session.specs.Model.{Model, with_view, with_log}
use Rattle.session.specs.Effect.{sent_found}
use Rattle.session.proofs.Laws.Possible.{Sound, Issuable}
use Rattle.session.proofs.Laws.Issue.{record-good}
use Rattle.register.specs.Replay.{replay}
use Rattle.register.specs.Register.{Register, Acknowledged, is_waiting, is_sent, sent_in, waiting_in, view_of, with_operations, later, recorded_of}
use Rattle.register.specs.Feed.{sending, losing, acknowledged}
use Rattle.register.specs.Claim.{AppliesInTurn}
use Rattle.register.proofs.Laws.Fate.{Among, is_live, waits-not-sent, sent-live, waiting-live, live-waits, send-record, send-sent, send-waiting, send-live, lose-record, lose-waiting, lose-sent, lose-live}
use Rattle.register.proofs.Laws.Invariant.{Kept}
use Rattle.register.proofs.Laws.Operation.{numbers-rise, numbers-map, numbers-end, map-record, length-map, record-in, chosen-picked, waits-of}
use Rattle.register.proofs.Laws.Pick.{picked_none, picked_same, picked-map, picked-twice, picked-append, apply-map, turn-map, fit-map, closed-map, closed_same, closed_all, closed-end, apply-append, turn-append}
use Rattle.register.proofs.Laws.Send.{rising-unique, adding, in-picked, there-picked, OneMore, one_more}

-- what is picked rises as the list does
pub rise-picked : {A : Type 0} (key : A → ℕ) (f : A → Bool) (l : List A) → Rising key l → Rising key (picked f l)
unfolding picked
rise-picked key f [] r = tt
rise-picked key f (a ∷ l) r = go (f a) (rise-picked key f l r.1)
  where
    go : (t : Bool) → Rising key (picked f l) → Rising key (cond t (a ∷ picked f l) (picked f l))
    go true ih = ((λ b m. r.0 b (picked-in f l b m)), ih)
    go false ih = ih

nothing-picked : (l : List Acknowledged) → picked (λ a. false) l ≡ []
unfolding picked
nothing-picked [] = refl
nothing-picked (a ∷ l) = nothing-picked l

map-end : (l : List Acknowledged) (a : Acknowledged) → map recorded_of (l ++ (a ∷ [])) ≡ map recorded_of l ++ (a.recorded ∷ [])
map-end [] a = refl
map-end (b ∷ l) a = ap (λ (x : List Record). b.recorded ∷ x) (map-end l a)

-- the records of what a test on records picks besides
picked-records : (f : Acknowledged → Bool) (k : Record → Bool) (l : List Acknowledged) → map recorded_of (picked (λ a. f a && k a.recorded) l) ≡ picked k (map recorded_of (picked f l))
unfolding picked
picked-records f k [] = refl
picked-records f k (a ∷ l) = go (f a) (k a.recorded) refl (picked-records f k l)
  where
    go : (s t : Bool) → k a.recorded ≡ t → map recorded_of (picked (λ b. f b && k b.recorded) l) ≡ picked k (map recorded_of (picked f l))
        → map recorded_of (cond (s && t) (a ∷ picked (λ b. f b && k b.recorded) l) (picked (λ b. f b && k b.recorded) l)) ≡ picked k (map recorded_of (cond s (a ∷ picked f l) (picked f l)))
    go true true e ih = ap (λ (x : List Record). a.recorded ∷ x) ih ∙ sym (picked-yes k a.recorded (map recorded_of (picked f l)) e)
    go true false e ih = ih ∙ sym (picked-no k a.recorded (map recorded_of (picked f l)) e)
    go false t e ih = ih

-- a list in rising order less the one of a number
all-kept : (q : ℕ) (l : List Record) → ((r : Record) → Memᴰ r l → r.sequence ≡ q → ⊥) → picked (λ r. not (eqb r.sequence q)) l ≡ l
unfolding picked
all-kept q [] h = refl
all-kept q (r ∷ l) h =
    let e : eqb r.sequence q ≡ false = ne_eqb _ _ (h r (Memᴰ.head refl)) in
    picked-yes (λ s. not (eqb s.sequence q)) r l (ap not e) ∙ ap (λ (x : List Record). r ∷ x) (all-kept q l (λ s m. h s (Memᴰ.tail m)))

less_one : (u v : List Record) (r : Record) → InOrder (u ++ (r ∷ v)) → picked (λ s. not (eqb s.sequence r.sequence)) (u ++ (r ∷ v)) ≡ u ++ v
less_one [] v r rise =
    picked-no (λ s. not (eqb s.sequence r.sequence)) r v (ap not (eq-eqb r.sequence r.sequence refl))
    ∙ all-kept r.sequence v (λ s m e. let lt = rise.0 s m in omega arith)
less_one (s ∷ u) v r rise =
    let lt = rise.0 r (Memᴰ.append_right u (Memᴰ.head refl)) in
    let e : eqb s.sequence r.sequence ≡ false = ne_eqb s.sequence r.sequence (λ k. omega arith) in
    picked-yes (λ t. not (eqb t.sequence r.sequence)) s (u ++ (r ∷ v)) (ap not e) ∙ ap (λ (x : List Record). s ∷ x) (less_one u v r rise.1)

-- a replay in which each applies passes over none
pub replay-all : (v : Volume) (l : List Acknowledged) → EachApplies recorded_of v l → replay v (map recorded_of l) ≡ apply_each recorded_of v l
unfolding replay apply_each
replay-all v [] t = refl
replay-all v (a ∷ l) t =
    ap (λ (b : Bool). replay (cond b (apply v a.recorded.operation) v) (map recorded_of l)) t.0 ∙ replay-all (apply v a.recorded.operation) l t.1

-- what applies in turn applies to the replay of those before it
pub turn-split : (v : Volume) (l : List Acknowledged) → EachApplies recorded_of v l → AppliesInTurn v (map recorded_of l)
unfolding replay
turn-split v [] t [] after r e = let z : ◌≡◌ {A = ℕ} 0 1 = cc in absurd (omega arith)
turn-split v [] t (b ∷ before) after r e = let z : ◌≡◌ {A = ℕ} 0 1 = cc in absurd (omega arith)
turn-split v (a ∷ l) t [] after r e = let z : a.recorded ≡ r = cc in subst (λ (y : Record). applies v y.operation ≡ true) z t.0
turn-split v (a ∷ l) t (b ∷ before) after r e =
    let z : a.recorded ≡ b = cc in
    let w : map recorded_of l ≡ before ++ (r ∷ after) = cc in
    let ih = turn-split (apply v a.recorded.operation) l t.1 before after r w in
    let fits : applies v b.operation ≡ true = subst (λ (y : Record). applies v y.operation ≡ true) z t.0 in
    let on : replay (cond (applies v b.operation) (apply v b.operation) v) before ≡ replay (apply v a.recorded.operation) before =
    ap (λ (t : Bool). replay (cond t (apply v b.operation) v) before) fits ∙ ap (λ (y : Record). replay (apply v y.operation) before) (sym z) in
    ap (λ (y : Volume). applies y r.operation) on ∙ ih

-- an operation that waits and that no waiting one directly precedes
pub record Free (ops : List Acknowledged) (a : Acknowledged) : Type 0 where
  pub among : Among a ops
  pub waiting : is_waiting a ≡ true
  pub clear :
      (w : Acknowledged) → Among w ops → is_waiting w ≡ true → w.recorded.sequence < a.recorded.sequence
      → directly_precedes w.recorded.operation a.recorded.operation ≡ false

module _ (g : Geometry) (r : Register) (x : Model) (k : Kept g r x) where
  sent-live-same : picked is_sent (picked is_live r.operations) ≡ picked is_sent r.operations
  sent-live-same = picked-twice is_sent is_live r.operations (λ c mc e. sent-live c e)

  -- the sent ones apply in turn by themselves
  pub sent-turn : EachApplies recorded_of r.mounted (picked is_sent r.operations)
  sent-turn =
      let live = picked is_live r.operations in
      let fit : AllFit recorded_of g.objects g.blocks live = λ c m. k.fit c (picked-in is_live r.operations c m) in
      let p = partition recorded_of g.objects g.blocks (swap g.objects g.blocks) is_sent live r.mounted k.mounted fit k.closed k.turn in
      subst (EachApplies recorded_of r.mounted) sent-live-same p.part

  -- the server is the replay of the sent ones
  pub server-replayed : replay r.mounted (sent_in r) ≡ x.server
  server-replayed = ap (replay r.mounted) (chosen-picked is_sent r.operations) ∙ replay-all r.mounted (picked is_sent r.operations) sent-turn ∙ sym k.server

  -- the view is the replay of the sent and waiting ones
  pub view-replayed : view_of r ≡ x.view
  unfolding view_of
  view-replayed = ap (replay r.mounted) (chosen-picked is_live r.operations) ∙ replay-all r.mounted (picked is_live r.operations) k.turn ∙ sym k.view

  -- what waits in the register waits in the log
  pub waiting-same : waiting_in r ≡ waiting_of x.log.slots
  waiting-same = chosen-picked is_waiting r.operations ∙ sym k.waiting

  -- each sent one applies where it stands in the replay
  pub sent-applies : AppliesInTurn r.mounted (sent_in r)
  sent-applies = subst (AppliesInTurn r.mounted) (sym (chosen-picked is_sent r.operations)) (turn-split r.mounted (picked is_sent r.operations) sent-turn)

  -- a waiting operation of the register is found in the log
  pub waiting-logged : (a : Acknowledged) → Among a r.operations → is_waiting a ≡ true → Memᴰ a.recorded (waiting_of x.log.slots)
  waiting-logged a m w = subst (Memᴰ a.recorded) (sym k.waiting) (record-in (picked is_waiting r.operations) a (there-picked recorded_of is_waiting r.operations a m w))

  -- a waiting record that none of the waiting ones directly precedes, as an operation of the register
  pub free_of : (q : Record) → Memᴰ q (waiting_of x.log.slots) → any (λ a. before a q) (waiting_of x.log.slots) ≡ false
      → (a : Acknowledged) × (a.recorded ≡ q) × Free r.operations a
  free_of q m none =
      let w = waits-of r.operations q (subst (Memᴰ q) k.waiting m) in
      let clear : (c : Acknowledged) → Among c r.operations → is_waiting c ≡ true → c.recorded.sequence < q.sequence → directly_precedes c.recorded.operation q.operation ≡ false =
      λ c mc wc lt.
      ap (λ (b : Bool). b && directly_precedes c.recorded.operation q.operation) (sym (lt-ltb _ _ lt)) ∙ any_none (λ a. before a q) (waiting_of x.log.slots) none c.recorded (waiting-logged c mc wc) in (
        w.who,
        w.recorded,
        record {
          among = w.among;
          waiting = w.waiting;
          clear =
              subst
              (λ (z : Record). (c : Acknowledged) → Among c r.operations → is_waiting c ≡ true → c.recorded.sequence < z.sequence → directly_precedes c.recorded.operation z.operation ≡ false)
              (sym w.recorded) clear;
        },
      )

  -- such an operation is one more to be sent
  free_more : (a : Acknowledged) → Free r.operations a → OneMore recorded_of r.mounted is_sent (picked is_live r.operations) a
  free_more a f =
      let n = g.objects in
      let b = g.blocks in
      let ops = r.operations in
      one_more recorded_of n b (swap n b) r.mounted is_sent (picked is_live ops) a k.mounted (λ c mc. k.fit c (picked-in is_live ops c mc)) k.turn k.closed
      (rise-picked (λ c. c.recorded.sequence) is_live ops (numbers-rise 1 ops k.numbers)) (there-picked recorded_of is_live ops a f.among (waiting-live a f.waiting))
      (waits-not-sent a f.waiting) (λ w mw fw lt. f.clear w (picked-in is_live ops w mw) (live-waits w (in-picked recorded_of is_live ops w mw) fw) lt)

  server-live : x.server ≡ apply_each recorded_of r.mounted (picked is_sent (picked is_live r.operations))
  server-live = k.server ∙ ap (apply_each recorded_of r.mounted) (sym sent-live-same)

  -- and it applies to the server
  pub free-applies : (a : Acknowledged) → Free r.operations a → applies x.server a.recorded.operation ≡ true
  free-applies a f = ap (λ (v : Volume). applies v a.recorded.operation) server-live ∙ (free_more a f).fit

  -- an effect that sends, issues and discards nothing
  pub same_kept : (y : Model) → Sound g y → y.server ≡ x.server → y.view ≡ x.view → y.log.head.next ≡ x.log.head.next
      → waiting_of y.log.slots ≡ waiting_of x.log.slots → Kept g r y
  same_kept y sound es ev en ew =
      record {
        sound = sound;
        mounted = k.mounted;
        numbers = k.numbers;
        next = en ∙ k.next;
        fit = k.fit;
        turn = k.turn;
        view = ev ∙ k.view;
        server = es ∙ k.server;
        closed = k.closed;
        waiting = ew ∙ k.waiting;
      }

  -- a change of fates, told by what it leaves live, sent and waiting
  module _ (h : Acknowledged → Acknowledged) (same : (a : Acknowledged) → recorded_of (h a) ≡ recorded_of a) (y : Model) where
    fates-kept : Sound g y → y.log.head.next ≡ x.log.head.next
        → EachApplies recorded_of r.mounted (picked (λ c. is_live (h c)) r.operations)
        → y.view ≡ apply_each recorded_of r.mounted (picked (λ c. is_live (h c)) r.operations)
        → y.server ≡ apply_each recorded_of r.mounted (picked (λ c. is_sent (h c)) r.operations)
        → Closed recorded_of (λ c. is_sent (h c)) (picked (λ c. is_live (h c)) r.operations)
        → waiting_of y.log.slots ≡ map recorded_of (picked (λ c. is_waiting (h c)) r.operations)
        → Kept g (later (with_operations (map h r.operations) r)) y
    fates-kept sound en turn view server closed waiting =
        let ops = r.operations in
        let v = r.mounted in
        let live : picked is_live (map h ops) ≡ map h (picked (λ c. is_live (h c)) ops) = picked-map is_live h ops in
        let all : (l : List Acknowledged) → apply_each recorded_of v l ≡ apply_each recorded_of v (map h l) = λ l. sym (apply-map recorded_of h same v l) in
        record {
          sound = sound;
          mounted = k.mounted;
          numbers = numbers-map h same 1 ops k.numbers;
          next = en ∙ k.next ∙ ap (λ (z : ℕ). z + 1) (sym (length-map h ops));
          fit = fit-map recorded_of g.objects g.blocks h same ops k.fit;
          turn = subst (EachApplies recorded_of v) (sym live) (turn-map recorded_of h same v (picked (λ c. is_live (h c)) ops) turn);
          view = view ∙ all (picked (λ c. is_live (h c)) ops) ∙ ap (apply_each recorded_of v) (sym live);
          server = server ∙ all (picked (λ c. is_sent (h c)) ops) ∙ ap (apply_each recorded_of v) (sym (picked-map is_sent h ops));
          closed = subst (Closed recorded_of is_sent) (sym live) (closed-map recorded_of is_sent h same (picked (λ c. is_live (h c)) ops) closed);
          waiting = waiting ∙ sym (ap (map recorded_of) (picked-map is_waiting h ops) ∙ map-record h same (picked (λ c. is_waiting (h c)) ops));
        }

  -- the send of a waiting operation that no waiting one directly precedes
  pub send-kept : (a : Acknowledged) → Free r.operations a → Sound g (sent_found (Some a.recorded) x)
      → Kept g (later (with_operations (map (sending a.recorded.sequence) r.operations) r)) (sent_found (Some a.recorded) x)
  send-kept a f sound =
      let ops = r.operations in
      let v = r.mounted in
      let q = a.recorded.sequence in
      let h = sending a.recorded.sequence in
      let more = adding recorded_of is_sent a.recorded.sequence in
      let one = free_more a f in
      let own : (c : Acknowledged) → Among c ops → eqb c.recorded.sequence q ≡ true → is_waiting c ≡ true =
      λ c mc e. subst (λ (y : Acknowledged). is_waiting y ≡ true) (rising-unique recorded_of ops (numbers-rise 1 ops k.numbers) a c f.among mc (sym (eqb-true _ _ e))) f.waiting in
      let live : picked is_live ops ≡ picked (λ c. is_live (h c)) ops = picked_same is_live (λ c. is_live (h c)) ops (λ c mc. sym (send-live q c (own c mc))) in
      let sent-all : picked more (picked is_live ops) ≡ picked (λ c. is_sent (h c)) ops =
      picked-twice more is_live ops (λ c mc e. ⊎_elim (sent-live c) (λ z. waiting-live c (own c mc z)) (or_cases (is_sent c) (eqb c.recorded.sequence q) e))
      ∙ picked_same more (λ c. is_sent (h c)) ops (λ c mc. sym (send-sent q c)) in
      let wl = waiting_of x.log.slots in
      let log = k.sound.log in
      let cut = sent-waiting q x.log a.recorded (waiting-at g.objects g.blocks g.capacity x.log log (waiting-logged a f.among f.waiting)) in
      let order = subst InOrder cut.2 (waiting-in-order g.objects g.blocks g.capacity x.log log) in
      let others : Record → Bool = λ z. not (eqb z.sequence q) in
      let left : map recorded_of (picked (λ c. is_waiting (h c)) ops) ≡ picked others wl =
      ap (map recorded_of) (picked_same (λ c. is_waiting (h c)) (λ c. is_waiting c && others c.recorded) ops (λ c mc. send-waiting q c))
      ∙ picked-records is_waiting others ops ∙ ap (picked others) (sym k.waiting) in
      fates-kept h (send-record q) (sent_found (Some a.recorded) x) sound refl
      (subst (EachApplies recorded_of v) live k.turn)
      (k.view ∙ ap (apply_each recorded_of v) live)
      (ap (λ (w : Volume). apply w a.recorded.operation) server-live ∙ one.after ∙ ap (apply_each recorded_of v) sent-all)
      (subst (Closed recorded_of (λ c. is_sent (h c))) live (closed_same recorded_of more (λ c. is_sent (h c)) (picked is_live ops) (λ c mc. sym (send-sent q c)) one.still))
      (cut.3 ∙ sym (left ∙ ap (picked others) cut.2 ∙ less_one cut.0 cut.1 a.recorded order))

  -- all waiting ones become lost, and the view shows the server
  pub cut-kept : (t : ℕ) → Sound g (with_view x.server (with_log (Change.discard x.log) x))
      → Kept g (later (with_operations (map (losing t) r.operations) r)) (with_view x.server (with_log (Change.discard x.log) x))
  unfolding Change.discard
  cut-kept t sound =
      let ops = r.operations in
      let v = r.mounted in
      let h = losing t in
      let live : picked is_sent ops ≡ picked (λ c. is_live (h c)) ops = picked_same is_sent (λ c. is_live (h c)) ops (λ c m. sym (lose-live t c)) in
      let sent-all : picked is_sent ops ≡ picked (λ c. is_sent (h c)) ops = picked_same is_sent (λ c. is_sent (h c)) ops (λ c m. sym (lose-sent t c)) in
      let none : picked (λ c. is_waiting (h c)) ops ≡ [] = picked_same (λ c. is_waiting (h c)) (λ c. false) ops (λ c m. lose-waiting t c) ∙ nothing-picked ops in
      fates-kept h (lose-record t) (with_view x.server (with_log (Change.discard x.log) x)) sound refl
      (subst (EachApplies recorded_of v) live sent-turn)
      (k.server ∙ ap (apply_each recorded_of v) live)
      (k.server ∙ ap (apply_each recorded_of v) sent-all)
      (closed_all recorded_of (λ c. is_sent (h c)) (picked (λ c. is_live (h c)) ops) (λ c m. lose-sent t c ∙ sym (lose-live t c) ∙ in-picked recorded_of (λ d. is_live (h d)) ops c m))
      (discard-waiting x.log ∙ sym (ap (map recorded_of) none))

  -- one more operation, waiting, at the end
  pub issue-kept : (p : ℕ) (o : Operation) → Issuable g x p o → Sound g (with_view (apply x.view o) (with_log (Change.issue p o x.log) x))
      → Kept g (later (with_operations (r.operations ++ (acknowledged p o r ∷ [])) r)) (with_view (apply x.view o) (with_log (Change.issue p o x.log) x))
  unfolding Change.issue apply_each
  issue-kept p o i sound =
      let ops = r.operations in
      let v = r.mounted in
      let a = acknowledged p o r in
      let q = x.log.head.next in
      let qn : record_of q p o ≡ a.recorded = ap (λ (z : ℕ). record_of z p o) k.next in
      let low = (formed-inv g.objects g.blocks g.capacity x.log k.sound.log).head.from_one in
      let good = record-good q p o low i.number i.program i.recordable.good in
      let more : (f : Acknowledged → Bool) → f a ≡ true → picked f (ops ++ (a ∷ [])) ≡ picked f ops ++ (a ∷ []) =
      λ f e. picked-append f ops (a ∷ []) ∙ ap (λ (z : List Acknowledged). picked f ops ++ z) (picked-yes f a [] e ∙ ap (λ (z : List Acknowledged). a ∷ z) (picked_none f)) in
      let live = more is_live refl in
      let sent-all : picked is_sent (ops ++ (a ∷ [])) ≡ picked is_sent ops =
      picked-append is_sent ops (a ∷ []) ∙ ap (λ (z : List Acknowledged). picked is_sent ops ++ z) (picked-no is_sent a [] refl ∙ picked_none is_sent) ∙ append-nil (picked is_sent ops) in
      let fit : applies (apply_each recorded_of v (picked is_live ops)) o ≡ true = ap (λ (w : Volume). applies w o) (sym k.view) ∙ i.fit in
      record {
        sound = sound;
        mounted = k.mounted;
        numbers = numbers-end 1 ops a k.numbers (omega arith);
        next = ap (λ (z : ℕ). z + 1) (k.next ∙ sym (length-append ops (a ∷ [])));
        fit =
            λ c m.
            ⊎_elim (λ (z : Among c ops). k.fit c z)
            (λ (z : Among c (a ∷ [])).
            subst (λ (w : Record). (valid w ≡ true) × (fits g.objects g.blocks w ≡ true)) (qn ∙ sym (ap recorded_of (Memᴰ.eq_of_singleton z))) (good, i.recordable.within q p))
            (Memᴰ.append_cases ops m);
        turn = subst (EachApplies recorded_of v) (sym live) (turn-append recorded_of v (picked is_live ops) (a ∷ []) k.turn (fit, tt));
        view = ap (λ (w : Volume). apply w o) k.view ∙ sym (ap (apply_each recorded_of v) live ∙ apply-append recorded_of v (picked is_live ops) (a ∷ []));
        server = k.server ∙ ap (apply_each recorded_of v) (sym sent-all);
        closed = subst (Closed recorded_of is_sent) (sym live) (closed-end recorded_of is_sent (picked is_live ops) a refl k.closed);
        waiting = issue-waiting p o x.log ∙ (λ j. k.waiting j ++ (qn j ∷ [])) ∙ sym (ap (map recorded_of) (more is_waiting refl) ∙ map-end (picked is_waiting ops) a);
      }
