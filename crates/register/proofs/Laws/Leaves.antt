-- What sends leave of any volumes and log: the operations applied to the server, their slots freed, and all else as it stood.
use Rattle.std.specs.Prelude.{ℕ, ◌≡◌, refl, Bool, true, false, ◌&&◌, ◌||◌, cond, eqb}
use Rattle.std.proofs.Common.{arith, sym, ap, ◌∙◌, subst, eqb-true, ne_eqb}
use mathlib.Core.List.{List, [], ◌∷◌, Memᴰ}
use Rattle.std.proofs.Math.Bool.{and-eq-true_iff, and-false}
use Rattle.std.specs.Prelude.{Some}
use Rattle.record.specs.Operation.{Record}
use Rattle.volume_tree.specs.Volume.{Volume}
use Rattle.volume_apply.specs.Apply.{applies, apply}
use Rattle.log_rules.specs.Slot.{Slot, with_slots, sequence_of, is_waiting}
use Rattle.log_rules.specs.Order.{any}
use Rattle.log_rules.specs.Change.{waiting_of, waiting_at, is_sequence, removed}
use Rattle.log_rules.proofs.Laws.Order.{Rising}
use Rattle.log_rules.proofs.Laws.Change.{earliest-found, waiting-in}
use Rattle.log_rules.proofs.Laws.Freed.{formed-rising}
use Rattle.session.specs.Call.{Geometry, Buffers, push, Answer}
use Rattle.session.specs.Model.{Model}
use Rattle.session.specs.Effect.{Effect, send, sends, sent_found, perform, perform_all}
use Rattle.session.specs.Step.{Stores, answer_of, leaves_of, encode_model, step}
use Rattle.session.proofs.Laws.Possible.{Sound, Sendable}
use Rattle.session.proofs.Laws.Effect.{send-is, perform-sound}
use Rattle.session.proofs.Laws.Ready.{Ready, first-sent}
use Rattle.session.proofs.Laws.Call.{push-accepted}
use Rattle.session.proofs.Laws.Step.{model-read, step-holds}
use Rattle.register.specs.Replay.{replay}
use Rattle.register.specs.Claim.{AppliesInTurn, Sent, freed_of}
use Rattle.register.proofs.Laws.Send.{rising-unique}
use Rattle.register.proofs.Laws.Could.{push-effects}

-- none is freed
freed-none : (l : List Slot) → freed_of [] l ≡ l
unfolding freed_of any
freed-none [] = refl
freed-none (s ∷ l) = ap (λ (k : List Slot). s ∷ k) (freed-none l)

-- slots of other numbers
freed-apart : (q : Record) (l : List Record) (k : List Slot) → ((s : Slot) → Memᴰ s k → sequence_of s ≡ q.sequence → ⊥) → freed_of (q ∷ l) k ≡ freed_of l k
unfolding freed_of any
freed-apart q l [] h = refl
freed-apart q l (s ∷ k) h =
    let rest = freed-apart q l k (λ t m. h t (Memᴰ.tail m)) in
    λ i. cond (ne_eqb (sequence_of s) q.sequence (h s (Memᴰ.head refl)) i || any (λ r. eqb (sequence_of s) r.sequence) l) (rest i) (s ∷ rest i)

-- one freed after the other
freed-next : (q : Record) (l : List Record) (k : List Slot) → Rising sequence_of k → ((s : Slot) → Memᴰ s k → sequence_of s ≡ q.sequence → is_waiting s ≡ true)
    → freed_of l (removed (is_sequence q.sequence) k) ≡ freed_of (q ∷ l) k
unfolding freed_of any removed
freed-next q l [] rise w = refl
freed-next q l (s ∷ k) rise w = go (eqb (sequence_of s) q.sequence) (is_waiting s) refl refl (freed-next q l k rise.1 (λ t m. w t (Memᴰ.tail m)))
  where
    go : (t b : Bool) → eqb (sequence_of s) q.sequence ≡ t → is_waiting s ≡ b → freed_of l (removed (is_sequence q.sequence) k) ≡ freed_of (q ∷ l) k
        → freed_of l (cond (b && t) k (s ∷ removed (is_sequence q.sequence) k)) ≡ cond (t || any (λ r. eqb (sequence_of s) r.sequence) l) (freed_of (q ∷ l) k) (s ∷ freed_of (q ∷ l) k)
    go true true e f ih = sym (freed-apart q l k (λ u m z. let lt = rise.0 u m in let y = eqb-true (sequence_of s) q.sequence e in omega arith))
    go true false e f ih = let z : true ≡ false = sym (w s (Memᴰ.head refl) (eqb-true _ _ e)) ∙ f in let y : ◌≡◌ {A = ℕ} 0 1 = cc in absurd (omega arith)
    go false b e f ih =
        ap (λ (c : Bool). freed_of l (cond c k (s ∷ removed (is_sequence q.sequence) k))) (and-false b)
        ∙ (λ i. cond (any (λ r. eqb (sequence_of s) r.sequence) l) (ih i) (s ∷ ih i))

-- what is left of a model after sends
abbrev pub left_of : List Record → Model → Model
left_of l x = record { server = replay x.server l; view = x.view; log = with_slots (freed_of l x.log.slots) x.log }

first-applies : (v : Volume) (q : Record) (l : List Record) → AppliesInTurn v (q ∷ l) → applies v q.operation ≡ true
unfolding replay
first-applies v q l t = t [] l q refl

rest-applies : (v : Volume) (q : Record) (l : List Record) → AppliesInTurn v (q ∷ l) → AppliesInTurn (apply v q.operation) l
unfolding replay
rest-applies v q l t before after r e =
    ap (λ (b : Bool). applies (replay (cond b (apply v q.operation) v) before) r.operation) (sym (first-applies v q l t)) ∙ t (q ∷ before) after r (ap (λ (k : List Record). q ∷ k) e)

pub sends-leave : (g : Geometry) (l : List Record) (x : Model) → Sound g x → Ready (waiting_of x.log.slots) l → AppliesInTurn x.server l → perform_all (sends l) x ≡ left_of l x
unfolding perform_all replay
sends-leave g [] x s d t = λ i. record { server = x.server; view = x.view; log = with_slots (sym (freed-none x.log.slots) i) x.log }
sends-leave g (q ∷ l) x s d t =
    let n = q.sequence in
    let f = first-sent g x q l s d in
    let fit = first-applies x.server q l t in
    let can : Sendable x n q = record { found = f.found; fit = fit; free = f.free } in
    let one : perform (send n) x ≡ sent_found (Some q) x = send-is n x q f.found in
    let rest = sends-leave g l (perform (send n) x) (perform-sound g x (send n) s (q, can)) f.ready (subst (λ (v : Volume). AppliesInTurn v l) (sym f.server) (rest-applies x.server q l t)) in
    let rise = formed-rising g.objects g.blocks g.capacity x.log s.log in
    let own = waiting-in x.log.slots (d.wait q (Memᴰ.head refl)) in
    let waits : (u : Slot) → Memᴰ u x.log.slots → sequence_of u ≡ n → is_waiting u ≡ true =
    λ u m e.
    let same : own.0 ≡ u = rising-unique (λ (z : Slot). z.recorded) x.log.slots rise own.0 u own.1 m (ap (λ (r : Record). r.sequence) (sym own.3) ∙ sym e) in
    subst (λ (z : Slot). is_waiting z ≡ true) same own.2 in
    rest ∙ ap (left_of l) one
    ∙ (λ i. record {
      server = replay (cond (sym fit i) (apply x.server q.operation) x.server) l;
      view = x.view;
      log = with_slots (freed-next q l x.log.slots rise waits i) x.log;
    })

-- an accepted push, on any buffers
pub push-leaves : (g : Geometry) (s : Buffers) (x : Model) → Stores g s x → (q : ℕ) → (step g (push q) s).gives.returned ≡ 0 → Sent g x q (step g (push q) s).leaves
unfolding answer_of waiting_at leaves_of perform_all
push-leaves g s x st q e =
    let h = step-holds g (push q) s x (model-read g s x st) in
    let told = ap (λ (a : Answer). a.returned) (sym h.gives) ∙ e in
    let f = push-accepted q x told in
    let w = earliest-found (is_sequence q) x.log.slots f.0 f.1.found in
    let is = (and-eq-true_iff (is_waiting w.slot) (eqb (sequence_of w.slot) q)).0 w.passes in
    let number : f.0.sequence ≡ q = ap (λ (r : Record). r.sequence) (sym w.tells) ∙ eqb-true _ _ is.1 in
    record {
      before = w.before;
      slot = w.slot;
      after = w.after;
      among = w.stands;
      waits = is.0;
      number = eqb-true _ _ is.1;
      leaves =
          sym h.holds.stored
          ∙ ap (λ (es : List Effect). encode_model g (perform_all es x)) (push-effects g q x told)
          ∙ ap (encode_model g) (send-is q x f.0 f.1.found ∙ (λ i. record {
            server = apply x.server (sym w.tells i).operation;
            view = x.view;
            log = with_slots (removed (is_sequence (number i)) x.log.slots) x.log;
          }))
          ∙ ap (λ (k : List Slot). encode_model g (record { server = apply x.server w.slot.recorded.operation; view = x.view; log = with_slots k x.log })) w.leaves;
    }
