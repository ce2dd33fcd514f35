-- What a call wrote of a program's losses is what its effects fetched.
use Rattle.std.specs.Prelude.{ℕ, ◌+◌, ◌≡◌, refl, Bool, not, ◌&&◌, cond, length, take, drop, get_or, eqb, ltb}
use Rattle.std.proofs.Common.{arith, sym, ◌∙◌, subst, length-append, eqb-true}
use Rattle.std.proofs.Math.Path.{ap}
use mathlib.Core.List.{List, [], ◌∷◌, ◌++◌, map, append-nil}
use Rattle.std.proofs.Math.Bool.{true, false}
use Rattle.std.specs.Prelude.{Option, None, Some}
use Rattle.std.proofs.lemmas.List.{take-append-le}
use Rattle.std.proofs.Math.Seq.{take-length}
use Rattle.returned.specs.Returned
use Rattle.record.specs.Operation.{Operation, Record}
use Rattle.record.specs.Fields.{encode}
use Rattle.buffer.specs.Patch.{patch}
use Rattle.log_rules.specs.Slot.{Slot}
use Rattle.log_rules.specs.Order.{any, needed}
use Rattle.log_rules.specs.Change.{waiting_of, is_loss_of, earliest, losses_of}
use Rattle.session.specs.Class
use Rattle.session.specs.Call.{Geometry, Call, question, change, link, recovery, push, fsync, cut, take as take_loss, renew, Answer, answer, refusal}
use Rattle.session.specs.Refusal.{Row, row, lowest_number}
use Rattle.session.specs.Model.{Model, unless, told_of}
use Rattle.session.specs.Issue.{operations_of}
use Rattle.session.specs.Effect.{Effect, note, issue, send, discard, perform, sends, issuing, accepted_effects, refused_effects, broken_sync, effects_of}
use Rattle.session.specs.Send.{of_record, loss_bytes, take_of}
use Rattle.session.specs.Step.{answer_of, effects_in}
use Rattle.register.specs.Run.{Moment}
use Rattle.register.specs.Takes.{wrote, fetched_by, took_one, accepted_takes}
use Rattle.register.proofs.Laws.Fetched.{one_or_none, fetched_in}
use Rattle.register.proofs.Laws.Fetch.{fetched_one}

abbrev is_take : Effect → Bool
is_take (note p ops) = false
is_take (issue p o) = false
is_take (send q) = false
is_take discard = false
is_take (Effect.take p) = true
is_take (Effect.renew p) = false

-- effects without a take fetch nothing
none-taken : (p : ℕ) (es : List Effect) (x : Model) → any is_take es ≡ false → fetched_in p x es ≡ []
unfolding any fetched_in
none-taken p [] x h = refl
none-taken p (note q ops ∷ es) x h = none-taken p es (perform (note q ops) x) h
none-taken p (issue q o ∷ es) x h = none-taken p es (perform (issue q o) x) h
none-taken p (send n ∷ es) x h = none-taken p es (perform (send n) x) h
none-taken p (discard ∷ es) x h = none-taken p es (perform discard x) h
none-taken p (Effect.take q ∷ es) x h = let z : ◌≡◌ {A = ℕ} 0 1 = cc in absurd (omega arith)
none-taken p (Effect.renew q ∷ es) x h = none-taken p es (perform (Effect.renew q) x) h

issuing-none : (p : ℕ) (os : List Operation) → any is_take (issuing p os) ≡ false
unfolding any issuing
issuing-none p [] = refl
issuing-none p (o ∷ os) = issuing-none p os

sends_none : (l : List Record) → any is_take (sends l) ≡ false
unfolding any
sends_none [] = refl
sends_none (r ∷ l) = sends_none l

cut-none : (l : List Record) → any is_take (sends l ++ (discard ∷ [])) ≡ false
unfolding any
cut-none [] = refl
cut-none (r ∷ l) = cut-none l

broken-none : (p o k : ℕ) (a : Answer) (need : List Record) → any is_take (broken_sync p o k a need) ≡ false
unfolding any
broken-none p o k a need = go (eqb a.returned Returned.link_lost) (eqb a.returned Returned.damaged)
  where
    go : (s t : Bool) → any is_take (cond s (note p (o ∷ []) ∷ (sends (take k need) ++ (discard ∷ []))) (cond t (sends (take (get_or a.results 0 0) need)) [])) ≡ false
    go true t = cut-none (take k need)
    go false true = sends_none (take (get_or a.results 0 0) need)
    go false false = refl

-- the bytes of a record at the start of a buffer
patch-start : (own s : List ℕ) → take (length s) (patch own 0 s) ≡ s
unfolding patch
patch-start own s = take-append-le (length s) s (drop (0 + length s) own) (omega arith) ∙ take-length s

-- the rows of a take's table, and what it answers where none holds
abbrev take_rows : Option Record → Bool → Bool → List Row
take_rows f a b = row Returned.bad_program a ∷ row Returned.none (of_record true f (λ r. false)) ∷ row Returned.short_buffer b ∷ []

abbrev take_answer : List ℕ → Option Record → Answer
take_answer own f = answer Returned.accepted (length (loss_bytes f) ∷ []) (patch own 0 (loss_bytes f))

-- without a loss, a take is refused
no-loss-refused : (a b : Bool) → lowest_number (take_rows None a b) ≡ 0 → ⊥
unfolding lowest_number
no-loss-refused true true e = let z : ◌≡◌ {A = ℕ} 3 0 = e in omega arith
no-loss-refused true false e = let z : ◌≡◌ {A = ℕ} 3 0 = e in omega arith
no-loss-refused false true e = let z : ◌≡◌ {A = ℕ} 16 0 = e in omega arith
no-loss-refused false false e = let z : ◌≡◌ {A = ℕ} 16 0 = e in omega arith

take-wrote : (x : Model) (q : ℕ) (own : List ℕ) (p : ℕ)
    → wrote p (take_loss q own) (take_of q own x) ≡ map encode (fetched_in p x (cond (eqb (take_of q own x).returned 0) (Effect.take q ∷ []) []))
unfolding take_of fetched_in
take-wrote x q own p = go (earliest (is_loss_of q) x.log.slots) refl
  where
    Goal : Answer → Type 0
    Goal y = cond (eqb y.returned 0 && eqb q p) (take (get_or y.results 0 0) y.buffer ∷ []) [] ≡ map encode (fetched_in p x (cond (eqb y.returned 0) (Effect.take q ∷ []) []))

    here : (rec : Record) (b : Bool) → cond b (take (length (encode rec)) (patch own 0 (encode rec)) ∷ []) [] ≡ map encode (cond b (rec ∷ []) [])
    here rec true = ap (λ (l : List ℕ). l ∷ []) (patch-start own (encode rec))
    here rec false = refl

    table : (f : Option Record) → earliest (is_loss_of q) x.log.slots ≡ f → (n : ℕ) → n ≡ lowest_number (take_rows f (not (ltb q 32)) (ltb (length own) 1040)) → (b : Bool) → eqb n 0 ≡ b
        → Goal (cond b (take_answer own f) (refusal n (take_loss q own)))
    table None e n w true z = absurd (no-loss-refused (not (ltb q 32)) (ltb (length own) 1040) (sym w ∙ eqb-true n 0 z))
    table (Some rec) e n w true z =
        here rec (eqb q p) ∙ ap (map encode) (sym (fetched_one p x (Effect.take q) ∙ ap (λ (o : Option Record). cond (eqb q p) (one_or_none o) []) e))
    table f e n w false z =
        subst (λ (b : Bool). cond (b && eqb q p) (take (get_or (refusal n (take_loss q own)).results 0 0) own ∷ []) [] ≡ map encode (fetched_in p x (cond b (Effect.take q ∷ []) []))) (sym z) refl

    go : (f : Option Record) → earliest (is_loss_of q) x.log.slots ≡ f → Goal (unless (take_loss q own) (take_rows f (not (ltb q 32)) (ltb (length own) 1040)) (take_answer own f))
    go f e = let n = lowest_number (take_rows f (not (ltb q 32)) (ltb (length own) 1040)) in table f e n refl (eqb n 0) refl

module _ (g : Geometry) (x : Model) (p : ℕ) where
  -- a call none of whose effects is a take
  quiet : (c : Call) → any is_take (accepted_effects c (told_of x)) ≡ false
      → any is_take (refused_effects c (answer_of g c x) (told_of x)) ≡ false → [] ≡ map encode (fetched_in p x (effects_in g c x))
  unfolding effects_of
  quiet c h k = go (eqb (answer_of g c x).returned Returned.accepted)
    where
      go : (b : Bool) → [] ≡ map encode (fetched_in p x (cond b (accepted_effects c (told_of x)) (refused_effects c (answer_of g c x) (told_of x))))
      go true = ap (map encode) (sym (none-taken p (accepted_effects c (told_of x)) x h))
      go false = ap (map encode) (sym (none-taken p (refused_effects c (answer_of g c x) (told_of x)) x k))

-- the bytes that a call's answer reports of a program's losses are the records that its effects fetch
pub wrote-taken : (g : Geometry) (c : Call) (x : Model) (p : ℕ) → wrote p c (answer_of g c x) ≡ map encode (fetched_in p x (effects_in g c x))
unfolding any answer_of effects_of
wrote-taken g (question q s) x p = quiet g x p (question q s) refl refl
wrote-taken g (change i c) x p = quiet g x p (change i c) (issuing-none i.program (operations_of (told_of x) c)) refl
wrote-taken g (link (Class.push q)) x p = quiet g x p (push q) refl refl
wrote-taken g (link (Class.fsync q o k)) x p =
    let need = needed o (waiting_of x.log.slots) in
    quiet g x p (fsync q o k) (sends_none need) (broken-none q o k (answer_of g (fsync q o k) x) need)
wrote-taken g (link Class.cut) x p = quiet g x p cut refl refl
wrote-taken g (recovery q (Class.take own)) x p = take-wrote x q own p
wrote-taken g (recovery q Class.renew) x p = quiet g x p (renew q) refl refl

-- a take is refused with 16 only where its program has no loss
pub refused_none : (g : Geometry) (p : ℕ) (own : List ℕ) (x : Model) → (answer_of g (take_loss p own) x).returned ≡ Returned.none → earliest (is_loss_of p) x.log.slots ≡ None
unfolding answer_of take_of lowest_number
refused_none g p own x = go (earliest (is_loss_of p) x.log.slots) (not (ltb p 32)) (ltb (length own) 1040)
  where
    go : (f : Option Record) (a b : Bool) → (unless (take_loss p own) (take_rows f a b) (take_answer own f)).returned ≡ Returned.none → f ≡ None
    go None a b e = refl
    go (Some r) true true e = let z : ◌≡◌ {A = ℕ} 3 16 = e in absurd (omega arith)
    go (Some r) true false e = let z : ◌≡◌ {A = ℕ} 3 16 = e in absurd (omega arith)
    go (Some r) false true e = let z : ◌≡◌ {A = ℕ} 19 16 = e in absurd (omega arith)
    go (Some r) false false e = let z : ◌≡◌ {A = ℕ} 0 16 = e in absurd (omega arith)

-- and where it has none, the log keeps none of its losses
pub none_left : (p : ℕ) (l : List Slot) → earliest (is_loss_of p) l ≡ None → losses_of p l ≡ []
unfolding earliest losses_of
none_left p [] e = refl
none_left p (s ∷ l) e = go (is_loss_of p s) (none_left p l) e
  where
    go : (b : Bool) → (earliest (is_loss_of p) l ≡ None → losses_of p l ≡ []) → cond b (Some s.recorded) (earliest (is_loss_of p) l) ≡ None → cond b (s.recorded ∷ losses_of p l) (losses_of p l) ≡ []
    go true k h = let z : ◌≡◌ {A = ℕ} 0 1 = cc in absurd (omega arith)
    go false k h = k h

-- each accepted take fetches one
took-wrote : (p : ℕ) (c : Call) (a : Answer) → took_one p c a ≡ length (wrote p c a)
took-wrote p (question q s) a = refl
took-wrote p (change q c) a = refl
took-wrote p (link l) a = refl
took-wrote p (recovery q (Class.take own)) a = go (eqb a.returned 0 && eqb q p)
  where
    go : (b : Bool) → cond b 1 0 ≡ length (cond b (take (get_or a.results 0 0) a.buffer ∷ []) [])
    go true = refl
    go false = refl
took-wrote p (recovery q Class.renew) a = refl

pub takes-fetched : (p : ℕ) (ms : List Moment) → accepted_takes p ms ≡ length (fetched_by p ms)
unfolding accepted_takes fetched_by
takes-fetched p [] = refl
takes-fetched p (m ∷ ms) =
    let rest = takes-fetched p ms in
    let one = took-wrote p m.call m.answer in
    let both = length-append (wrote p m.call m.answer) (fetched_by p ms) in
    omega arith

-- as many as there are, from the first on, are all
pub all-fetched : (u v w : List (List ℕ)) → w ≡ u ++ v → length w ≡ length u → u ≡ w
all-fetched u [] w e n = sym (e ∙ append-nil u)
all-fetched u (b ∷ v) w e n = let k = length-append u (b ∷ v) in let z = ap length e in absurd (omega arith)
