-- Every effect that a call has may take place where the call has it: so no list of calls can damage the volumes and the log.
use Rattle.std.specs.Prelude.{ℕ, ◌≤◌, ◌<◌, ◌≡◌, Bool, cond, length, get_or, leb, ltb}
use Rattle.std.proofs.Common.{arith, sym, ap, ◌∙◌, subst, ltb-true, ltb-false, leb-true, leb-false, eqb-true}
use Rattle.std.proofs.Math.Path.{refl}
use mathlib.Core.List.{List, [], ◌∷◌, ◌++◌}
use Rattle.std.proofs.Math.Bool.{true, false}
use Rattle.std.proofs.lemmas.Bool.{false≢true, not-false}
use Rattle.std.specs.Prelude.{Option, None, Some}
use Rattle.std.proofs.Math.ListN
use Rattle.std.proofs.Math.Dec.{eqb}
use Rattle.returned.specs.Returned
use Rattle.record.specs.Operation.{Operation, Record}
use Rattle.volume_entry.specs.Entry.{is_file, is_directory}
use Rattle.volume_tree.specs.Volume.{Volume, search}
use Rattle.volume_apply.specs.Apply.{applies}
use Rattle.log_rules.specs.Change.{waiting_of, waiting_at, earliest, is_loss_of}
use Rattle.log_rules.proofs.Laws.Change.{noted-waiting, waiting-in-order}
use Rattle.log_rules.specs.Order.{needed, preceded}
use Rattle.log_rules.proofs.Laws.Order.{direct-decides}
use Rattle.session.specs.Class
use Rattle.session.specs.Call.{Geometry, Call, question, change, link, recovery, remove_file, remove_directory, push, fsync, Answer, answer}
use Rattle.session.specs.Call
use Rattle.session.specs.Refusal.{Row, row}
use Rattle.session.specs.Model.{Model, unless, bad_program, told_of}
use Rattle.session.specs.Issue.{on_found, displaced, removes}
use Rattle.log_rules.specs.Sends.{applying}
use Rattle.session.specs.Send.{of_record, push_of, sync_answer, sync_rows, fsync_of, no_loss, take_of, renew_of}
use Rattle.session.specs.Effect.{note, discard, perform, sends, issuing, accepted_effects, broken_sync, refused_effects, effects_of}
use Rattle.session.specs.Step.{answer_of, effects_in, leaves_of}
use Rattle.session.proofs.Laws.Refusal.{numbered, passed, accepted-passes, own-number, same_number}
use Rattle.session.proofs.Laws.Possible.{Sound, Sendable, AllPossible}
use Rattle.session.proofs.Laws.Issuing.{Issuing, issuing-possible}
use Rattle.session.proofs.Laws.Edit.{create-accepted, make-accepted, remove-accepted, rename-accepted, write-accepted, length-accepted, forder-accepted}
use Rattle.session.proofs.Laws.Effect.{all_sound, all_append, perform-sound}
use Rattle.session.proofs.Laws.Ready.{Ready, needed-ready, ready-take, applying-take, applying-first, sends-possible}

-- the program of a table that lets pass
program-good : (c : Call) (p : ℕ) (rows : List Row) (a : Answer) → numbered rows ≡ true → (unless c (bad_program p ∷ rows) a).returned ≡ 0 → p < 32
program-good c p rows a n e = ltb-true p 32 (not-false _ (passed (bad_program p ∷ rows) n (accepted-passes c (bad_program p ∷ rows) a e).0).0)

-- an accepted push: the operation of the number waits, none that waits precedes it, and it applies to the server
pub push-accepted : (q : ℕ) (x : Model) → (push_of q x).returned ≡ 0 → (r : Record) × Sendable x q r
unfolding push_of
push-accepted q x e = go (waiting_at q x.log) refl e
  where
    w : List Record
    w = waiting_of x.log.slots

    rows : Option Record → List Row
    rows f = row Returned.not_first (of_record false f (preceded w)) ∷ row Returned.none (of_record true f (λ a. false)) ∷ []

    told : Option Record → Answer
    told f = answer (cond (of_record false f (λ a. applies x.server a.operation)) Returned.accepted Returned.damaged) [] []

    sent : (b : Bool) → cond b Returned.accepted Returned.damaged ≡ 0 → b ≡ true
    sent true h = refl
    sent false h = absurd (omega arith)

    go : (f : Option Record) → waiting_at q x.log ≡ f → (unless (push q) (rows f) (told f)).returned ≡ 0 → (r : Record) × Sendable x q r
    go None is h = absurd (false≢true (sym (passed (rows None) refl (accepted-passes (push q) (rows None) (told None) h).0).1.0))
    go (Some r) is h =
        let a = accepted-passes (push q) (rows (Some r)) (told (Some r)) h in
        let p = passed (rows (Some r)) refl a.0 in
        let z : (told (Some r)).returned ≡ 0 = ap (λ (y : Answer). y.returned) (sym a.1) ∙ h in
        (r, record { found = is; fit = sent (applies x.server r.operation) z; free = sym (direct-decides w r) ∙ p.0 })

-- what an fsync answers, by cases: the link carries all, it carries too few, or an operation that it carries does not apply
pub data Synced (k : ℕ) (need : List Record) (v : Volume) (a : Answer) : Type 0 where
  whole : length need ≤ k → length (ListN.take k need) ≤ applying (ListN.take k need) v → a ≡ answer Returned.accepted (length need ∷ []) [] → Synced k need v a
  partly : k < length need → length (ListN.take k need) ≤ applying (ListN.take k need) v → a ≡ answer Returned.link_lost (k ∷ []) [] → Synced k need v a
  broken : applying (ListN.take k need) v < length (ListN.take k need) → a ≡ answer Returned.damaged (applying (ListN.take k need) v ∷ []) [] → Synced k need v a

pub synced-is : (k : ℕ) (need : List Record) (v : Volume) → Synced k need v (sync_answer k need v)
synced-is k need v = go (ltb (applying first v) (length first)) (leb (length need) k) refl refl
  where
    first : List Record
    first = ListN.take k need

    go : (b c : Bool) → ltb (applying first v) (length first) ≡ b → leb (length need) k ≡ c
        → Synced k need v (cond b (answer Returned.damaged (applying first v ∷ []) []) (cond c (answer Returned.accepted (length need ∷ []) []) (answer Returned.link_lost (k ∷ []) [])))
    go true c e f = broken (ltb-true _ _ e) refl
    go false true e f = whole (leb-true _ _ f) (ltb-false _ _ e) refl
    go false false e f = partly (leb-false _ _ f) (ltb-false _ _ e) refl

-- an fsync that no row of its table refuses, with its program
pub record Syncs (p o k : ℕ) (x : Model) : Type 0 where
  pub program : p < 32
  pub answer : fsync_of p o k x ≡ sync_answer k (needed o (waiting_of x.log.slots)) x.server

pub sync-accepted : (p o k : ℕ) (x : Model) → (fsync_of p o k x).returned ≡ 0 → Syncs p o k x
unfolding fsync_of
sync-accepted p o k x e =
    let a = accepted-passes (fsync p o k) (sync_rows p o x.view x.log) (sync_answer k (needed o (waiting_of x.log.slots)) x.server) e in
    record { program = ltb-true p 32 (not-false _ (passed (sync_rows p o x.view x.log) refl a.0).0); answer = a.1 }

pub sync-link : (p o k : ℕ) (x : Model) → (fsync_of p o k x).returned ≡ Returned.link_lost → Syncs p o k x
unfolding fsync_of
sync-link p o k x e =
    let a = own-number Returned.link_lost (fsync p o k) (sync_rows p o x.view x.log) (sync_answer k (needed o (waiting_of x.log.slots)) x.server) refl refl (λ z. omega arith) e in
    record { program = ltb-true p 32 (not-false _ (passed (sync_rows p o x.view x.log) refl a.0).0); answer = a.1 }

pub sync-damaged : (p o k : ℕ) (x : Model) → (fsync_of p o k x).returned ≡ Returned.damaged → Syncs p o k x
unfolding fsync_of
sync-damaged p o k x e =
    let a = own-number Returned.damaged (fsync p o k) (sync_rows p o x.view x.log) (sync_answer k (needed o (waiting_of x.log.slots)) x.server) refl refl (λ z. omega arith) e in
    record { program = ltb-true p 32 (not-false _ (passed (sync_rows p o x.view x.log) refl a.0).0); answer = a.1 }

-- no loss to take is refused
record-there : (f : Option Record) → of_record true f (λ r. false) ≡ false → (r : Record) × (f ≡ Some r)
record-there None e = absurd (false≢true (sym e))
record-there (Some r) e = (r, refl)

take-accepted : (p : ℕ) (own : List ℕ) (x : Model) → (take_of p own x).returned ≡ 0 → (r : Record) × (earliest (is_loss_of p) x.log.slots ≡ Some r)
unfolding take_of
take-accepted p own x e =
    let rows = bad_program p ∷ row Returned.none (no_loss p x) ∷ row Returned.short_buffer (ltb (length own) 1040) ∷ [] in
    record-there (earliest (is_loss_of p) x.log.slots) (passed rows refl (accepted-passes (Call.take p own) rows _ e).0).1.0

module _ (g : Geometry) where
  -- noting a call changes nothing that sends ask
  after-note : (p o : ℕ) (x : Model) (l : List Record) → p < 32 → Sound g x → Ready (waiting_of x.log.slots) l → length l ≤ applying l x.server
      → AllPossible g x (note p (o ∷ []) ∷ sends l)
  unfolding perform
  after-note p o x l h s d n =
      let y = perform (note p (o ∷ [])) x in
      (h, sends-possible g l y (perform-sound g x (note p (o ∷ [])) s h) (subst (λ (w : List Record). Ready w l) (sym (noted-waiting p (o ∷ []) x.log.slots)) d) n)

  need-ready : (o : ℕ) (x : Model) → Sound g x → Ready (waiting_of x.log.slots) (needed o (waiting_of x.log.slots))
  need-ready o x s = needed-ready (waiting_of x.log.slots) o (waiting-in-order g.objects g.blocks g.capacity x.log s.log)

  -- the link carries all that is needed
  sync-whole : (p o k : ℕ) (x : Model) → Sound g x → (fsync_of p o k x).returned ≡ 0 → AllPossible g x (note p (o ∷ []) ∷ sends (needed o (waiting_of x.log.slots)))
  sync-whole p o k x s e = go (synced-is k need x.server)
    where
      need : List Record
      need = needed o (waiting_of x.log.slots)

      y : Syncs p o k x
      y = sync-accepted p o k x e

      go : Synced k need x.server (sync_answer k need x.server) → AllPossible g x (note p (o ∷ []) ∷ sends need)
      go (whole le all is) =
          let most = applying-take k need x.server in
          let same : ListN.take k need ≡ need = lib.Seq.take_all k need le in
          let len = ap length same in
          after-note p o x need y.program s (need-ready o x s) (omega arith)
      go (partly lt all is) = let z : ◌≡◌ {A = ℕ} 17 0 = same_number (y.answer ∙ is) e in absurd (omega arith)
      go (broken lt is) = let z : ◌≡◌ {A = ℕ} 2 0 = same_number (y.answer ∙ is) e in absurd (omega arith)

  -- the link breaks, or an operation does not apply
  sync-broken : (p o k : ℕ) (x : Model) → Sound g x → AllPossible g x (broken_sync p o k (fsync_of p o k x) (needed o (waiting_of x.log.slots)))
  sync-broken p o k x s = lost (eqb (fsync_of p o k x).returned Returned.link_lost) (eqb (fsync_of p o k x).returned Returned.damaged) refl refl
    where
      need : List Record
      need = needed o (waiting_of x.log.slots)

      link : (fsync_of p o k x).returned ≡ Returned.link_lost → AllPossible g x (note p (o ∷ []) ∷ (sends (ListN.take k need) ++ (discard ∷ [])))
      link e = go (synced-is k need x.server)
        where
          y : Syncs p o k x
          y = sync-link p o k x e

          go : Synced k need x.server (sync_answer k need x.server) → AllPossible g x (note p (o ∷ []) ∷ (sends (ListN.take k need) ++ (discard ∷ [])))
          go (whole le all is) = let z : ◌≡◌ {A = ℕ} 0 17 = same_number (y.answer ∙ is) e in absurd (omega arith)
          go (partly lt all is) =
              all_append g (note p (o ∷ []) ∷ sends (ListN.take k need)) (discard ∷ []) x
              (after-note p o x (ListN.take k need) y.program s (ready-take (waiting_of x.log.slots) need k (need-ready o x s)) all) (tt, tt)
          go (broken lt is) = let z : ◌≡◌ {A = ℕ} 2 17 = same_number (y.answer ∙ is) e in absurd (omega arith)

      stop : (fsync_of p o k x).returned ≡ Returned.damaged → AllPossible g x (sends (ListN.take (get_or (fsync_of p o k x).results 0 0) need))
      stop e = go (synced-is k need x.server)
        where
          y : Syncs p o k x
          y = sync-damaged p o k x e

          go : Synced k need x.server (sync_answer k need x.server) → AllPossible g x (sends (ListN.take (get_or (fsync_of p o k x).results 0 0) need))
          go (whole le all is) = let z : ◌≡◌ {A = ℕ} 0 2 = same_number (y.answer ∙ is) e in absurd (omega arith)
          go (partly lt all is) = let z : ◌≡◌ {A = ℕ} 17 2 = same_number (y.answer ∙ is) e in absurd (omega arith)
          go (broken lt is) =
              let j = applying (ListN.take k need) x.server in
              let told : get_or (fsync_of p o k x).results 0 0 ≡ j = ap (λ (b : Answer). get_or b.results 0 0) (y.answer ∙ is) in
              subst (λ (n : ℕ). AllPossible g x (sends (ListN.take n need))) (sym told)
              (sends-possible g (ListN.take j need) x s (ready-take (waiting_of x.log.slots) need j (need-ready o x s)) (applying-first j need x.server (applying-take k need x.server)))

      lost : (b c : Bool) → eqb (fsync_of p o k x).returned Returned.link_lost ≡ b → eqb (fsync_of p o k x).returned Returned.damaged ≡ c
          → AllPossible g x (cond b (note p (o ∷ []) ∷ (sends (ListN.take k need) ++ (discard ∷ []))) (cond c (sends (ListN.take (get_or (fsync_of p o k x).results 0 0) need)) []))
      lost true c e f = link (eqb-true _ _ e)
      lost false true e f = stop (eqb-true _ _ f)
      lost false false e f = tt

  -- the operations of an accepted change
  issued-possible : (p : ℕ) (x : Model) (os is : List Operation) → is ≡ os → Issuing g x p os → AllPossible g x (issuing p is)
  issued-possible p x os is e i = subst (λ (l : List Operation). AllPossible g x (issuing p l)) (sym e) (issuing-possible g p os x i)

  -- either remove, of what it found
  remove-possible : (p d : ℕ) (n : List ℕ) (x : Model) → (o : ℕ) × (search x.view d n ≡ Some o) × Issuing g x p (Operation.remove o d n ∷ [])
      → AllPossible g x (issuing p (removes x.view d n))
  remove-possible p d n x a = issued-possible p x _ _ (ap (λ (f : Option ℕ). on_found f (λ o. Operation.remove o d n)) a.1) a.2

  -- an accepted call
  accepted-possible : (c : Call) (x : Model) → Sound g x → (answer_of g c x).returned ≡ 0 → AllPossible g x (accepted_effects c (told_of x))
  unfolding answer_of renew_of
  accepted-possible (question p q) x h e = (program-good (question p q) p _ _ refl e, tt)
  accepted-possible (change i (Class.create_file d n o)) x h e = issued-possible i.program x _ _ refl (create-accepted g x h i d n o e)
  accepted-possible (change i (Class.make_directory d n o)) x h e = issued-possible i.program x _ _ refl (make-accepted g x h i d n o e)
  accepted-possible (change i (Class.remove_file d n)) x h e = remove-possible i.program d n x (remove-accepted g x h is_file i.program d n (remove_file i d n) refl e)
  accepted-possible (change i (Class.remove_directory d n)) x h e = remove-possible i.program d n x (remove-accepted g x h is_directory i.program d n (remove_directory i d n) refl e)
  accepted-possible (change i (Class.rename d n b k)) x h e =
      let a = rename-accepted g x h i d n b k e in
      issued-possible i.program x _ _ (ap (λ (f : Option ℕ). on_found f (λ o. Operation.rename o d b (displaced o (search x.view b k)) n k)) a.1) a.2
  accepted-possible (change i (Class.write o f s)) x h e = issued-possible i.program x _ _ refl (write-accepted g x h i o f s e)
  accepted-possible (change i (Class.set_length o f)) x h e = issued-possible i.program x _ _ refl (length-accepted g x h i o f e)
  accepted-possible (change i (Class.forder s)) x h e = issued-possible i.program x _ _ refl (forder-accepted g x h i s e)
  accepted-possible (link (Class.push q)) x h e = (push-accepted q x e, tt)
  accepted-possible (link (Class.fsync p o k)) x h e = sync-whole p o k x h e
  accepted-possible (link Class.cut) x h e = (tt, tt)
  accepted-possible (recovery p (Class.take s)) x h e = (take-accepted p s x e, tt)
  accepted-possible (recovery p Class.renew) x h e = (tt, tt)

  -- a refused one: only fsync has effects
  refused-possible : (c : Call) (x : Model) → Sound g x → AllPossible g x (refused_effects c (answer_of g c x) (told_of x))
  unfolding answer_of
  refused-possible (question p q) x h = tt
  refused-possible (change i c) x h = tt
  refused-possible (link (Class.push q)) x h = tt
  refused-possible (link (Class.fsync p o k)) x h = sync-broken p o k x h
  refused-possible (link Class.cut) x h = tt
  refused-possible (recovery p l) x h = tt

  -- every effect of every call, accepted or refused, may take place
  pub call-possible : (c : Call) (x : Model) → Sound g x → AllPossible g x (effects_in g c x)
  unfolding effects_of
  call-possible c x s = go (eqb (answer_of g c x).returned Returned.accepted) refl
    where
      go : (b : Bool) → eqb (answer_of g c x).returned Returned.accepted ≡ b
          → AllPossible g x (cond b (accepted_effects c (told_of x)) (refused_effects c (answer_of g c x) (told_of x)))
      go true e = accepted-possible c x s (eqb-true _ _ e)
      go false e = refused-possible c x s

  -- so every call leaves the server volume, the view and the log well formed
  pub call-sound : (c : Call) (x : Model) → Sound g x → Sound g (leaves_of g c x)
  unfolding leaves_of
  call-sound c x s = all_sound g (effects_in g c x) x s (call-possible c x s)
