-- What answers tell: a refusal's results are 0 and its buffer is as before; an accepted change tells the next number; an fsync what it
-- needs, what it sent, or where it stopped; and why a call says that something is damaged.
use Rattle.volume_questions.specs.declared.object.ObjectError.TheVariants.{BadNumber, NoObject}
use Rattle.volume_lookup.specs.declared.lookup.LookupError.TheVariants.{BadName, LongName, NoObject, WrongKind}
use Rattle.volume_lookup.specs.declared.lookup.LookupError.{LookupError}
use Rattle.std.specs.Prelude.{ℕ, ◌<◌, ◌≡◌, List, [], ◌∷◌, ◌++◌, Bool, true, false, not, cond, length, replicate, ltb, Result, Ok, Err}
use Rattle.std.proofs.Common.{arith, sym, ◌∙◌, subst}
use Rattle.std.proofs.Math.Path.{refl, ap}
use Rattle.std.proofs.lemmas.Bool.{false≢true}
use Rattle.std.specs.Prelude.{Option, None, Some}
use Rattle.std.proofs.Math.ListN
use Rattle.returned.specs.Returned
use Rattle.record.specs.Operation.{Operation, Record}
use Rattle.record.specs.Fields.{objects_of}
use Rattle.volume_entry.specs.Entry.{Entry, is_file, is_directory, contents_of}
use Rattle.volume_tree.specs.Volume.{Volume, entry_at, search}
use Rattle.volume_apply.specs.Apply.{applies}
use Rattle.volume_questions.specs.declared.object.Stat.{Stat}
use Rattle.volume_questions.specs.declared.object.ObjectError.{ObjectError}
use Rattle.volume_questions.specs.declared.reading.ReadError.{ReadError}
use Rattle.volume_questions.specs.declared.reading.ReadError.TheVariants.{BadNumber as ReadBadNumber, NoObject as ReadNoObject, WrongKind as ReadWrongKind, BadRange}
use Rattle.volume_questions.specs.declared.listing.ListError.{ListError}
use Rattle.volume_questions.specs.declared.listing.ListError.TheVariants.{BadNumber as ListBadNumber, NoObject as ListNoObject, WrongKind as ListWrongKind, Short}
use Rattle.volume_questions.specs.Listing.{listing}
use Rattle.volume_lookup.specs.Lookup.{lookup_answer, reached_number, reached_results}
use Rattle.volume_questions.specs.Answer.{list_answer, list_left, list_leaves, list_number, list_results, stat_answer, stat_number, stat_results, read_answer, read_left, read_leaves, read_number, read_results}
use Rattle.log_rules.specs.Change.{waiting_of, waiting_at}
use Rattle.log_rules.specs.Order.{any, before, needed, preceded}
use Rattle.log_rules.proofs.Laws.Order.{direct-decides}
use Rattle.session.specs.Class.{Question, Change}
use Rattle.session.specs.Class
use Rattle.session.specs.Call.{Geometry, Issuer, Call, question, change, link, recovery, lookup, list, stat, read, create_file, make_directory, remove_file, remove_directory, rename, write, set_length, forder, push, fsync, Answer, answer, result_count, own_buffer}
use Rattle.session.specs.Question.{question_answer}
use Rattle.session.specs.Call
use Rattle.session.specs.Refusal.{Row, row}
use Rattle.session.specs.Refusal
use Rattle.session.specs.Model.{Model, unless, bad_program, is_marked, told_of}
use Rattle.session.specs.Issue.{issues, on_found, displaced, removes}
use Rattle.session.specs.Edit.{room_rows, changed, change_rows, make_rows, remove_rows, rename_rows, write_rows, length_rows, forder_rows}
use Rattle.log_rules.specs.Sends.{applying}
use Rattle.session.specs.Send.{of_record, push_of, sync_answer, fsync_of, no_loss, take_of, renew_of, sync_rows}
use Rattle.session.specs.Effect.{accepted_effects, issuing}
use Rattle.session.specs.Step.{answer_of}
use Rattle.session.proofs.Laws.Refusal.{numbered, lacks, Decided, passes, refuses, decided, passed, accepted-passes, own-number, same_number}
use Rattle.session.proofs.Laws.Possible.{Sound}
use Rattle.session.proofs.Laws.Write.{writes-some}
use Rattle.session.proofs.Laws.Edit.{remove-accepted, rename-accepted, write-some}
use Rattle.session.proofs.Laws.Call.{Synced, whole, partly, broken, synced-is, sync-accepted, sync-link, sync-damaged}

-- a refusal as it should be: no result, and the own buffer as before
pub record Plain (c : Call) (a : Answer) : Type 0 where
  pub results : a.results ≡ replicate (result_count c) 0
  pub own : a.buffer ≡ own_buffer c

-- the answer of a call with a table: one that the call goes on to, where it is no acceptance, is plain
plain-unless : (c : Call) (rows : List Row) (a : Answer) → ((a.returned ≡ 0 → ⊥) → Plain c a) → ((unless c rows a).returned ≡ 0 → ⊥) → Plain c (unless c rows a)
plain-unless c rows a f n = go (decided c rows a)
  where
    go : Decided c rows a → Plain c (unless c rows a)
    go (passes z e) = subst (Plain c) (sym e) (f (λ y. n (ap (λ (b : Answer). b.returned) e ∙ y)))
    go (refuses z e) = subst (Plain c) (sym e) (record { results = refl; own = refl })

plain-reached : (p : ℕ) (s : List ℕ) (r : Result ℕ LookupError) → (reached_number r ≡ 0 → ⊥) → Plain (lookup p s) (answer (reached_number r) (reached_results r) [])
plain-reached p s (Ok o) n = absurd (n refl)
plain-reached p s (Err BadName) n = record { results = refl; own = refl }
plain-reached p s (Err LongName) n = record { results = refl; own = refl }
plain-reached p s (Err NoObject) n = record { results = refl; own = refl }
plain-reached p s (Err WrongKind) n = record { results = refl; own = refl }

plain-listed : (p o : ℕ) (own s : List ℕ) (r : Result ℕ ListError) → (list_number r ≡ 0 → ⊥) → Plain (list p o own) (answer (list_number r) (list_results r) (list_left r s own))
plain-listed p o own s (Ok k) n = absurd (n refl)
plain-listed p o own s (Err ListBadNumber) n = record { results = refl; own = refl }
plain-listed p o own s (Err ListNoObject) n = record { results = refl; own = refl }
plain-listed p o own s (Err ListWrongKind) n = record { results = refl; own = refl }
plain-listed p o own s (Err Short) n = record { results = refl; own = refl }

plain-stat : (p o : ℕ) (r : Result Stat ObjectError) → (stat_number r ≡ 0 → ⊥) → Plain (stat p o) (answer (stat_number r) (stat_results r) [])
plain-stat p o (Ok t) n = absurd (n refl)
plain-stat p o (Err BadNumber) n = record { results = refl; own = refl }
plain-stat p o (Err NoObject) n = record { results = refl; own = refl }

plain_copied : (p o f : ℕ) (own s : List ℕ) (r : Result ℕ ReadError) → (read_number r ≡ 0 → ⊥) → Plain (read p o f own) (answer (read_number r) (read_results r) (read_left r s own))
plain_copied p o f own s (Ok k) n = absurd (n refl)
plain_copied p o f own s (Err ReadBadNumber) n = record { results = refl; own = refl }
plain_copied p o f own s (Err ReadNoObject) n = record { results = refl; own = refl }
plain_copied p o f own s (Err ReadWrongKind) n = record { results = refl; own = refl }
plain_copied p o f own s (Err BadRange) n = record { results = refl; own = refl }

plain-question : (p : ℕ) (v : Volume) (q : Question) → ((question_answer v q).returned ≡ 0 → ⊥) → Plain (question p q) (question_answer v q)
unfolding list_leaves read_leaves
plain-question p v (Class.lookup s) n = plain-reached p s (lookup_answer v s) n
plain-question p v (Class.list o s) n = plain-listed p o s (listing v o (length v)) (list_answer v o s) n
plain-question p v (Class.stat o) n = plain-stat p o (stat_answer v o) n
plain-question p v (Class.read o f s) n = plain_copied p o f s _ (read_answer v o f s) n

-- an fsync that is refused neither with 17 nor with 2
plain_sync : (p o k : ℕ) (x : Model) → ((fsync_of p o k x).returned ≡ 0 → ⊥) → ((fsync_of p o k x).returned ≡ Returned.link_lost → ⊥) → ((fsync_of p o k x).returned ≡ Returned.damaged → ⊥)
    → Plain (fsync p o k) (fsync_of p o k x)
unfolding fsync_of
plain_sync p o k x n l d = go (decided (fsync p o k) (sync_rows p o x.view x.log) (sync_answer k need x.server))
  where
    need : List Record
    need = needed o (waiting_of x.log.slots)

    by : unless (fsync p o k) (sync_rows p o x.view x.log) (sync_answer k need x.server) ≡ sync_answer k need x.server → Synced k need x.server (sync_answer k need x.server) → Plain (fsync p o k) (unless (fsync p o k) (sync_rows p o x.view x.log) (sync_answer k need x.server))
    by e (whole le all is) = absurd (n (ap (λ (b : Answer). b.returned) (e ∙ is)))
    by e (partly lt all is) = absurd (l (ap (λ (b : Answer). b.returned) (e ∙ is)))
    by e (broken lt is) = absurd (d (ap (λ (b : Answer). b.returned) (e ∙ is)))

    go : Decided (fsync p o k) (sync_rows p o x.view x.log) (sync_answer k need x.server) → Plain (fsync p o k) (unless (fsync p o k) (sync_rows p o x.view x.log) (sync_answer k need x.server))
    go (passes z e) = by e (synced-is k need x.server)
    go (refuses z e) = subst (Plain (fsync p o k)) (sym e) (record { results = refl; own = refl })

module _ (g : Geometry) (x : Model) where
  plain-changed : (c : Call) (p : ℕ) (rows : List Row) → ((changed g c p rows x).returned ≡ 0 → ⊥) → Plain c (changed g c p rows x)
  plain-changed c p rows n = plain-unless c _ _ (λ z. absurd (z refl)) n

  -- "The other results of a refusal are 0, and no buffer changes": of every refusal but fsync's 17 and 2
  pub refused-plain : (c : Call) → ((answer_of g c x).returned ≡ 0 → ⊥) → ((answer_of g c x).returned ≡ Returned.link_lost → ⊥)
      → ((answer_of g c x).returned ≡ Returned.damaged → (p o k : ℕ) → c ≡ fsync p o k → ⊥) → Plain c (answer_of g c x)
  unfolding answer_of push_of take_of renew_of
  refused-plain (question p q) n l d = plain-unless (question p q) _ _ (plain-question p x.view q) n
  refused-plain (change i c) n l d = plain-changed (change i c) i.program (change_rows g x.view c) n
  refused-plain (link (Class.push q)) n l d = plain-unless (push q) _ _ (λ z. record { results = refl; own = refl }) n
  refused-plain (link (Class.fsync p o k)) n l d = plain_sync p o k x n l (λ z. d z p o k refl)
  refused-plain (link Class.cut) n l d = absurd (n refl)
  refused-plain (recovery p (Class.take s)) n l d = plain-unless (Call.take p s) _ _ (λ z. absurd (z refl)) n
  refused-plain (recovery p Class.renew) n l d = plain-unless (Call.renew p) _ _ (λ z. absurd (z refl)) n

-- "Damaged: .. an operation being sent does not apply to the server": only a push and an fsync say so, of well-formed buffers
pub data Damaged (x : Model) : Call → Type 0 where
  by_push : (q : ℕ) (r : Record) → waiting_at q x.log ≡ Some r → any (λ a. before a r) (waiting_of x.log.slots) ≡ false → applies x.server r.operation ≡ false → Damaged x (push q)
  by_sync : (p o k : ℕ)
      → applying (ListN.take k (needed o (waiting_of x.log.slots))) x.server < length (ListN.take k (needed o (waiting_of x.log.slots))) → Damaged x (fsync p o k)

reached-sound : (r : Result ℕ LookupError) → reached_number r ≡ Returned.damaged → ⊥
reached-sound (Ok o) e = omega arith
reached-sound (Err BadName) e = omega arith
reached-sound (Err LongName) e = omega arith
reached-sound (Err NoObject) e = omega arith
reached-sound (Err WrongKind) e = omega arith

listed-sound : (r : Result ℕ ListError) → list_number r ≡ Returned.damaged → ⊥
listed-sound (Ok k) e = omega arith
listed-sound (Err ListBadNumber) e = omega arith
listed-sound (Err ListNoObject) e = omega arith
listed-sound (Err ListWrongKind) e = omega arith
listed-sound (Err Short) e = omega arith

stat-sound : (r : Result Stat ObjectError) → stat_number r ≡ Returned.damaged → ⊥
stat-sound (Ok t) e = omega arith
stat-sound (Err BadNumber) e = omega arith
stat-sound (Err NoObject) e = omega arith

copied-sound : (r : Result ℕ ReadError) → read_number r ≡ Returned.damaged → ⊥
copied-sound (Ok k) e = omega arith
copied-sound (Err ReadBadNumber) e = omega arith
copied-sound (Err ReadNoObject) e = omega arith
copied-sound (Err ReadWrongKind) e = omega arith
copied-sound (Err BadRange) e = omega arith

question-sound : (v : Volume) (q : Question) → (question_answer v q).returned ≡ Returned.damaged → ⊥
question-sound v (Class.lookup s) e = reached-sound (lookup_answer v s) e
question-sound v (Class.list o s) e = listed-sound (list_answer v o s) e
question-sound v (Class.stat o) e = stat-sound (stat_answer v o) e
question-sound v (Class.read o f s) e = copied-sound (read_answer v o f s) e

-- a table that lacks 2, before an answer that is not 2
never-damaged : {C : Type 0} (c : Call) (rows : List Row) (a : Answer) → numbered rows ≡ true → lacks Returned.damaged rows ≡ true → (a.returned ≡ Returned.damaged → ⊥)
    → (unless c rows a).returned ≡ Returned.damaged → C
never-damaged c rows a n l f e =
    let o = own-number Returned.damaged c rows a n l (λ z. omega arith) e in
    absurd (f (ap (λ (b : Answer). b.returned) (sym o.1) ∙ e))

-- the table of push, and what push answers where it lets pass
abbrev pub push_rows : List Record → Option Record → List Row
push_rows w f = row Returned.not_first (of_record false f (preceded w)) ∷ row Returned.none (of_record true f (λ a. false)) ∷ []

abbrev pub push_answer : Volume → Option Record → Answer
push_answer v f = answer (cond (of_record false f (λ a. applies v a.operation)) Returned.accepted Returned.damaged) [] []

push-damaged : (q : ℕ) (x : Model) → (push_of q x).returned ≡ Returned.damaged → Damaged x (push q)
unfolding push_of
push-damaged q x e = go (waiting_at q x.log) refl e
  where
    w : List Record
    w = waiting_of x.log.slots

    fails : (b : Bool) → cond b Returned.accepted Returned.damaged ≡ Returned.damaged → b ≡ false
    fails true h = absurd (omega arith)
    fails false h = refl

    go : (f : Option Record) → waiting_at q x.log ≡ f → (unless (push q) (push_rows w f) (push_answer x.server f)).returned ≡ Returned.damaged → Damaged x (push q)
    go None is h =
        let o = own-number Returned.damaged (push q) (push_rows w None) (push_answer x.server None) refl refl (λ z. omega arith) h in
        absurd (false≢true (sym (passed (push_rows w None) refl o.0).1.0))
    go (Some r) is h =
        let o = own-number Returned.damaged (push q) (push_rows w (Some r)) (push_answer x.server (Some r)) refl refl (λ z. omega arith) h in
        by_push q r is (sym (direct-decides w r) ∙ (passed (push_rows w (Some r)) refl o.0).0) (fails (applies x.server r.operation) (ap (λ (b : Answer). b.returned) (sym o.1) ∙ h))

-- where the operation of the number waits, none that waits precedes it, and it applies, a push is accepted
pub push-passes : (q : ℕ) (x : Model) (r : Record) → waiting_at q x.log ≡ Some r → any (λ a. before a r) (waiting_of x.log.slots) ≡ false → applies x.server r.operation ≡ true
    → push_of q x ≡ answer Returned.accepted [] []
unfolding push_of Refusal.lowest_number
push-passes q x r is free fit =
    let w = waiting_of x.log.slots in
    ap (λ (f : Option Record). unless (push q) (push_rows w f) (push_answer x.server f)) is
    ∙ (λ i. unless (push q) (row Returned.not_first ((direct-decides w r ∙ free) i) ∷ row Returned.none false ∷ []) (answer (cond (fit i) Returned.accepted Returned.damaged) [] []))

fsync-damaged : (p o k : ℕ) (x : Model) → (fsync_of p o k x).returned ≡ Returned.damaged → Damaged x (fsync p o k)
fsync-damaged p o k x e = go (synced-is k need x.server)
  where
    need : List Record
    need = needed o (waiting_of x.log.slots)

    go : Synced k need x.server (sync_answer k need x.server) → Damaged x (fsync p o k)
    go (whole le all is) = let z : ◌≡◌ {A = ℕ} 0 2 = same_number ((sync-damaged p o k x e).answer ∙ is) e in absurd (omega arith)
    go (partly lt all is) = let z : ◌≡◌ {A = ℕ} 17 2 = same_number ((sync-damaged p o k x e).answer ∙ is) e in absurd (omega arith)
    go (broken lt is) = by_sync p o k lt

module _ (g : Geometry) (x : Model) where
  no_change : {C : Type 0} (c : Call) (p : ℕ) (rows : List Row) → numbered (rows ++ room_rows g c x) ≡ true → lacks Returned.damaged (rows ++ room_rows g c x) ≡ true
      → (changed g c p rows x).returned ≡ Returned.damaged → C
  no_change c p rows n l e = never-damaged c (bad_program p ∷ is_marked x.log p ∷ (rows ++ room_rows g c x)) _ n l (λ z. omega arith) e

  -- a change's table has numbers, and none of them is 2
  change-table : (i : Issuer) (c : Change)
      → (numbered (change_rows g x.view c ++ room_rows g (change i c) x) ≡ true) × (lacks Returned.damaged (change_rows g x.view c ++ room_rows g (change i c) x) ≡ true)
  change-table i (Class.create_file d n o) = (refl, refl)
  change-table i (Class.make_directory d n o) = (refl, refl)
  change-table i (Class.remove_file d n) = (refl, refl)
  change-table i (Class.remove_directory d n) = (refl, refl)
  change-table i (Class.rename d n b k) = (refl, refl)
  change-table i (Class.write o f s) = (refl, refl)
  change-table i (Class.set_length o f) = (refl, refl)
  change-table i (Class.forder s) = (refl, refl)

  pub damaged-why : (c : Call) → (answer_of g c x).returned ≡ Returned.damaged → Damaged x c
  unfolding answer_of take_of renew_of
  damaged-why (question p q) e = never-damaged (question p q) (bad_program p ∷ is_marked x.log p ∷ []) _ refl refl (question-sound x.view q) e
  damaged-why (change i c) e = let f = change-table i c in no_change (change i c) i.program (change_rows g x.view c) f.0 f.1 e
  damaged-why (link (Class.push q)) e = push-damaged q x e
  damaged-why (link (Class.fsync p o k)) e = fsync-damaged p o k x e
  damaged-why (link Class.cut) e = absurd (omega arith)
  damaged-why (recovery p (Class.take s)) e = never-damaged (Call.take p s) (bad_program p ∷ row Returned.none (no_loss p x) ∷ row Returned.short_buffer (ltb (length s) 1040) ∷ []) _ refl refl (λ z. omega arith) e
  damaged-why (recovery p Class.renew) e = never-damaged (Call.renew p) (bad_program p ∷ row Returned.losses_left (not (no_loss p x)) ∷ []) _ refl refl (λ z. omega arith) e

-- what an accepted change or forder does and answers: it issues an operation, and perhaps others, and tells the next number
pub record Changes (g : Geometry) (c : Call) (x : Model) : Type 0 where
  pub program : ℕ
  pub first : Operation
  pub others : List Operation
  pub issued : issues (told_of x) c ≡ first ∷ others
  pub effects : accepted_effects c (told_of x) ≡ issuing program (issues (told_of x) c)
  pub results : (answer_of g c x).results ≡ x.log.head.next ∷ []

module _ (g : Geometry) (x : Model) (s : Sound g x) where
  told : (c : Call) (p : ℕ) (rows : List Row) → (changed g c p rows x).returned ≡ 0 → (changed g c p rows x).results ≡ x.log.head.next ∷ []
  told c p rows e = ap (λ (a : Answer). a.results) (accepted-passes c (bad_program p ∷ is_marked x.log p ∷ (rows ++ room_rows g c x)) _ e).1

  -- either remove
  remove-answered : (takes : Entry → Bool) (p d : ℕ) (n : List ℕ) (c : Call) → answer_of g c x ≡ changed g c p (remove_rows takes x.view d n) x
      → (issues (told_of x) c ≡ removes x.view d n) × (accepted_effects c (told_of x) ≡ issuing p (issues (told_of x) c))
      → (answer_of g c x).returned ≡ 0 → Changes g c x
  remove-answered takes p d n c by does e =
      let r : (changed g c p (remove_rows takes x.view d n) x).returned ≡ 0 = sym (ap (λ (a : Answer). a.returned) by) ∙ e in
      let f = remove-accepted g x s takes p d n c does.0 r in
      record {
        program = p;
        first = Operation.remove f.0 d n;
        others = [];
        issued = does.0 ∙ ap (λ (h : Option ℕ). on_found h (λ o. Operation.remove o d n)) f.1;
        effects = does.1;
        results = ap (λ (a : Answer). a.results) by ∙ told c p (remove_rows takes x.view d n) r;
      }

  pub change-answered : (i : Issuer) (c : Change) → (answer_of g (change i c) x).returned ≡ 0 → Changes g (change i c) x
  unfolding answer_of
  change-answered i (Class.create_file d n o) e =
      record { program = i.program; first = Operation.create_file o d n; others = []; issued = refl; effects = refl; results = told (create_file i d n o) i.program (make_rows x.view d n o) e }
  change-answered i (Class.make_directory d n o) e =
      record { program = i.program; first = Operation.make_directory o d n; others = []; issued = refl; effects = refl; results = told (make_directory i d n o) i.program (make_rows x.view d n o) e }
  change-answered i (Class.remove_file d n) e = remove-answered is_file i.program d n (remove_file i d n) refl (refl, refl) e
  change-answered i (Class.remove_directory d n) e = remove-answered is_directory i.program d n (remove_directory i d n) refl (refl, refl) e
  change-answered i (Class.rename d n b k) e =
      let f = rename-accepted g x s i d n b k e in
      record {
        program = i.program;
        first = Operation.rename f.0 d b (displaced f.0 (search x.view b k)) n k;
        others = [];
        issued = ap (λ (h : Option ℕ). on_found h (λ o. Operation.rename o d b (displaced o (search x.view b k)) n k)) f.1;
        effects = refl;
        results = told (rename i d n b k) i.program (rename_rows x.view d n b k) e;
      }
  change-answered i (Class.write o f t) e =
      let k = writes-some (length (contents_of (entry_at x.view o))) o f t (write-some g x s i o f t e) in
      record {
        program = i.program;
        first = k.0;
        others = k.1;
        issued = k.2;
        effects = refl;
        results = told (write i o f t) i.program (write_rows g.blocks x.view o f t) e;
      }
  change-answered i (Class.set_length o f) e =
      record { program = i.program; first = Operation.set_length o f; others = []; issued = refl; effects = refl; results = told (set_length i o f) i.program (length_rows g.blocks x.view o f) e }
  change-answered i (Class.forder t) e =
      record { program = i.program; first = Operation.forder (objects_of t); others = []; issued = refl; effects = refl; results = told (forder i t) i.program (forder_rows x.view t) e }

-- an accepted fsync answers how many it needs
pub sync-answered : (p o k : ℕ) (x : Model) → (fsync_of p o k x).returned ≡ 0 → (fsync_of p o k x).results ≡ length (needed o (waiting_of x.log.slots)) ∷ []
sync-answered p o k x e = go (synced-is k need x.server)
  where
    need : List Record
    need = needed o (waiting_of x.log.slots)

    is : fsync_of p o k x ≡ sync_answer k need x.server
    is = (sync-accepted p o k x e).answer

    go : Synced k need x.server (sync_answer k need x.server) → (fsync_of p o k x).results ≡ length need ∷ []
    go (whole le all z) = ap (λ (b : Answer). b.results) (is ∙ z)
    go (partly lt all z) = let y : ◌≡◌ {A = ℕ} 17 0 = same_number (is ∙ z) e in absurd (omega arith)
    go (broken lt z) = let y : ◌≡◌ {A = ℕ} 2 0 = same_number (is ∙ z) e in absurd (omega arith)

-- an fsync that loses the link answers the k that it sends, fewer than it needs
pub link-answered : (p o k : ℕ) (x : Model) → (fsync_of p o k x).returned ≡ Returned.link_lost
    → ((fsync_of p o k x).results ≡ k ∷ []) × (k < length (needed o (waiting_of x.log.slots)))
link-answered p o k x e = go (synced-is k need x.server)
  where
    need : List Record
    need = needed o (waiting_of x.log.slots)

    is : fsync_of p o k x ≡ sync_answer k need x.server
    is = (sync-link p o k x e).answer

    go : Synced k need x.server (sync_answer k need x.server) → ((fsync_of p o k x).results ≡ k ∷ []) × (k < length need)
    go (whole le all z) = let y : ◌≡◌ {A = ℕ} 0 17 = same_number (is ∙ z) e in absurd (omega arith)
    go (partly lt all z) = (ap (λ (b : Answer). b.results) (is ∙ z), lt)
    go (broken lt z) = let y : ◌≡◌ {A = ℕ} 2 17 = same_number (is ∙ z) e in absurd (omega arith)
