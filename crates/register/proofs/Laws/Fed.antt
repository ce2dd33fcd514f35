-- What the register is fed, by its own sentences, is what a call's effects on the model leave of it.
use Rattle.volume_lookup.specs.declared.lookup.LookupError.TheVariants.{BadName, LongName, NoObject, WrongKind}
use Rattle.volume_lookup.specs.declared.lookup.LookupError.{LookupError}
use Rattle.std.specs.Prelude.{ℕ, ◌+◌, ◌-◌, ◌≤◌, ◌≡◌, Bool, ◌&&◌, length, get_or, take, drop, leb, Result, Ok, Err}
use Rattle.std.proofs.Common.{arith, sym, ◌∙◌, leb-true, leb-false, eqb-true}
use Rattle.std.proofs.Math.Path.{refl, ap}
use mathlib.Core.List.{List, [], ◌∷◌, ◌++◌}
use Rattle.std.proofs.Math.Bool.{true, false, cond}
use Rattle.std.specs.Prelude.{Option, None, Some}
use Rattle.std.proofs.Math.Dec.{eqb}
use Rattle.returned.specs.Returned
use Rattle.names.specs.declared.NameError.{NameError}
use Rattle.names.specs.declared.NameError.TheVariants.{Bad, Long}
use Rattle.names.specs.Name.{name_text_of}
use Rattle.paths.specs.declared.PathText.TheVariants.{Root, Components}
use Rattle.paths.specs.Path.{path_text_of, components}
use Rattle.record.specs.Operation.{Operation, Record, operands}
use Rattle.volume_entry.specs.Entry.{is_directory, contents_of}
use Rattle.volume_tree.specs.Volume.{Volume, entry_at, search}
use Rattle.volume_lookup.specs.Lookup.{sought_answer, checked_answer, component_answer, next_answer, components_answer, path_answer, lookup_answer, next_objects, components_objects, path_objects, lookup_operands, reached_number}
use Rattle.log_rules.specs.Order.{needed}
use Rattle.log_rules.specs.Change.{waiting_of}
use Rattle.session.specs.Class.{Question, Change}
use Rattle.session.specs.Class
use Rattle.session.specs.Call.{Geometry, Issuer, Call, question, change, link, recovery, Answer}
use Rattle.session.specs.Model.{Model, program_rows, told_of}
use Rattle.session.specs.Issue
use Rattle.session.specs.Issue.{writes_at, operations_of}
use Rattle.session.specs.Question.{question_answer}
use Rattle.session.specs.Effect.{Effect, discard, sends, issuing, asked_of, accepted_effects, refused_effects, effects_of}
use Rattle.session.specs.Step.{answer_of, effects_in}
use Rattle.session.proofs.Laws.Possible.{Sound}
use Rattle.session.proofs.Laws.Refusal.{accepted-passes}
use Rattle.session.proofs.Laws.Edit.{write-some, write-begins}
use Rattle.session.proofs.Laws.Write.{writes-append, writes-overwrite, writes-both}
use Rattle.register.specs.Register.{Register, view_of}
use Rattle.register.specs.Feed.{needed_for, on_found, displacing, writing, operations_in, onward, passed, names_in, operands_in, enter, add, add_all, send_one, send_all, lose_all, accepted, refused, feed}
use Rattle.register.proofs.Laws.Happen.{happen, happen_all}
use Rattle.register.proofs.Laws.Covered.{covered-needed}
use Rattle.register.proofs.Laws.Invariant.{Good}
use Rattle.register.proofs.Laws.Kept.{view-replayed, waiting-same}

-- operations added, and sent, one after the other
adds-issued : (p : ℕ) (os : List Operation) (r : Register) → add_all p os r ≡ happen_all (issuing p os) r
unfolding add_all issuing happen_all happen
adds-issued p [] r = refl
adds-issued p (o ∷ os) r = adds-issued p os (add p o (enter p (operands o) r))

pub sent-all : (l : List Record) (r : Register) → send_all l r ≡ happen_all (sends l) r
unfolding send_all happen_all happen
sent-all [] r = refl
sent-all (q ∷ l) r = sent-all l (send_one q.sequence r)

sent-cut : (l : List Record) (r : Register) → lose_all (send_all l r) ≡ happen_all (sends l ++ (discard ∷ [])) r
unfolding send_all happen_all happen
sent-cut [] r = refl
sent-cut (q ∷ l) r = sent-cut l (send_one q.sequence r)

-- what names lead to, and what a rename displaces
found-same : (s : Option ℕ) (f : ℕ → Operation) → on_found s f ≡ Issue.on_found s f
found-same None f = refl
found-same (Some o) f = refl

displacing-same : (o : ℕ) (s : Option ℕ) → displacing o s ≡ Issue.displaced o s
displacing-same o None = refl
displacing-same o (Some i) = refl

renamed-same : (v : Volume) (d e : ℕ) (n k : List ℕ) (s : Option ℕ)
    → on_found s (λ o. Operation.rename o d e (displacing o (search v e k)) n k) ≡ Issue.on_found s (λ o. Operation.rename o d e (Issue.displaced o (search v e k)) n k)
renamed-same v d e n k None = refl
renamed-same v d e n k (Some o) = ap (λ (z : Option ℕ). Operation.rename o d e z n k ∷ []) (displacing-same o (search v e k))

-- some bytes that begin at the length at most
writing-same : (len o f : ℕ) (s : List ℕ) → 1 ≤ length s → f ≤ len → writing len o f s ≡ writes_at len o f s
writing-same len o f s h₁ h₂ = go (leb (f + length s) len) (leb len f) refl refl
  where
    go : (t u : Bool) → leb (f + length s) len ≡ t → leb len f ≡ u
        → cond t (Operation.overwrite o f s ∷ []) (cond u (Operation.append o f s ∷ []) (Operation.overwrite o f (take (len - f) s) ∷ Operation.append o len (drop (len - f) s) ∷ []))
        ≡ writes_at len o f s
    go true u e k = let h = leb-true (f + length s) len e in sym (writes-overwrite len o f s h₁ (omega arith))
    go false true e k =
        let h = leb-true len f k in
        let is : f ≡ len = omega arith in
        ap (λ (j : ℕ). Operation.append o j s ∷ []) is ∙ sym (writes-append len o f s h₁ h)
    go false false e k = let h = leb-false (f + length s) len e in let j = leb-false len f k in sym (writes-both len o f s h₁ (omega arith) (omega arith))

-- the directories and the object that components lead to, where each is found
found_passed : (v : Volume) (cs : List (List ℕ)) (d : ℕ) → reached_number (components_answer v d cs) ≡ 0 → passed v d cs ≡ d ∷ components_objects v d cs
unfolding components_answer component_answer components_objects passed
found_passed v [] d e = refl
found_passed v (c ∷ cs) d e = ap (λ (l : List ℕ). d ∷ l) (go (name_text_of c) (is_directory (entry_at v d)) (search v d c) e (found_passed v cs))
  where
    step : Result (Unit {0}) NameError → Bool → Option ℕ → Result ℕ LookupError
    step t b s = checked_answer t (cond b (sought_answer s) (Err WrongKind))

    go : (t : Result (Unit {0}) NameError) (b : Bool) (s : Option ℕ) → reached_number (next_answer (step t b s) (λ i. components_answer v i cs)) ≡ 0
        → ((i : ℕ) → reached_number (components_answer v i cs) ≡ 0 → passed v i cs ≡ i ∷ components_objects v i cs)
        → onward s (λ i. passed v i cs) ≡ next_objects (step t b s) (λ i. components_objects v i cs)
    go (Ok x) true None h rest = absurd (omega arith)
    go (Ok x) true (Some i) h rest = rest i h
    go (Ok x) false s h rest = absurd (omega arith)
    go (Err Bad) b s h rest = absurd (omega arith)
    go (Err Long) b s h rest = absurd (omega arith)

path-passed : (v : Volume) (s : List ℕ) → reached_number (lookup_answer v s) ≡ 0 → passed v 0 (names_in s) ≡ lookup_operands v s
unfolding lookup_answer lookup_operands path_text_of passed
path-passed v s e = go (leb 1 (length s) && (leb (length s) 1023 && eqb (get_or s 0 0) 47)) (eqb (length s) 1) e
  where
    go : (t u : Bool) → reached_number (path_answer (cond t (cond u (Some Root) (Some Components)) None) (components_answer v 0 (components s))) ≡ 0
        → passed v 0 (cond u [] (components s)) ≡ path_objects (cond t (cond u (Some Root) (Some Components)) None) (components_objects v 0 (components s))
    go true true h = refl
    go true false h = found_passed v (components s) 0 h
    go false u h = absurd (omega arith)

module _ (g : Geometry) (x : Model) (h : Sound g x) where
  -- a change's operations, and a question's operands, where the call is accepted
  made-same : (i : Issuer) (c : Change) → (answer_of g (change i c) x).returned ≡ 0 → operations_in x.view c ≡ operations_of (told_of x) c
  unfolding answer_of
  made-same i (Class.create_file d n o) e = refl
  made-same i (Class.make_directory d n o) e = refl
  made-same i (Class.remove_file d n) e = found-same (search x.view d n) _
  made-same i (Class.remove_directory d n) e = found-same (search x.view d n) _
  made-same i (Class.rename d n b k) e = renamed-same x.view d b n k (search x.view d n)
  made-same i (Class.write o f s) e =
      writing-same (length (contents_of (entry_at x.view o))) o f s (write-some g x h i o f s e) (write-begins g x h i o f s e)
  made-same i (Class.set_length o f) e = refl
  made-same i (Class.forder s) e = refl

  asked-same : (p : ℕ) (q : Question) → (answer_of g (question p q) x).returned ≡ 0 → operands_in x.view q ≡ asked_of x.view q
  unfolding answer_of
  asked-same p q e = go q (ap (λ (a : Answer). a.returned) (sym (accepted-passes (question p q) (program_rows x.log p) (question_answer x.view q) e).1) ∙ e)
    where
      go : (q : Question) → (question_answer x.view q).returned ≡ 0 → operands_in x.view q ≡ asked_of x.view q
      go (Class.lookup s) k = path-passed x.view s k
      go (Class.list o s) k = refl
      go (Class.stat o) k = refl
      go (Class.read o f s) k = refl

module _ (g : Geometry) (r : Register) (x : Model) (k : Good g r x) where
  pub needed-same : (o : ℕ) → needed_for o r ≡ needed o (waiting_of x.log.slots)
  needed-same o = covered-needed o r.operations ∙ ap (needed o) (waiting-same g r x k.kept)

  view-same : view_of r ≡ x.view
  view-same = view-replayed g r x k.kept

  -- the operations that an accepted change is
  pub operations-same : (i : Issuer) (c : Change) → (answer_of g (change i c) x).returned ≡ 0 → operations_in (view_of r) c ≡ operations_of (told_of x) c
  operations-same i c e = ap (λ (v : Volume). operations_in v c) view-same ∙ made-same g x k.kept.sound i c e

  accepted-fed : (c : Call) → (answer_of g c x).returned ≡ 0 → accepted c r ≡ happen_all (accepted_effects c (told_of x)) r
  unfolding happen_all happen
  accepted-fed (question p q) e = ap (λ (l : List ℕ). enter p l r) (ap (λ (v : Volume). operands_in v q) view-same ∙ asked-same g x k.kept.sound p q e)
  accepted-fed (change i c) e =
      ap (λ (l : List Operation). add_all i.program l r) (operations-same i c e) ∙ adds-issued i.program (operations_of (told_of x) c) r
  accepted-fed (link (Class.push q)) e = refl
  accepted-fed (link (Class.fsync p o j)) e = ap (λ (l : List Record). send_all l (enter p (o ∷ []) r)) (needed-same o) ∙ sent-all (needed o (waiting_of x.log.slots)) (enter p (o ∷ []) r)
  accepted-fed (link Class.cut) e = refl
  accepted-fed (recovery p (Class.take s)) e = refl
  accepted-fed (recovery p Class.renew) e = refl

  refused-fed : (c : Call) (a : Answer) → refused c a r ≡ happen_all (refused_effects c a (told_of x)) r
  unfolding happen_all happen
  refused-fed (question p q) a = refl
  refused-fed (change i c) a = refl
  refused-fed (link (Class.push q)) a = refl
  refused-fed (link (Class.fsync p o j)) a = go (eqb a.returned Returned.link_lost) (eqb a.returned Returned.damaged)
    where
      need : List Record
      need = needed o (waiting_of x.log.slots)

      m : ℕ
      m = get_or a.results 0 0

      go : (t u : Bool)
          → cond t (lose_all (send_all (take j (needed_for o r)) (enter p (o ∷ []) r))) (cond u (send_all (take m (needed_for o r)) r) r)
          ≡ happen_all (cond t (Effect.note p (o ∷ []) ∷ (sends (take j need) ++ (discard ∷ []))) (cond u (sends (take m need)) [])) r
      go true u = ap (λ (l : List Record). lose_all (send_all (take j l) (enter p (o ∷ []) r))) (needed-same o) ∙ sent-cut (take j need) (enter p (o ∷ []) r)
      go false true = ap (λ (l : List Record). send_all (take m l) r) (needed-same o) ∙ sent-all (take m need) r
      go false false = refl
  refused-fed (link Class.cut) a = refl
  refused-fed (recovery p l) a = refl

  pub fed : (c : Call) → feed c (answer_of g c x) r ≡ happen_all (effects_in g c x) r
  unfolding feed effects_of
  fed c = go (eqb (answer_of g c x).returned Returned.accepted) refl
    where
      go : (t : Bool) → eqb (answer_of g c x).returned Returned.accepted ≡ t
          → cond t (accepted c r) (refused c (answer_of g c x) r) ≡ happen_all (cond t (accepted_effects c (told_of x)) (refused_effects c (answer_of g c x) (told_of x))) r
      go true e = accepted-fed c (eqb-true _ _ e)
      go false e = refused-fed c (answer_of g c x)
