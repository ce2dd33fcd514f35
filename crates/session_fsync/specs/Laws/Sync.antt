-- What fsync answers and leaves, from its counted sends. Assumes nothing.
use Rattle.std.specs.Prelude.{ℕ, ◌<◌, Bool, leb, ltb}
use Rattle.std.proofs.Common.{arith, ◌∙◌, subst, ltb-true, ne_eqb}
use Rattle.std.proofs.Math.Path.{◌≡◌, refl, sym, ap}
use mathlib.Core.List.{List, [], ◌∷◌, ◌++◌, Memᴰ}
use Rattle.std.proofs.Math.Bool.{true, false, cond}
use Rattle.std.proofs.Math.ListN.{length}
use Rattle.std.proofs.Math.ListN
use Rattle.std.proofs.Math.Seq.{take-length}
use Rattle.std.proofs.lemmas.Bool.{not-false}
use Rattle.returned.specs.Returned
use Rattle.record.specs.Operation.{Record}
use Rattle.volume_tree.specs.Volume.{Volume}
use Rattle.volume_tree.specs.Stored.{read_volume}
use Rattle.volume_tree.specs.Laws.Lent.{length-read}
use Rattle.log_rules.specs.Slot.{well_formed_log}
use Rattle.log_rules.specs.Stored.{read_log}
use Rattle.log_rules.specs.Order.{needed}
use Rattle.log_rules.specs.Change.{waiting_of}
use Rattle.log_rules.specs.Change
use Rattle.log_rules.proofs.Laws.Change.{note-good, noted-waiting, waiting-in-order}
use Rattle.log_rules.specs.Sends.{applying, apply_all, sent_all}
use Rattle.log_fsync.specs.declared.Synced.{Synced}
use Rattle.log_fsync.specs.declared.Synced.TheVariants.{Sent, Stopped, Lost}
use Rattle.log_fsync.specs.Answer.{synced_number, sends_made}
use Rattle.log_fsync.specs.Code.Synced.{needed_in, sync_result, SyncLeaves}
use Rattle.session.specs.Call.{geometry, buffers, fsync, Answer, answer, refusal}
use Rattle.session.specs.Refusal.{Row}
use Rattle.session.specs.Model.{Model, with_server, with_log, unless}
use Rattle.session.specs.Send.{sync_answer, fsync_of, sync_rows}
use Rattle.session.specs.Effect.{Effect, note, discard, perform, perform_all, sends, effects_of, broken_sync}
use Rattle.session.specs.Step.{answer_of, given, encode_model, step, turned_down}
use Rattle.session.specs.Code.Table.{first_number}
use Rattle.session.proofs.Laws.Table.{first-lowest}
use Rattle.session.proofs.Laws.Refusal.{Passed, passed, lacks, never}
use Rattle.session.proofs.Laws.Outcome.{outcome}
use Rattle.session.proofs.Laws.Perform.{sends-performed}
use Rattle.session.proofs.Laws.Ready.{Ready, needed-ready, ready-take}
use Rattle.session_admission.specs.Code.Admitted.{model_in, Admitted}
use Rattle.session_admission.specs.Laws.Turn.{refused, answered}

-- effects one behind the other
performed-behind : (es fs : List Effect) (x : Model) → perform_all (es ++ fs) x ≡ perform_all fs (perform_all es x)
unfolding perform_all
performed-behind [] fs x = refl
performed-behind (e ∷ es) fs x = performed-behind es fs (perform e x)

-- the answer for what became of the sends
abbrev result_answer : Synced → Answer
result_answer r = answer (synced_number r) (sends_made r ∷ []) []

-- the view after the sends: it stays, but for a cut, which copies the server to it
abbrev pub followed : Synced → List ℕ → List ℕ → List ℕ
followed (Sent d) v s = v
followed (Stopped d) v s = v
followed (Lost d) v s = s

module _ (k : ℕ) (need : List Record) (v : Volume) where
  sync-answers : sync_answer k need v ≡ result_answer (sync_result k need v)
  unfolding sync_result
  sync-answers = go (ltb (applying (ListN.take k need) v) (length (ListN.take k need))) (leb (length need) k)
    where
      go : (t u : Bool)
          → cond t (answer Returned.damaged (applying (ListN.take k need) v ∷ []) []) (cond u (answer Returned.accepted (length need ∷ []) []) (answer Returned.link_lost (k ∷ []) []))
          ≡ result_answer (cond t (Stopped (applying (ListN.take k need) v)) (cond u (Sent (length need)) (Lost k)))
      go true u = refl
      go false true = refl
      go false false = refl

  -- All that is needed was sent, or as much as the link carries.
  sent-all : (d : ℕ) → Sent d ≡ sync_result k need v → d ≡ length need
  unfolding sync_result
  sent-all d e = go (ltb (applying (ListN.take k need) v) (length (ListN.take k need))) (leb (length need) k) e
    where
      go : (t u : Bool) → Sent d ≡ cond t (Stopped (applying (ListN.take k need) v)) (cond u (Sent (length need)) (Lost k)) → d ≡ length need
      go true u z = let y : ◌≡◌ {A = ℕ} 0 1 = cc in absurd (omega arith)
      go false true z = cc
      go false false z = let y : ◌≡◌ {A = ℕ} 0 1 = cc in absurd (omega arith)

  lost-after : (d : ℕ) → Lost d ≡ sync_result k need v → d ≡ k
  unfolding sync_result
  lost-after d e = go (ltb (applying (ListN.take k need) v) (length (ListN.take k need))) (leb (length need) k) e
    where
      go : (t u : Bool) → Lost d ≡ cond t (Stopped (applying (ListN.take k need) v)) (cond u (Sent (length need)) (Lost k)) → d ≡ k
      go true u z = let y : ◌≡◌ {A = ℕ} 0 1 = cc in absurd (omega arith)
      go false true z = let y : ◌≡◌ {A = ℕ} 0 1 = cc in absurd (omega arith)
      go false false z = cc

module _ (n b m p o k : ℕ) (s v l : List ℕ) (h : Admitted n b m s v l) where
  -- what is needed, and the table of refusals
  abbrev need : List Record
  need = needed_in o (read_log m l)

  abbrev rows : List Row
  rows = sync_rows p o (read_volume n b v) (read_log m l)

  is : answer_of (geometry n b m) (fsync p o k) (model_in n b m s v l) ≡ unless (fsync p o k) rows (sync_answer k need (read_volume n b s))
  unfolding answer_of fsync_of
  is = refl

  quiet : (j : ℕ) → (j ≡ 17 → ⊥) → (j ≡ 2 → ⊥) → broken_sync p o k (refusal j (fsync p o k)) need ≡ []
  quiet j x y = rw (ne_eqb j 17 x, ne_eqb j 2 y)

  -- A refusal before the sends: nothing is sent, and nothing is cut.
  pub sync-refused : (j : ℕ) → j ≡ first_number (sync_rows p o (read_volume n b v) (read_log m l)) → (j ≡ 0 → ⊥)
      → step (geometry n b m) (fsync p o k) (buffers s v l) ≡ turned_down j (fsync p o k) (buffers s v l)
  sync-refused j e z =
      let not : (i : ℕ) → (i ≡ 0 → ⊥) → lacks i rows ≡ true → j ≡ i → ⊥ =
      λ i w f y. never i rows refl f w (first-lowest 0 rows refl ∙ sym e ∙ y) in
      refused n b m s v l h (fsync p o k) rows (sync_answer k need (read_volume n b s)) is refl j e z
      (quiet j (not 17 (λ y. omega arith) refl) (not 2 (λ y. omega arith) refl))

  module _ (e : 0 ≡ first_number (sync_rows p o (read_volume n b v) (read_log m l))) where
    none-holds : Passed rows
    none-holds = passed rows refl (first-lowest 0 rows refl ∙ sym e)

    -- The program and the object are in range.
    pub sync-small : (p < 32) × (o < 256)
    sync-small =
        let f = ltb-true o (length (read_volume n b v)) (not-false _ none-holds.1.1.0) in
        (ltb-true p 32 (not-false _ none-holds.0), omega (arith, f, length-read n b v, h.view.lent.most))

    goes_on : (r : Synced) → r ≡ sync_result k need (read_volume n b s) → answer_of (geometry n b m) (fsync p o k) (model_in n b m s v l) ≡ result_answer r
    goes_on r g =
        answered n b m s v l h (fsync p o k) rows (sync_answer k need (read_volume n b s)) is refl e
        ∙ sync-answers k need (read_volume n b s) ∙ ap result_answer (sym g)

    -- What some of the needed sends leave of a model in which the same operations wait.
    some-sent : (d : ℕ) (y : Model) → well_formed_log n b m y.log ≡ true → waiting_of y.log.slots ≡ waiting_of (read_log m l).slots
        → perform_all (sends (ListN.take d need)) y
        ≡ with_server (apply_all (ListN.take d need) y.server) (with_log (sent_all (ListN.take d need) y.log) y)
    some-sent d y w same =
        let wait = waiting_of (read_log m l).slots in
        let r : Ready wait (ListN.take d (needed o wait)) = ready-take wait (needed o wait) d (needed-ready wait o (waiting-in-order n b m (read_log m l) h.log.form)) in
        sends-performed n b m (ListN.take d (needed o wait)) y w r.order (λ a i. subst (λ (z : List Record). Memᴰ a z) (sym same) (r.wait a i))

    -- with the program's dependence noted
    abbrev noted : Model
    noted = with_log (Change.note p (o ∷ []) (read_log m l)) (model_in n b m s v l)

    noted-sent : (d : ℕ) → perform_all (sends (ListN.take d need)) noted
        ≡ with_server (apply_all (ListN.take d need) (read_volume n b s))
        (with_log (sent_all (ListN.take d need) (Change.note p (o ∷ []) (read_log m l))) (model_in n b m s v l))
    noted-sent d =
        some-sent d noted (note-good n b m p (o ∷ []) (read_log m l) sync-small.0 h.log.form) (noted-waiting p (o ∷ []) (read_log m l).slots)

    -- "If k is at least d it sends d".
    sync-sent : (d : ℕ) (s' l' : List ℕ) → SyncLeaves b m p o k (read_volume n b s) (read_log m l) s' l' (Sent d)
        → given 0 (d ∷ []) [] (buffers s' v l') ≡ step (geometry n b m) (fsync p o k) (buffers s v l)
    unfolding perform_all perform effects_of
    sync-sent d s' l' y =
        let all : need ≡ ListN.take d need =
        sym (take-length need) ∙ ap (λ (i : ℕ). ListN.take i need) (sym (sent-all k need (read_volume n b s) d y.gives)) in
        sym (outcome (geometry n b m) (fsync p o k) (buffers s v l) (model_in n b m s v l) (answer 0 (d ∷ []) []) (note p (o ∷ []) ∷ sends need) h.holds
        (goes_on (Sent d) y.gives) refl
        ∙ ap (λ (z : List Record). record { gives = answer 0 (d ∷ []) []; leaves = encode_model (geometry n b m) (perform_all (sends z) noted) }) all
        ∙ ap (λ (z : Model). record { gives = answer 0 (d ∷ []) []; leaves = encode_model (geometry n b m) z }) (noted-sent d)
        ∙ (λ i. record { gives = answer 0 (d ∷ []) []; leaves = buffers (sym y.sent_to i) (h.view.stored i) (sym y.leaves i) }))

    -- "An fsync whose bad operation is among the first k gives 2 without a cut, keeps the sends before it and reports them".
    sync-stopped : (d : ℕ) (s' l' : List ℕ) → SyncLeaves b m p o k (read_volume n b s) (read_log m l) s' l' (Stopped d)
        → given 2 (d ∷ []) [] (buffers s' v l') ≡ step (geometry n b m) (fsync p o k) (buffers s v l)
    unfolding effects_of
    sync-stopped d s' l' y =
        sym (outcome (geometry n b m) (fsync p o k) (buffers s v l) (model_in n b m s v l) (answer 2 (d ∷ []) []) (sends (ListN.take d need)) h.holds
        (goes_on (Stopped d) y.gives) refl
        ∙ ap (λ (z : Model). record { gives = answer 2 (d ∷ []) []; leaves = encode_model (geometry n b m) z }) (some-sent d (model_in n b m s v l) h.log.form refl)
        ∙ (λ i. record { gives = answer 2 (d ∷ []) []; leaves = buffers (sym y.sent_to i) (h.view.stored i) (sym y.leaves i) }))

    -- Refusal 17 "sends the first k, then cuts, and reports k": the view is the server as it is then.
    sync-lost : (d : ℕ) (s' l' : List ℕ) → SyncLeaves b m p o k (read_volume n b s) (read_log m l) s' l' (Lost d)
        → given 17 (d ∷ []) [] (buffers s' s' l') ≡ step (geometry n b m) (fsync p o k) (buffers s v l)
    unfolding perform_all perform effects_of
    sync-lost d s' l' y =
        let same : k ≡ d = sym (lost-after k need (read_volume n b s) d y.gives) in
        sym (outcome (geometry n b m) (fsync p o k) (buffers s v l) (model_in n b m s v l) (answer 17 (d ∷ []) [])
        (note p (o ∷ []) ∷ (sends (ListN.take k need) ++ (discard ∷ []))) h.holds
        (goes_on (Lost d) y.gives) refl
        ∙ ap (λ (z : ℕ). record { gives = answer 17 (d ∷ []) []; leaves = encode_model (geometry n b m) (perform_all (sends (ListN.take z need) ++ (discard ∷ [])) noted) }) same
        ∙ ap (λ (z : Model). record { gives = answer 17 (d ∷ []) []; leaves = encode_model (geometry n b m) z })
        (performed-behind (sends (ListN.take d need)) (discard ∷ []) noted ∙ ap (perform discard) (noted-sent d))
        ∙ (λ i. record { gives = answer 17 (d ∷ []) []; leaves = buffers (sym y.sent_to i) (sym y.sent_to i) (sym y.leaves i) }))

    -- What became of the sends, with the view that follows.
    pub synced : (r : Synced) (s' l' : List ℕ) → SyncLeaves b m p o k (read_volume n b s) (read_log m l) s' l' r
        → given (synced_number r) (sends_made r ∷ []) [] (buffers s' (followed r v s') l') ≡ step (geometry n b m) (fsync p o k) (buffers s v l)
    synced (Sent d) = sync-sent d
    synced (Stopped d) = sync-stopped d
    synced (Lost d) = sync-lost d
