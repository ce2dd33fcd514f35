-- `session_fsync::sync` meets its contract. Assumes nothing.
use mathlib.Core.Path.{◌≡◌, refl, sym, ap, ◌∙◌}
use mathlib.Core.List.{List, [], ◌∷◌}
use Prim.Native.Nat.{ℕ}
use lib.ListN.{length}
use Rattle.log_fsync.specs.declared.Synced.{Synced}
use Rattle.log_fsync.specs.declared.Synced.TheVariants.{Sent, Stopped, Lost}
use Rattle.returned.specs.Laws.Refusal.{refused-number, refused-some, not-refused}
use Rattle.log_fsync.specs.Answer.{synced_number, sends_made}
use Rattle.session.specs.Call.{buffers, fsync}
use Rattle.session.specs.Step.{given}
use Rattle.session_admission.specs.Laws.Admitted.{not-admitted, admitted}
use Rattle.session_fsync.specs.Laws.Sync.{sync-refused, sync-small, followed, synced}
use borrow.Author.Rules.{rules}
use Rattle.session_fsync.proofs.sync.Goals as goal

pub returns-in-Err : goal.returns-in-Err
returns-in-Err c =
    let a = c.args in
    rw (sym (refused-number c.in-Err.is)) (sym (not-admitted _ (fsync a.program a.object a.sends) _ _ (sym c.admit.ensures) (refused-some c.in-Err.is)))

pub sync_refusal-requires : goal.sync_refusal-requires
sync_refusal-requires c =
    let a = c.args in
    let h = admitted a.n a.b a.m a.server.now a.view.now a.log.now (sym c.admit.ensures ∙ not-refused _ c.in_default.not-Err) in
    record { lent = h.view.lent; log_len = h.log.whole }

pub returns-in-Err-sync_refusal : goal.returns-in-Err-sync_refusal
returns-in-Err-sync_refusal c =
    let a = c.args in
    let h = admitted a.n a.b a.m a.server.now a.view.now a.log.now (sym c.admit.ensures ∙ not-refused _ c.in_default.not-Err) in
    rw (sym (refused-number c.in-Err-sync_refusal.is))
    (sym (sync-refused _ _ _ a.program a.object a.sends _ _ _ h _ c.sync_refusal.ensures (refused-some c.in-Err-sync_refusal.is)))

pub sync_object-answer-requires : goal.sync_object-answer-requires
sync_object-answer-requires c =
    let a = c.args in
    let h = admitted a.n a.b a.m a.server.now a.view.now a.log.now (sym c.admit.ensures ∙ not-refused _ c.in_default.not-Err) in
    let fine = sym (not-refused _ c.in_default-sync_refusal.not-Err) ∙ c.sync_refusal.ensures in
    record {
      formed = h.server;
      logged = h.log;
      program_bound = sync-small _ _ _ a.program a.object a.sends _ _ _ h fine;
    }

pub copy_volume-requires : goal.copy_volume-requires
copy_volume-requires c =
    let a = c.args in
    let h = admitted a.n a.b a.m a.server.now a.view.now a.log.now (sym c.admit.ensures ∙ not-refused _ c.in_default.not-Err) in
    let same : length c.sync_object-answer.new.server ≡ length a.server.now = search rules in
    h.view.lent.whole ∙ sym h.server.lent.whole ∙ sym same

-- an answer that is none of a lost link leaves the view
kept : (r : Synced) (v s : List ℕ) → ((k : ℕ) → r ≡ Lost k → ⊥) → v ≡ followed r v s
kept (Sent d) v s n = refl
kept (Stopped d) v s n = refl
kept (Lost d) v s n = absurd (n d refl)

pub returns-in-Lost : goal.returns-in-Lost
returns-in-Lost c =
    let a = c.args in
    let h = admitted a.n a.b a.m a.server.now a.view.now a.log.now (sym c.admit.ensures ∙ not-refused _ c.in_default.not-Err) in
    let fine = sym (not-refused _ c.in_default-sync_refusal.not-Err) ∙ c.sync_refusal.ensures in
    let g = c.sync_object-answer in
    rw (c.copy_volume.ensures ∙ ap (λ (r : Synced). followed r a.view.now g.new.server) (sym c.in-Lost.is))
    (synced _ _ _ a.program a.object a.sends _ _ _ h fine g.result g.new.server g.new.log g.ensures)

pub returns-in_default-answer : goal.returns-in_default-answer
returns-in_default-answer c =
    let a = c.args in
    let h = admitted a.n a.b a.m a.server.now a.view.now a.log.now (sym c.admit.ensures ∙ not-refused _ c.in_default.not-Err) in
    let fine = sym (not-refused _ c.in_default-sync_refusal.not-Err) ∙ c.sync_refusal.ensures in
    let g = c.sync_object-answer in
    let view = kept g.result a.view.now g.new.server c.in_default-answer.not-Lost in
    (λ i. given (synced_number g.result) (sends_made g.result ∷ []) [] (buffers g.new.server (view i) g.new.log))
    ∙ synced _ _ _ a.program a.object a.sends _ _ _ h fine g.result g.new.server g.new.log g.ensures
