-- After an operation is issued the log and the view are of the right form again, and tell of what it left: so the next operation of the
-- same call may be issued on them, and what one and then others leave is what all of them leave. Assumes nothing.
use Rattle.std.specs.Prelude.{ℕ, ◌<◌, ◌≡◌, List, [], ◌∷◌, true, length}
use Rattle.std.proofs.Common.{sym, ◌∙◌, subst}
use Rattle.std.proofs.Math.Path.{ap}
use Rattle.record.specs.Operation.{Operation, Record, record_of, operands}
use Rattle.volume_tree.specs.Volume.{Volume}
use Rattle.volume_tree.specs.Form.{well_formed}
use Rattle.volume_tree.specs.Stored.{encode_volume, read_volume}
use Rattle.volume_tree.specs.Laws.Stored.{read-good}
use Rattle.volume_tree.specs.Laws.Lent.{encoded-formed}
use Rattle.volume_tree.specs.Code.Lent.{Formed}
use Rattle.volume_apply.specs.Apply.{apply}
use Rattle.volume_apply.proofs.Laws.Apply.{apply-good}
use Rattle.log_rules.specs.Slot.{Log, well_formed_log}
use Rattle.log_rules.specs.Stored.{encode_log, read_log}
use Rattle.log_rules.proofs.Laws.Stored.{read-log}
use Rattle.log_rules.specs.Change.{note}
use Rattle.log_rules.proofs.Laws.Change.{note-good, issue-good, noted-length}
use Rattle.log_rules.proofs.Laws.Geometry.{logged-whole}
use Rattle.log_rules.specs.Code.Slots.{Logged}
use Rattle.log_slots.specs.Laws.Slot.{head-limits}
use Rattle.log_draft.specs.Code.Issued.{Issuable, issued_log, Issued, Room, issued_all, applied_all, AllIssued}

-- One operation is a list of one.
pub one-issued : {n b m x p : ℕ} {log view : List ℕ} {v : Volume} {l : Log} {o : Operation} → Issued n b m x log view v l (record_of l.head.next p o)
    → AllIssued b m x log view v l p (o ∷ [])
unfolding issued_all applied_all
one-issued h = record { gives = h.gives; log = h.log; view = h.view }

module _ (n b m : ℕ) (s t : List ℕ) (u : Logged n b m s) (f : Formed n b t) (r : Record) (able : Issuable n b (read_volume n b t) r)
    (room : Room m s) (first : r.sequence ≡ (read_log m s).head.next) where
  issued-form : well_formed_log n b m (issued_log r (read_log m s)) ≡ true
  issued-form =
      let l = read_log m s in
      let p = r.program in
      let o = r.operation in
      let small = (head-limits r able.sound).1 in
      let is : r ≡ record_of l.head.next p o = ap (λ (j : ℕ). record_of j p o) first in
      let c : length (note p (operands o) l).slots < m = rw (noted-length p (operands o) l.slots) room.0 in
      issue-good n b m p o (note p (operands o) l) small (note-good n b m p (operands o) l small u.form) c room.1 (rw is at able.sound) (rw is at able.fit)

  module _ (x : ℕ) (log view : List ℕ) (h : Issued n b m x log view (read_volume n b t) (read_log m s) r) where
    -- The log.
    pub issued-logged : Logged n b m log
    issued-logged = subst (Logged n b m) (sym h.log) (logged-whole n b m (issued_log r (read_log m s)) issued-form u.objects u.blocks u.most)

    pub issued-read : read_log m log ≡ issued_log r (read_log m s)
    issued-read = ap (read_log m) h.log ∙ read-log n b m (issued_log r (read_log m s)) issued-form

    applied-form : well_formed n b (apply (read_volume n b t) r.operation) ≡ true
    applied-form = apply-good n b (read_volume n b t) r f.form able.sound able.fit able.ready

    -- The view.
    pub issued-formed : Formed n b view
    issued-formed =
        let l = f.lent in
        subst (Formed n b) (sym h.view) (encoded-formed n b (apply (read_volume n b t) r.operation) l.fewest l.most l.least l.blocks applied-form)

    pub issued-view : read_volume n b view ≡ apply (read_volume n b t) r.operation
    issued-view = ap (read_volume n b) h.view ∙ read-good n b (apply (read_volume n b t) r.operation) f.lent.most f.lent.blocks applied-form

    -- One, and then others on what it left.
    pub more-issued : (os : List Operation) (y : ℕ) (log₂ view₂ : List ℕ) → AllIssued b m y log₂ view₂ (read_volume n b view) (read_log m log) r.program os
        → AllIssued b m x log₂ view₂ (read_volume n b t) (read_log m s) r.program (r.operation ∷ os)
    unfolding issued_all applied_all
    more-issued os y log₂ view₂ k =
        record {
          gives = h.gives;
          log = k.log ∙ ap (λ (l : Log). encode_log m (issued_all r.program os l)) issued-read;
          view = k.view ∙ ap (λ (v : Volume). encode_volume b (applied_all os v)) issued-view;
        }
