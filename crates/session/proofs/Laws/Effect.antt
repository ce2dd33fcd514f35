-- Every effect that may take place leaves the two volumes and the log well formed.
use Rattle.std.specs.Prelude.{ℕ, ◌≡◌, List, [], ◌∷◌, ◌++◌, true}
use Rattle.std.proofs.Common.{sym, ap, subst}
use Rattle.std.specs.Prelude.{Option, Some}
use Rattle.record.specs.Operation.{Operation, Record, record_of}
use Rattle.volume_apply.proofs.Laws.Apply.{apply-good}
use Rattle.log_rules.proofs.Laws.Slot.{formed-inv}
use Rattle.log_rules.specs.Change
use Rattle.log_rules.proofs.Laws.Change.{note-good, issue-good, sent-good, discard-good, taken-good, renewed-good, waiting-good, at-waiting}
use Rattle.session.specs.Call.{Geometry}
use Rattle.session.specs.Model.{Model, agreeing}
use Rattle.session.specs.Effect.{Effect, note, issue, send, discard, take, renew, sent_found, perform, perform_all}
use Rattle.session.proofs.Laws.Issue.{record-good}
use Rattle.session.proofs.Laws.Possible.{Sound, Issuable, Sendable, Possible, AllPossible}
use Rattle.session.proofs.Laws.Agree.{effect-agrees}

-- a send of the operation that waits under a number
pub send-is : (q : ℕ) (x : Model) (r : Record) → Change.waiting_at q x.log ≡ Some r → perform (send q) x ≡ sent_found (Some r) x
unfolding perform
send-is q x r e = ap (λ (f : Option Record). sent_found f x) e

issue-sound : (g : Geometry) (x : Model) (p : ℕ) (o : Operation) → Sound g x → Issuable g x p o → Sound g (perform (issue p o) x)
unfolding perform
issue-sound g x p o s i =
    let q = x.log.head.next in
    let low = (formed-inv g.objects g.blocks g.capacity x.log s.log).head.from_one in
    let good = record-good q p o low i.number i.program i.recordable.good in
    record {
      range = s.range;
      server = s.server;
      view = apply-good g.objects g.blocks x.view (record_of q p o) s.view good (i.recordable.within q p) i.fit;
      log = issue-good g.objects g.blocks g.capacity p o x.log i.program s.log i.room i.number good (i.recordable.within q p);
      agree = effect-agrees g x (issue p o) i s.agree;
    }

send-sound : (g : Geometry) (x : Model) (q : ℕ) (r : Record) → Sound g x → Sendable x q r → Sound g (perform (send q) x)
send-sound g x q r s h =
    let f = waiting-good g.objects g.blocks g.capacity x.log s.log (at-waiting q x.log r h.found).0 in
    subst (Sound g) (sym (send-is q x r h.found))
    (record {
      range = s.range;
      server = apply-good g.objects g.blocks x.server r s.server f.0 f.1 h.fit;
      view = s.view;
      log = sent-good g.objects g.blocks g.capacity r.sequence x.log s.log;
      agree = subst (λ (y : Model). agreeing y ≡ true) (send-is q x r h.found) (effect-agrees g x (send q) (r, h) s.agree);
    })

pub perform-sound : (g : Geometry) (x : Model) (e : Effect) → Sound g x → Possible g x e → Sound g (perform e x)
unfolding perform
perform-sound g x (note p ops) s h =
    record {
      range = s.range;
      server = s.server;
      view = s.view;
      log = note-good g.objects g.blocks g.capacity p ops x.log h s.log;
      agree = effect-agrees g x (note p ops) h s.agree;
    }
perform-sound g x (issue p o) s h = issue-sound g x p o s h
perform-sound g x (send q) s h = send-sound g x q h.0 s h.1
perform-sound g x discard s h =
    record {
      range = s.range;
      server = s.server;
      view = s.server;
      log = discard-good g.objects g.blocks g.capacity x.log s.log;
      agree = effect-agrees g x discard h s.agree;
    }
perform-sound g x (take p) s h =
    record {
      range = s.range;
      server = s.server;
      view = s.view;
      log = taken-good g.objects g.blocks g.capacity p x.log s.log;
      agree = effect-agrees g x (take p) h s.agree;
    }
perform-sound g x (renew p) s h =
    record {
      range = s.range;
      server = s.server;
      view = s.view;
      log = renewed-good g.objects g.blocks g.capacity p x.log s.log;
      agree = effect-agrees g x (renew p) h s.agree;
    }

pub all_sound : (g : Geometry) (es : List Effect) (x : Model) → Sound g x → AllPossible g x es → Sound g (perform_all es x)
unfolding perform_all
all_sound g [] x s h = s
all_sound g (e ∷ es) x s h = all_sound g es (perform e x) (perform-sound g x e s h.0) h.1

-- effects after effects
pub all_append : (g : Geometry) (es fs : List Effect) (x : Model) → AllPossible g x es → AllPossible g (perform_all es x) fs → AllPossible g x (es ++ fs)
unfolding perform_all
all_append g [] fs x h k = k
all_append g (e ∷ es) fs x h k = (h.0, all_append g es fs (perform e x) h.1 k)
