-- Every effect keeps the log's bits what the history of calls says, and so does a list of effects.
use Rattle.std.specs.Prelude.{◌+◌, ◌<◌}
use Rattle.std.proofs.Common.{arith, sym, ap, subst, ⊎_elim}
use mathlib.Core.List.{List, [], ◌∷◌, Memᴰ}
use Rattle.std.specs.Prelude.{Option}
use Rattle.record.specs.Operation.{Record}
use Rattle.volume_tree.specs.Volume.{Volume}
use Rattle.log_rules.specs.Programs.{holds}
use Rattle.log_rules.proofs.Laws.Program.{holds-none}
use Rattle.log_rules.specs.Slot.{Log, empty_log, sequence_of}
use Rattle.log_rules.proofs.Laws.Slot.{formed-inv}
use Rattle.log_rules.proofs.Laws.Order.{Rising}
use Rattle.log_rules.proofs.Laws.Change.{rising-inv}
use Rattle.log_rules.proofs.Laws.Chain.{ordered-rising}
use Rattle.session.specs.Call.{Geometry}
use Rattle.session.specs.Model.{Model}
use Rattle.session.specs.Effect.{Effect, note, issue, send, discard, take, renew, sent_found, perform, perform_all}
use Rattle.session.proofs.Laws.Possible.{Possible, AllPossible}
use Rattle.register.specs.Register.{Register, Touch, Renewal, begun}
use Rattle.register.proofs.Laws.Happen.{happen, happen_all}
use Rattle.register.proofs.Laws.Fate.{no_both}
use Rattle.register.proofs.Laws.Invariant.{Good}
use Rattle.register.proofs.Laws.Reach.{Recalled}
use Rattle.register.proofs.Laws.Depend.{Depended, note-depended, issue-depended, send-depended, discard-depended, take-depended, renew-depended}

-- the log's bits are what the history says, and the history is of the past
pub record Known (r : Register) (l : Log) : Type 0 where
  pub depended : Depended r l
  pub recalled : Recalled r r.happened

-- an effect adds to the history at most one call or renewal, made now
pub effect-recalled : (r : Register) → Recalled r r.happened → (e : Effect) → Recalled (happen e r) (happen e r).happened
unfolding happen
effect-recalled r k e = go e
  where
    past-touch : (t : Touch) → Memᴰ t r.touches → t.time < r.happened + 1
    past-touch t m = let y = k.touches t m in omega arith

    past-renewal : (z : Renewal) → Memᴰ z r.renewals → z.time < r.happened + 1
    past-renewal z m = let y = k.renewals z m in omega arith

    go : (e : Effect) → Recalled (happen e r) (happen e r).happened
    go (note p ops) =
        record {
          touches = λ t m.
              ⊎_elim (past-touch t) (λ (n : Memᴰ t (record { program = p; touched = ops; time = r.happened } ∷ [])). let y = ap (λ (u : Touch). u.time) (mathlib.Core.List.Memᴰ.eq_of_singleton n) in omega arith)
              (mathlib.Core.List.Memᴰ.append_cases r.touches m);
          renewals = past-renewal;
        }
    go (issue p o) = record { touches = past-touch; renewals = past-renewal }
    go (send q) = record { touches = k.touches; renewals = k.renewals }
    go discard = record { touches = past-touch; renewals = past-renewal }
    go (take p) = k
    go (renew p) =
        record {
          touches = past-touch;
          renewals = λ z m.
              ⊎_elim (past-renewal z) (λ (n : Memᴰ z (record { program = p; time = r.happened } ∷ [])). let y = ap (λ (u : Renewal). u.time) (mathlib.Core.List.Memᴰ.eq_of_singleton n) in omega arith)
              (mathlib.Core.List.Memᴰ.append_cases r.renewals m);
        }

-- after an effect too
pub effect-known : (g : Geometry) (r : Register) (x : Model) → Good g r x → Known r x.log → (e : Effect) → Possible g x e → Known (happen e r) (perform e x).log
unfolding perform
effect-known g r x k n e can = record { depended = go e can; recalled = effect-recalled r n.recalled e }
  where
    rise : Rising sequence_of x.log.slots
    rise = ordered-rising x.log.head.next x.log.slots (rising-inv x.log.head.next x.log.slots (formed-inv g.objects g.blocks g.capacity x.log k.kept.sound.log).order)

    go : (e : Effect) → Possible g x e → Depended (happen e r) (perform e x).log
    go (note p ops) h = note-depended r k.timed n.recalled x.log n.depended k.kept.waiting rise p ops
    go (issue p o) h = issue-depended r k.timed n.recalled x.log n.depended k.kept.waiting k.kept.numbers k.kept.next p o
    go (send q) h =
        subst (λ (f : Option Record). Depended (happen (send q) r) (sent_found f x).log) (sym h.1.found)
        (send-depended r k.timed n.recalled x.log n.depended k.kept.waiting k.kept.numbers q h.0 h.1.found)
    go discard h = discard-depended r k.timed n.recalled x.log n.depended k.kept.waiting
    go (take p) h = take-depended r k.timed n.recalled x.log n.depended p
    go (renew p) h = renew-depended r k.timed n.recalled x.log n.depended p

-- as an accepted mount leaves the log and the register
pub begun-known : (v : Volume) → Known (begun v) empty_log
begun-known v =
    record {
      depended =
          record {
            dependents = λ s a ms ws ma wa is p lt. absurd (mathlib.Core.List.Memᴰ.not-nil ms);
            marks = λ p lt. ((λ y. no_both (holds 0 p) y (holds-none p)), λ m. absurd (mathlib.Core.List.Memᴰ.not-nil m.acknowledged));
          };
      recalled = record { touches = λ t m. absurd (mathlib.Core.List.Memᴰ.not-nil m); renewals = λ t m. absurd (mathlib.Core.List.Memᴰ.not-nil m) };
    }

-- a list of effects, where each keeps what is good
pub known-all : (g : Geometry) (es : List Effect) (r : Register) (x : Model) → Good g r x → Known r x.log → AllPossible g x es
    → ((s : Register) (y : Model) (e : Effect) → Good g s y → Possible g y e → Good g (happen e s) (perform e y)) → Known (happen_all es r) (perform_all es x).log
unfolding happen_all perform_all
known-all g [] r x k n can good = n
known-all g (e ∷ es) r x k n can good = known-all g es (happen e r) (perform e x) (good r x e k can.0) (effect-known g r x k n e can.0) can.1 good
