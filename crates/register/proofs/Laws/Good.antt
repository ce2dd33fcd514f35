-- Register and model go together as an accepted mount leaves them, and over every list of effects that may take place.
use Rattle.std.specs.Prelude.{ℕ, ◌≡◌, true, false}
use Rattle.std.proofs.Common.{arith, ap, ◌∙◌}
use Rattle.std.proofs.Math.Path.{refl, sym, subst}
use mathlib.Core.List.Memᴰ
use mathlib.Core.List.{List, [], ◌∷◌, map, Memᴰ}
use Rattle.std.specs.Prelude.{Option, Some}
use Rattle.record.specs.Operation.{Record}
use Rattle.volume_tree.specs.Volume.{Volume}
use Rattle.volume_apply.specs.Apply.{applies}
use Rattle.log_rules.specs.Order.{any, before}
use Rattle.log_rules.specs.Slot.{empty_log}
use Rattle.log_rules.specs.Change.{waiting_of}
use Rattle.log_rules.proofs.Laws.Change.{at-waiting, noted-waiting, taken-waiting}
use Rattle.log_rules.proofs.Laws.Partition.{apply_each, EachApplies, Closed}
use Rattle.session.specs.Call.{Geometry}
use Rattle.session.specs.Model.{Model}
use Rattle.session.specs.Effect.{Effect, note, issue, send, discard, take, renew, sent_found, perform, perform_all}
use Rattle.session.proofs.Laws.Possible.{Sound, Sendable, Possible, AllPossible}
use Rattle.register.specs.Register.{Register, Acknowledged, is_waiting, is_sent, begun, later, recorded_of}
use Rattle.register.specs.Feed.{acknowledged, send_one}
use Rattle.register.proofs.Laws.Happen.{happen, happen_all}
use Rattle.register.proofs.Laws.Fate.{is_live}
use Rattle.register.proofs.Laws.Invariant.{Good}
use Rattle.register.proofs.Laws.Operation.{numbers-rise, numbers-below}
use Rattle.register.proofs.Laws.Pick.{picked_none}
use Rattle.register.proofs.Laws.Kept.{Free, free_of, free-applies, same_kept, send-kept, cut-kept, issue-kept}
use Rattle.register.proofs.Laws.Timed.{timed-on, timed-send, timed-cut, timed-issue}

-- a register without operations goes with an empty log
pub begun-good : (g : Geometry) (v : Volume) → Sound g (record { server = v; view = v; log = empty_log }) → Good g (begun v) (record { server = v; view = v; log = empty_log })
unfolding apply_each waiting_of
begun-good g v s =
    record {
      kept =
          record {
            sound = s;
            mounted = s.server;
            numbers = tt;
            next = refl;
            fit = λ a m. absurd (Memᴰ.not-nil m);
            turn = subst (EachApplies recorded_of v) (sym (picked_none is_live)) tt;
            view = ap (apply_each recorded_of v) (sym (picked_none is_live));
            server = ap (apply_each recorded_of v) (sym (picked_none is_sent));
            closed = subst (Closed recorded_of is_sent) (sym (picked_none is_live)) tt;
            waiting = ap (map recorded_of) (sym (picked_none is_waiting));
          };
      timed =
          record {
            issued = λ a m. absurd (Memᴰ.not-nil m);
            past = λ a u m f. absurd (Memᴰ.not-nil m);
            later = λ a b u m n f w. absurd (Memᴰ.not-nil m);
            shut = λ a c m n s d. absurd (Memᴰ.not-nil m);
          };
    }

module _ (g : Geometry) (r : Register) (x : Model) (k : Good g r x) where
  -- a waiting operation that no waiting one directly precedes applies to the server
  pub good-applies : (q : Record) → Memᴰ q (waiting_of x.log.slots) → any (λ a. before a q) (waiting_of x.log.slots) ≡ false → applies x.server q.operation ≡ true
  good-applies q m none =
      let w = free_of g r x k.kept q m none in
      subst (λ (z : Record). applies x.server z.operation ≡ true) w.1 (free-applies g r x k.kept w.0 w.2)

  -- an effect that sends, issues and discards nothing
  same_good : (y : Model) → Sound g y → y.server ≡ x.server → y.view ≡ x.view → y.log.head.next ≡ x.log.head.next
      → waiting_of y.log.slots ≡ waiting_of x.log.slots → (Good g r y) × Good g (later r) y
  same_good y s es ev en ew =
      let kept = same_kept g r x k.kept y s es ev en ew in
      (record { kept = kept; timed = k.timed }, record { kept = kept; timed = timed-on r.operations r.happened k.timed })

  -- the send of a waiting operation that no waiting one directly precedes
  free-good : (a : Acknowledged) → Free r.operations a → Sound g (sent_found (Some a.recorded) x)
      → Good g (send_one a.recorded.sequence r) (sent_found (Some a.recorded) x)
  free-good a f s =
      record { kept = send-kept g r x k.kept a f s; timed = timed-send r.operations r.happened k.timed (numbers-rise 1 r.operations k.kept.numbers) a f }

  send-good : (q : ℕ) (z : Record) → Sendable x q z → Sound g (perform (send q) x) → Good g (happen (send q) r) (perform (send q) x)
  unfolding perform happen
  send-good q z d =
      let m = at-waiting q x.log z d.found in
      let w = free_of g r x k.kept z m.0 d.free in
      subst (λ (n : ℕ). Sound g (perform (send q) x) → Good g (happen (send n) r) (perform (send q) x)) (ap (λ (y : Record). y.sequence) w.1 ∙ m.1)
      (subst (λ (f : Option Record). Sound g (sent_found f x) → Good g (happen (send w.0.recorded.sequence) r) (sent_found f x)) (ap (λ (y : Record). Some y) w.1 ∙ sym d.found) (free-good w.0 w.2))

  -- register and model go together after each effect that may take place
  pub effect-good : (e : Effect) → Possible g x e → Sound g (perform e x) → Good g (happen e r) (perform e x)
  unfolding perform happen
  effect-good (note p ops) h s = (same_good (perform (note p ops) x) s refl refl refl (noted-waiting p ops x.log.slots)).1
  effect-good (issue p o) h s =
      record {
        kept = issue-kept g r x k.kept p o h s;
        timed = timed-issue r.operations r.happened k.timed (acknowledged p o r) refl refl (λ b m. let y = numbers-below 1 r.operations k.kept.numbers b m in omega arith);
      }
  effect-good (send q) h s = send-good q h.0 h.1 s
  effect-good discard h s = record { kept = cut-kept g r x k.kept r.happened s; timed = timed-cut r.operations r.happened k.timed }
  effect-good (take p) h s = (same_good (perform (take p) x) s refl refl refl (taken-waiting p x.log)).0
  effect-good (renew p) h s = (same_good (perform (renew p) x) s refl refl refl refl).1

-- and after each list of effects of which each may take place where those before it have
pub good-all : (g : Geometry) (es : List Effect) (r : Register) (x : Model) → Good g r x → AllPossible g x es
    → ((y : Model) (e : Effect) → Sound g y → Possible g y e → Sound g (perform e y)) → Good g (happen_all es r) (perform_all es x)
unfolding happen_all perform_all
good-all g [] r x k p s = k
good-all g (e ∷ es) r x k p s = good-all g es (happen e r) (perform e x) (effect-good g r x k e p.0 (s x e k.kept.sound p.0)) p.1 s
