-- What sends one after the other leave, in the log's own terms.
use Rattle.std.specs.Prelude.{ℕ, ◌≡◌, refl, true}
use Rattle.std.proofs.Common.{arith, sym, ap, ◌∙◌, subst}
use Rattle.std.specs.Prelude.{Option, Some}
use mathlib.Core.List.{List, [], ◌∷◌, Memᴰ}
use Rattle.record.specs.Operation.{Record}
use Rattle.volume_apply.specs.Apply.{apply}
use Rattle.log_rules.specs.Slot.{well_formed_log}
use Rattle.log_rules.specs.Change.{waiting_of, waiting_at}
use Rattle.log_rules.specs.Change
use Rattle.log_rules.proofs.Laws.Change.{waiting-at, sent-good, sent-waiting}
use Rattle.log_rules.proofs.Laws.Order.{Rising}
use Rattle.log_rules.specs.Sends.{apply_all, sent_all}
use Rattle.session.specs.Model.{Model, with_server, with_log}
use Rattle.session.proofs.Laws.Ready.{around}
use Rattle.session.specs.Effect.{sent_found, perform, perform_all, sends}

-- Sends of waiting operations in issue order: each is applied to the server and leaves the log.
pub sends-performed : (n b m : ℕ) (rs : List Record) (x : Model) → well_formed_log n b m x.log ≡ true → Rising (λ (r : Record). r.sequence) rs
    → ((r : Record) → Memᴰ r rs → Memᴰ r (waiting_of x.log.slots))
    → perform_all (sends rs) x ≡ with_server (apply_all rs x.server) (with_log (sent_all rs x.log) x)
unfolding perform_all perform apply_all sent_all
sends-performed n b m [] x w rise all = refl
sends-performed n b m (r ∷ rs) x w rise all =
    let l = x.log in
    let q = r.sequence in
    let e : waiting_at q l ≡ Some r = waiting-at n b m l w (all r (Memᴰ.head refl)) in
    let t = sent-waiting q l r e in
    let y = with_server (apply x.server r.operation) (with_log (Change.sent q l) x) in
    let others : (a : Record) → Memᴰ a rs → Memᴰ a (waiting_of (Change.sent q l).slots) =
    λ a k. subst (λ (z : List Record). Memᴰ a z) (sym t.3)
    (around t.0 t.1 r a (subst (λ (z : List Record). Memᴰ a z) t.2 (all a (Memᴰ.tail k)))
    (λ i. let lt = rise.0 a k in let j : a.sequence ≡ r.sequence = ap (λ (c : Record). c.sequence) i in omega arith)) in
    ap (λ (f : Option Record). perform_all (sends rs) (sent_found f x)) e ∙ sends-performed n b m rs y (sent-good n b m q l w) rise.1 others
