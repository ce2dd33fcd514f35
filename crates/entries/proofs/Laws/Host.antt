-- The claim on the entries, from the claim on lists of calls and from what each entry's call shows.
use Rattle.std.specs.Prelude.{◌≡◌, refl, List, [], ◌∷◌}
use Rattle.std.proofs.Common.{sym, ap, ◌∙◌, subst}
use Rattle.volume_tree.specs.Volume.{Volume}
use Rattle.log_rules.specs.Order.{needed}
use Rattle.log_rules.specs.Change.{waiting_of}
use Rattle.session.specs.Call.{Geometry, Buffers, Call, push, fsync}
use Rattle.session.specs.Step.{Result, given, step, mount}
use Rattle.register.specs.Claim.{Sent, Unchanged, Stopped}
use Rattle.register.specs.Entries.{Promised, calls_of}
use Rattle.register.proofs.Laws.Entry.{entries-demand}
use Rattle.register.proofs.Laws.Demand.{demands}
use Rattle.register.proofs.Laws.Across.{across}
use Rattle.register.proofs.Laws.Spelling.{spellings}
use Rattle.register.proofs.Laws.Removal.{removals}
use Rattle.entries.specs.Observed.{Observed, Right, AllRight, HandedOn, Mounting}
use Rattle.entries.specs.Host.{seen_of, Hosted, OnList, returned, result_of, OnAny, HostDemands}

-- calls that are right, on buffers that were handed on
pub promised : (g : Geometry) (s : Buffers) (os : List Observed) → AllRight os → HandedOn g s os → Promised g s (seen_of os)
promised g s [] r h = tt
promised g s (o ∷ os) r h = (r.0 ∙ (λ i. step (h.0 i) o.call (h.1 i)), promised g o.after os r.1 h.2)

-- from an accepted mount on, any calls
pub on_list : (m : Mounting) (os : List Observed) → Hosted m os → (v : Volume) × OnList m os v
on_list m os h =
    let g = m.geometry in
    let s = m.before in
    let cs = calls_of (seen_of os) in
    let d = entries-demand g s m.after (seen_of os) ((λ i. given (sym h.accepted i) [] [] m.after) ∙ h.mounted) (promised g m.after os h.right h.handed) in
    let v = d.volume in (
      v,
      record {
        mounted = d.mounted;
        shows = d.shows;
        demand = d.demand;
        across = λ n k w. across g s v d.mounted cs n k w;
        spelled = spellings g s v d.mounted cs;
        removed = removals g s v d.mounted cs;
      },
    )

-- any buffers
pub on-any : (o : Observed) → Right o → OnAny o
on-any o r =
    record {
      pushed = λ x st q is m fit.
          let d = demands.pushed g s x st q m fit in
          let e = number (push q.sequence) is in
          ((λ z. d.0 (sym e ∙ z)), λ z. e ∙ d.1 z);
      sends = λ x st q is z. subst (λ (y : Result). Sent g x q y.leaves) (sym (same (push q) is)) (demands.sends g s x st q (sym (number (push q) is) ∙ z));
      unchanged = λ n l d.
          let e = number o.call refl in
          subst (Unchanged o.call s) (sym r) (demands.unchanged g o.call s (λ z. n (e ∙ z)) (λ z. l (e ∙ z)) (λ z. d (e ∙ z)));
      stopped = λ x st p t k is z.
          subst (Stopped g k x (needed t (waiting_of x.log.slots))) (sym (same (fsync p t k) is)) (demands.stopped g s x st p t k (sym (number (fsync p t k) is) ∙ z));
    }
  where
    g : Geometry
    g = o.geometry

    s : Buffers
    s = o.before

    same : (c : Call) → o.call ≡ c → result_of o ≡ step o.geometry c o.before
    same c is = r ∙ ap (λ (d : Call). step o.geometry d o.before) is

    number : (c : Call) → o.call ≡ c → returned o ≡ (step o.geometry c o.before).gives.returned
    number c is = ap (λ (y : Result). y.gives.returned) (same c is)

pub host-demands : HostDemands
host-demands =
    record {
      lists = λ m os h. on_list m os h;
      determined = λ m n os ps v w a b eo eb es h k ba bb same.
          let left : (mount m.geometry m.before).leaves.server ≡ m.after.server = ap (λ (y : Result). y.leaves.server) (sym h.mounted) in
          let right : n.after.server ≡ (mount n.geometry n.before).leaves.server = ap (λ (y : Result). y.leaves.server) k.mounted in
          demands.determined m.geometry n.geometry m.before n.before v w a.mounted b.mounted eo eb (left ∙ es ∙ right) (calls_of (seen_of os)) (calls_of (seen_of ps)) ba bb same;
      any = λ o r. on-any o r;
    }
