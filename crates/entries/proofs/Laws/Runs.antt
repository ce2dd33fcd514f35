-- What a function that keeps a promise does on the machine, where its code is: called from a memory that has its arguments, it ends, and what
-- it returns and leaves there keeps the promise.
use Rattle.std.proofs.Math.Logic.{∥∥₁_prop, ∥∥₁_elim, ∥∥₁_map}
use seplogic.Ra.Ura.{Ura}
use mir.Val.{Val}
use base.Logic.{SProp, ent, sep, ex, emp, via, comm∗, assoc∗, mono_l, fst∗, snd∗}
use prog.Memory.{Memory}
use prog.Model.{Model}
use prog.Routine.{Callee, Env}
use prog.Wired.{Code, Wired}
use types.Logic.{Logic, sem}
use contract.Monad.{fact}
use contract.Running.{Running, tables, within, strict}
use contract.Adequate.{Satisfies, sat_weaken, sat_⇛, sat_ex∗, sat_fact}
use denote.Triple.Entry.{Res, on_entry}
use denote.Triple.Bound.{Bound}
use denote.Triple.Clauses.{Ended, Lasts, at_exit, lasts, closing}
use denote.Triple.Spec.{Back, triple_of}
use denote.Triple.Adequate.{adequate}
use Rattle.entries.specs.Keeps.{Promise, Keeps}
use Rattle.entries.specs.Ran.{Ran}

module _ {M : Type 1} {𝓤 : Ura M} (𝓛 : Logic 𝓤) (𝓜 : Model 𝓤 𝓛.H) (𝓡 : Running 𝓤 𝓛.H 𝓜) (T : Ended) (c : Code) (f : Callee) (P : Promise T) (γ : Env) where
  open 𝓛 use {H}

  module _ (w : Wired γ c) (k : Keeps T c f P M) (x : Bound 𝓛 T.signature) (σ : Memory) (F : SProp 𝓤) where
    -- what is told of the references, and the promise, apart
    abbrev behind : Lasts T x.0 x.3 → SProp 𝓤
    behind ws = sem 𝓛 (lasts T x.0 x.3 ws)

    abbrev pledged : Res T.signature x.0 → Lasts T x.0 x.3 → SProp 𝓤
    pledged r ws = fact 𝓤 (P x.0 x.3 r (at_exit T x.0 x.3 ws))

    abbrev told : (r : Res T.signature x.0) → Lasts T x.0 x.3 → SProp 𝓤
    told r ws = sep 𝓤 (behind ws) (pledged r ws)

    abbrev back : Val → Res T.signature x.0 → SProp 𝓤
    back v r = Back 𝓛 T.signature x v r

    -- what the references leave first, and the frame last
    turned : (v : Val) (r : Res T.signature x.0) → ent 𝓤 (sep 𝓤 (sep 𝓤 (back v r) (ex 𝓤 (told r))) F) (sep 𝓤 (ex 𝓤 (told r)) (sep 𝓤 (back v r) F))
    turned v r = via 𝓤 (sep 𝓤 (sep 𝓤 (ex 𝓤 (told r)) (back v r)) F) (mono_l 𝓤 F (comm∗ 𝓤 (back v r) (ex 𝓤 (told r)))) (assoc∗ 𝓤 (ex 𝓤 (told r)) (back v r) F)

    pub runs : Satisfies 𝓤 H 𝓜 σ (sep 𝓤 (sep 𝓤 (on_entry 𝓛 T.signature x.0 x.1 x.3 x.4) (emp 𝓤)) F) → ∥ Ran 𝓛 𝓜 T (γ f) P x σ F ∥₁
    runs s =
        let 𝓢 : Running 𝓤 H 𝓜 = within 𝓤 H 𝓜 (strict 𝓤 H 𝓜 𝓡) γ in
        ∥∥₁_elim (adequate 𝓤 H 𝓜 (tables 𝓤 H 𝓜 𝓢 γ) ((λ s o. o), tt) f (triple_of 𝓛 T.signature (closing 𝓛 T (λ κs a. record { ghost = Unit {0}; requires = λ g. emp 𝓤; ensures = λ g r e. fact 𝓤 (P κs a r e) }))) (k 𝓤 𝓛 𝓜 𝓢 w) (x, tt) σ F s) ∥∥₁_prop (λ u.
        ∥∥₁_elim (sat_ex∗ 𝓤 H 𝓜 u.2 (λ (r : Res T.signature x.0). sep 𝓤 (back u.1 r) (ex 𝓤 (told r))) F (sat_⇛ 𝓤 H 𝓜 u.2 (ex 𝓤 (λ (r : Res T.signature x.0). sep 𝓤 (back u.1 r) (ex 𝓤 (told r)))) F u.4)) ∥∥₁_prop (λ r.
        ∥∥₁_map (sat_ex∗ 𝓤 H 𝓜 u.2 (told r.0) (sep 𝓤 (back u.1 r.0) F) (sat_weaken 𝓤 H 𝓜 u.2 (turned u.1 r.0) r.1)) (λ w.
        record {
          fuel = u.0;
          value = u.1;
          memory = u.2;
          ends = u.3;
          result = r.0;
          left = w.0;
          owned = sat_weaken 𝓤 H 𝓜 u.2 (mono_l 𝓤 {P = told r.0 w.0} {P' = behind w.0} (sep 𝓤 (back u.1 r.0) F) (fst∗ 𝓤 (behind w.0) (pledged r.0 w.0))) w.1;
          promise = sat_fact 𝓤 H 𝓜 u.2 (sep 𝓤 (told r.0 w.0) (sep 𝓤 (back u.1 r.0) F)) (P x.0 x.3 r.0 (at_exit T x.0 x.3 w.0))
              (via 𝓤 (sep 𝓤 (told r.0 w.0) (sep 𝓤 (back u.1 r.0) F)) (snd∗ 𝓤 (𝓜.mem u.2) (sep 𝓤 (told r.0 w.0) (sep 𝓤 (back u.1 r.0) F)))
              (via 𝓤 (told r.0 w.0) (fst∗ 𝓤 (told r.0 w.0) (sep 𝓤 (back u.1 r.0) F)) (snd∗ 𝓤 (behind w.0) (pledged r.0 w.0)))) w.1;
        })))
