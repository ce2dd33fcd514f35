-- What the calls of a host that ran on the machine show is right, so the claim holds of them.
use Rattle.std.specs.Prelude.{ℕ, ◌≡◌}
use Rattle.std.proofs.Math.Nat.{ℕ_set}
use Rattle.std.proofs.Common.{ap}
use Rattle.std.proofs.Math.Logic.{∥∥₁_elim}
use mathlib.Core.List.{List, [], ◌∷◌, is_set}
use seplogic.Ra.Ura.{Ura}
use base.Logic.{SProp, sep, emp}
use prog.Memory.{Memory}
use prog.Machine.{Program}
use prog.Model.{Model}
use prog.Routine.{Env, machine}
use prog.Wired.{Wired}
use prog.Linked.{Has, Has-Wired, in_program, machine-Follows}
use types.Logic.{Logic}
use contract.Running.{Running}
use contract.Adequate.{Satisfies}
use denote.Triple.Entry.{on_entry}
use denote.Triple.Bound.{Bound}
use Rattle.volume_tree.specs.Volume.{Volume}
use Rattle.session.specs.Step.{Result}
use Rattle.entries.specs.Keeps.{Entry}
use Rattle.entries.specs.Observed.{AllRight, HandedOn}
use Rattle.entries.specs.Table
use Rattle.entries.specs.Host.{OnList}
use Rattle.entries.specs.Ran.{Ran}
use Rattle.entries.proofs.Called.{Called, sight_of, AnyCall, sights}
use Rattle.entries.proofs.Laws.Runs.{runs}
use Rattle.entries.proofs.Laws.Host.{on_list}

-- two proofs that results are equal are one
result-set : (x y : Result) (p q : x ≡ y) → p ≡ q
result-set x y p q = λ j i.
    record {
      gives =
          record {
            returned = ℕ_set x.gives.returned y.gives.returned (ap (λ (r : Result). r.gives.returned) p) (ap (λ (r : Result). r.gives.returned) q) j i;
            results = bytes x.gives.results y.gives.results (ap (λ (r : Result). r.gives.results) p) (ap (λ (r : Result). r.gives.results) q) j i;
            buffer = bytes x.gives.buffer y.gives.buffer (ap (λ (r : Result). r.gives.buffer) p) (ap (λ (r : Result). r.gives.buffer) q) j i;
          };
      leaves =
          record {
            server = bytes x.leaves.server y.leaves.server (ap (λ (r : Result). r.leaves.server) p) (ap (λ (r : Result). r.leaves.server) q) j i;
            view = bytes x.leaves.view y.leaves.view (ap (λ (r : Result). r.leaves.view) p) (ap (λ (r : Result). r.leaves.view) q) j i;
            log = bytes x.leaves.log y.leaves.log (ap (λ (r : Result). r.leaves.log) p) (ap (λ (r : Result). r.leaves.log) q) j i;
          };
    }
  where
    bytes : (s t : List ℕ) (p q : s ≡ t) → p ≡ q
    bytes = is_set ℕ_set

-- every entry, wherever its code is, called from a memory that has its arguments, whatever they are and whatever else there is, ends and is a call
-- that ran
pub entry_runs : {M : Type 1} {𝓤 : Ura M} (𝓛 : Logic 𝓤) (𝓜 : Model 𝓤 𝓛.H) (𝓡 : Running 𝓤 𝓛.H 𝓜) {Sight : Type 0} {Right : Sight → Type 0} (e : Entry Sight Right)
    (γ : Env) → Wired γ e.code → (x : Bound 𝓛 e.ended.signature) (σ : Memory) (F : SProp 𝓤)
    → Satisfies 𝓤 𝓛.H 𝓜 σ (sep 𝓤 (sep 𝓤 (on_entry 𝓛 e.ended.signature x.0 x.1 x.3 x.4) (emp 𝓤)) F)
    → ∥ Ran 𝓛 𝓜 e.ended (γ e.name) (λ κs a r z. Right (e.observed κs a r z)) x σ F ∥₁
entry_runs {M} 𝓛 𝓜 𝓡 {Sight} {Right} e γ w x σ F s = runs 𝓛 𝓜 𝓡 e.ended e.code e.name (λ κs a r z. Right (e.observed κs a r z)) γ w (e.kept M) x σ F s

-- so it is in the machine's run of any program that has its code
pub entry_wired : {Sight : Type 0} {Right : Sight → Type 0} (e : Entry Sight Right) (P : Program) → Has (in_program P) e.code → Wired (machine P) e.code
entry_wired e P has = Has-Wired (in_program P) (machine P) (machine-Follows P) e.code has

module _ {M : Type 1} {𝓤 : Ura M} (𝓛 : Logic 𝓤) (𝓜 : Model 𝓤 𝓛.H) (γ : Env) where
  -- what is seen of such calls is right
  pub all_right : (cs : List (AnyCall 𝓛 𝓜 γ)) → AllRight (sights 𝓛 𝓜 γ cs)
  all_right [] = tt
  all_right (c ∷ cs) = (∥∥₁_elim c.called.ran.promise (result-set _ _) (λ h. h), all_right cs)

  -- a mount that ran and was accepted, and calls after it that ran, on the buffers that the host handed on
  pub called-demand : (m : Called 𝓛 𝓜 γ Table.mount) (cs : List (AnyCall 𝓛 𝓜 γ)) → (sight_of 𝓛 𝓜 γ Table.mount m).returned ≡ 0
      → HandedOn (sight_of 𝓛 𝓜 γ Table.mount m).geometry (sight_of 𝓛 𝓜 γ Table.mount m).after (sights 𝓛 𝓜 γ cs)
      → (v : Volume) × OnList (sight_of 𝓛 𝓜 γ Table.mount m) (sights 𝓛 𝓜 γ cs) v
  called-demand m cs e h =
      on_list (sight_of 𝓛 𝓜 γ Table.mount m) (sights 𝓛 𝓜 γ cs)
      (record { mounted = ∥∥₁_elim m.ran.promise (result-set _ _) (λ z. z); accepted = e; right = all_right cs; handed = h })
