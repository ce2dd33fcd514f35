-- A run of a function on the machine, from a memory that has its arguments.
use Rattle.std.specs.Prelude.{ℕ, ◌≡◌}
use seplogic.Ra.Ura.{Ura}
use mir.Val.{Val}
use base.Logic.{SProp, sep}
use prog.Memory.{Memory}
use prog.Machine.{done}
use prog.Model.{Model}
use prog.Routine.{Routine, step}
use types.Logic.{Logic, sem}
use contract.Adequate.{Satisfies}
use denote.Triple.Entry.{Res}
use denote.Triple.Bound.{Bound, passed}
use denote.Triple.Clauses.{Ended, Lasts, at_exit, lasts}
use denote.Triple.Spec.{Back}
use Rattle.entries.specs.Keeps.{Promise}

module _ {M : Type 1} {𝓤 : Ura M} (𝓛 : Logic 𝓤) (𝓜 : Model 𝓤 𝓛.H) (T : Ended) (f : Routine) (P : Promise T) where
  -- a run of the function from a memory, on arguments: it ends with a value in a memory that has the result and what is left behind the
  -- references, and these keep the promise; whatever else there was is still there
  open 𝓛 use {H}

  pub record Ran (x : Bound 𝓛 T.signature) (σ : Memory) (F : SProp 𝓤) : Type 1 where
    pub fuel : ℕ
    pub value : Val
    pub memory : Memory
    pub ends : step f fuel (passed 𝓛 T.signature x) σ ≡ done (value, memory)
    pub result : Res T.signature x.0
    pub left : Lasts T x.0 x.3
    pub owned : Satisfies 𝓤 H 𝓜 memory (sep 𝓤 (sem 𝓛 (lasts T x.0 x.3 left)) (sep 𝓤 (Back 𝓛 T.signature x value result) F))
    pub promise : ∥ P x.0 x.3 result (at_exit T x.0 x.3 left) ∥₁
