-- Environments in which an entry's code is: the one made of this code alone, and those that a link of crates makes.
use mathlib.Core.Bool.{true}
use seplogic.Ra.Ura.{Ura}
use base.Logic.{SProp, sep, emp}
use mir.Syntax.{Symbol}
use prog.Memory.{Memory}
use prog.Model.{Model}
use prog.Routine.{Callee, Env, ◌≼◌}
use prog.Wired.{Code, Wired}
use prog.Linked
use prog.Linked.{Has, in_code, tie, tie-Wired, Wired-least}
use prog.LinkedThreads.{HasT, tie_t, tie_t-follows, tie_t-threads, has-wired_t}
use types.Logic.{Logic}
use contract.Running.{Running}
use contract.Adequate.{Satisfies}
use denote.Triple.Entry.{on_entry}
use denote.Triple.Bound.{Bound}
use Rattle.entries.specs.Keeps.{Entry}
use Rattle.entries.specs.Ran.{Ran}
use Rattle.entries.proofs.Laws.Called.{entry_runs}

-- what code needs to be an environment of its own: it starts no thread, and no symbol in it has two different functions
abbrev pub Coherent : Code → Type 0
Coherent c = Has (in_code c) c

-- the environment made of the code alone
abbrev pub own : Code → Env
own c = tie (in_code c)

-- the code is there
pub own_wired : (c : Code) → Coherent c → Wired (own c) c
own_wired c h = tie-Wired c h

-- and it is the least such environment: a call that ends in it ends so wherever the code is
pub own_least : (c : Code) (γ : Env) → Wired γ c → (k : Callee) → own c k ≼ γ k
own_least c γ w = Wired-least c γ w

-- the look-up that a build links finds the code, so it is in the environment of this look-up
pub linked_wired : (look : Symbol → Linked.Entry) (c : Code) → HasT look true c → Wired (tie_t look) c
linked_wired look c h = has-wired_t look (tie_t look) (tie_t-follows look) (tie_t-threads look) c h

module _ {M : Type 1} {𝓤 : Ura M} (𝓛 : Logic 𝓤) (𝓜 : Model 𝓤 𝓛.H) (𝓡 : Running 𝓤 𝓛.H 𝓜) {Sight : Type 0} {Right : Sight → Type 0} (e : Entry Sight Right) where
  -- an entry whose code is coherent, called in the environment of its own code from a memory that has its arguments, ends and is a call that ran
  pub entry_runs_alone : Coherent e.code → (x : Bound 𝓛 e.ended.signature) (σ : Memory) (F : SProp 𝓤)
      → Satisfies 𝓤 𝓛.H 𝓜 σ (sep 𝓤 (sep 𝓤 (on_entry 𝓛 e.ended.signature x.0 x.1 x.3 x.4) (emp 𝓤)) F)
      → ∥ Ran 𝓛 𝓜 e.ended (own e.code e.name) (λ κs a r z. Right (e.observed κs a r z)) x σ F ∥₁
  entry_runs_alone h x σ F s = entry_runs 𝓛 𝓜 𝓡 e (own e.code) (own_wired e.code h) x σ F s

  -- and so does an entry whose code a link has found
  pub entry_runs_linked : (look : Symbol → Linked.Entry) → HasT look true e.code → (x : Bound 𝓛 e.ended.signature) (σ : Memory) (F : SProp 𝓤)
      → Satisfies 𝓤 𝓛.H 𝓜 σ (sep 𝓤 (sep 𝓤 (on_entry 𝓛 e.ended.signature x.0 x.1 x.3 x.4) (emp 𝓤)) F)
      → ∥ Ran 𝓛 𝓜 e.ended (tie_t look e.name) (λ κs a r z. Right (e.observed κs a r z)) x σ F ∥₁
  entry_runs_linked look h x σ F s = entry_runs 𝓛 𝓜 𝓡 e (tie_t look) (linked_wired look e.code h) x σ F s
