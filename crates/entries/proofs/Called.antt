-- Calls of the entries that ran on the machine, where each name means what γ says.
use mathlib.Core.List.{List, map, Memᴰ}
use seplogic.Ra.Ura.{Ura}
use base.Logic.{SProp}
use prog.Memory.{Memory}
use prog.Model.{Model}
use prog.Routine.{Env}
use prog.Wired.{Wired}
use types.Logic.{Logic}
use denote.Triple.Bound.{Bound}
use denote.Triple.Clauses.{at_exit}
use Rattle.entries.specs.Keeps.{Entry}
use Rattle.entries.specs.Observed.{Observed, Right}
use Rattle.entries.proofs.Rows.{table}
use Rattle.entries.specs.Ran.{Ran}

module _ {M : Type 1} {𝓤 : Ura M} (𝓛 : Logic 𝓤) (𝓜 : Model 𝓤 𝓛.H) (γ : Env) where
  -- a call of an entry, whose code is there: on which arguments, from which memory, what else there was, and its run
  pub record Called {Sight : Type 0} {Right : Sight → Type 0} (e : Entry Sight Right) : Type 2 where
    pub wired : Wired γ e.code
    pub on : Bound 𝓛 e.ended.signature
    pub memory : Memory
    pub beside : SProp 𝓤
    pub ran : Ran 𝓛 𝓜 e.ended (γ e.name) (λ κs a r x. Right (e.observed κs a r x)) on memory beside

  -- what is seen of it
  abbrev pub sight_of : {Sight : Type 0} {Right : Sight → Type 0} (e : Entry Sight Right) → Called e → Sight
  sight_of e c = e.observed c.on.0 c.on.3 c.ran.result (at_exit e.ended c.on.0 c.on.3 c.ran.left)

  -- a call of an entry of the table
  pub record AnyCall : Type 2 where
    pub entry : Entry Observed Right
    pub among : Memᴰ entry table
    pub called : Called entry

  abbrev pub sights : List AnyCall → List Observed
  sights cs = map (λ (c : AnyCall). sight_of c.entry c.called) cs
